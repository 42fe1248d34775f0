-- Reading takes exactly the texts that the writer can write, and each in one way; an empty text is bad at line 1.
-- Assumes nothing.
use mathlib.Core.Path.{◌≡◌, refl, sym, ap, ◌∙◌}
use mathlib.Core.Bool.{true}
use mathlib.Core.Logic.{⊎_elim}
use mathlib.Core.List.{List, []}
use Prim.Native.Nat.{ℕ, ◌<◌, ◌≤◌}
use native.Mathlib.Nat.{eq-or-lt_of_le}
use native.Mathlib.Omega.{arith}
use lib.ListN.{length, length-append}
use Rattle.std.specs.Prelude.{Ok, Err}
use Rattle.std.proofs.lemmas.Bool.{cases_lt}
use Rattle.answers.specs.Answers.{done_of}
use Rattle.cutting.specs.Cutting.{count_of}
use Rattle.lists.specs.Lists.{line_text, list_text, IsList}
use Rattle.lists.specs.Lines.{FirstBad}
use Rattle.lists.specs.Written.{write_answer, CanWrite}
use Rattle.lists.specs.Promises.{TakesExactly, ReadsBack, ReadsOneWay, RefusesEmpty}
use Rattle.lists.proofs.Listing.{list_once}
use Rattle.lists.proofs.Bad.{bad_no_list, bad_first}
use Rattle.lists.proofs.Lines.{line_some}
use Rattle.lists.proofs.OneLine.{line_lined}
use Rattle.lists.proofs.Writing.{done_within, answer_done, written}

-- ---- In one way

bad_once : (t : List ℕ) (m n : ℕ) → FirstBad t m → FirstBad t n → m < n → ⊥
bad_once t m n a b h = a.bad (b.good m a.from h)

pub read_once : ReadsOneWay
read_once t (Ok a) (Ok b) p q =
    let s = list_once a.job a.revision a.body b.job b.revision b.body (sym p.0.text ∙ q.0.text) in
    λ i. Ok (record { job = s.0 i; revision = s.1 i; segments = (p.1 ∙ ap count_of s.2 ∙ sym q.1) i; body = s.2 i })
read_once t (Ok a) (Err b) p q = absurd (bad_no_list t b.line q (a.job, a.revision, a.body, p.0))
read_once t (Err a) (Ok b) p q = absurd (bad_no_list t a.line p (b.job, b.revision, b.body, q.0))
read_once t (Err a) (Err b) p q = λ i. Err (record { line = once i })
  where
    once : a.line ≡ b.line
    once =
        ⊎_elim (λ (h : a.line < b.line). absurd (bad_once t a.line b.line p q h))
        (λ (g : b.line ≤ a.line). ⊎_elim (λ (e : b.line ≡ a.line). sym e) (λ (l : b.line < a.line). absurd (bad_once t b.line a.line q p l)) (eq-or-lt_of_le g)) (cases_lt a.line b.line)

-- ---- What the writer can write

pub list_written : (t : List ℕ) → IsList t → CanWrite t
list_written t is =
    let L = is.3 in
    let done : write_answer is.0 is.1 is.2 t ≡ Ok tt = answer_done is.0 is.1 is.2 t L.within (ap length L.text) in
    record {
      job = is.0;
      revision = is.1;
      body = is.2;
      out = t;
      job_fits = L.job_fits;
      revision_fits = L.revision_fits;
      done = done;
      text = L.text ∙ written is.0 is.1 is.2 t (ap done_of done);
    }

pub written_list : (t : List ℕ) → CanWrite t → IsList t
written_list t c =
    let d : done_of (write_answer c.job c.revision c.body c.out) ≡ true = ap done_of c.done in (
      c.job,
      c.revision,
      c.body,
      record {
        job_fits = c.job_fits;
        revision_fits = c.revision_fits;
        within = (done_within c.job c.revision c.body c.out d).0;
        text = c.text ∙ sym (written c.job c.revision c.body c.out d);
      },
    )

-- ---- Exactly these are taken

pub takes_exactly : TakesExactly
takes_exactly t (Ok says) p = ((λ u. list_written t (says.job, says.revision, says.body, p.0)), (λ c. tt))
takes_exactly t (Err bad) p = ((λ u. absurd u), (λ c. bad_no_list t bad.line p (written_list t c)))

-- and what is written is read back
pub reads_back : ReadsBack
reads_back j r n a hj hr hn p = read_once (list_text j r n) a (Ok (record { job = j; revision = r; segments = count_of n; body = n })) p (record { job_fits = hj; revision_fits = hr; within = hn; text = refl }, refl)

-- ---- No text at all

pub empty_refused : RefusesEmpty
empty_refused a p =
    read_once [] a (Err (record { line = 1 })) p
    (bad_first [] (λ j r l more hj hr hl e. omega (arith, ap length e, length-append (line_text j r 0 l) more, line_some (line_text j r 0 l) (line_lined j r 0 l))))
