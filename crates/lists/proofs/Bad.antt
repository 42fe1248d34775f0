-- The first bad line: of a text with no first line, and of one whose next line cannot follow.
-- Assumes nothing.
use mathlib.Core.Path.{◌≡◌, sym, ap, ◌∙◌}
use mathlib.Core.List.{List, ◌++◌}
use Prim.Native.Nat.{ℕ, ◌+◌, ◌<◌, ◌≤◌, ◌^◌}
use native.Mathlib.Omega.{arith}
use lib.ListN.{length}
use Rattle.rules.specs.Rules.{segment_bytes, longest_job}
use Rattle.cutting.specs.Cutting.{count_of}
use Rattle.lists.specs.Lists.{line_text, lines_of, line_at, list_text, IsList}
use Rattle.lists.specs.Lines.{first_lines, FirstBad}
use Rattle.lists.proofs.Lengths.{count_some, length_most}
use Rattle.lists.proofs.Lines.{first_fewer}
use Rattle.lists.proofs.Listing.{lined, cut, first_of_list, CanFollow, follows, first_is}

-- the first lines of a list are a list
pub list_lines : (t : List ℕ) (m : ℕ) → IsList t → 1 ≤ m → IsList (first_lines m t)
list_lines t m is p =
    let L = is.3 in
    let u = first_of_list is.0 is.1 is.2 m p in
    (is.0, is.1, u.0, record { job_fits = L.job_fits; revision_fits = L.revision_fits; within = omega (arith, u.1, L.within); text = ap (first_lines m) L.text ∙ u.2 })

-- so a text with a bad line is none
pub bad_no_list : (t : List ℕ) (n : ℕ) → FirstBad t n → IsList t → ⊥
bad_no_list t n b is = b.bad (list_lines t n is b.from)

pub bad_first : (t : List ℕ) → ((j r l : ℕ) (more : List ℕ) → j < 2 ^ 64 → r < 2 ^ 64 → l ≤ segment_bytes → t ≡ line_text j r 0 l ++ more → ⊥) → FirstBad t 1
bad_first t never = record {
  from = omega arith;
  good = λ m a b. absurd (omega arith);
  bad = λ is.
      let u = first_is is.0 is.1 t is.2 is.3.text in
      never is.0 is.1 _ u.0 is.3.job_fits is.3.revision_fits (length_most is.2 0 (count_some is.2)) u.1;
}

pub bad_next : (t rest : List ℕ) (j r n k : ℕ) → j < 2 ^ 64 → r < 2 ^ 64 → n ≤ longest_job → k ≡ count_of n → t ≡ list_text j r n ++ rest → 0 < length rest
    → ((l : ℕ) (more : List ℕ) → CanFollow n k l → rest ≡ line_text j r k l ++ more → ⊥) → FirstBad t (k + 1)
unfolding list_text
bad_next t rest j r n k hj hr hn hk ht pos never =
    let h : t ≡ lines_of (line_at j r n) k ++ rest = ht ∙ ap (λ (m : ℕ). lines_of (line_at j r n) m ++ rest) (sym hk) in
    record {
      from = omega arith;
      good = λ m a b.
          let u = cut j r n m a (omega arith) in
          (j, r, u.0, record { job_fits = hj; revision_fits = hr; within = omega (arith, u.1); text = ap (first_lines m) h ∙ first_fewer (line_at j r n) (lined j r n) m k rest (omega arith) ∙ u.2 });
      bad = λ is.
          let f = follows j r n is.0 is.1 is.2 k t rest is.3.within hk h pos is.3.text in
          never f.0 f.1 f.2 f.3;
    }
