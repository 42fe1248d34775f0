-- Reading line by line: before each turn what was read is a list of so many lines.
-- Assumes nothing.
use mathlib.Core.Path.{◌≡◌, refl, sym, ap, ◌∙◌}
use mathlib.Core.Bool.{true, false, ◌&&◌, false≢true}
use mathlib.Core.Logic.{inl, inr, ⊎_elim}
use mathlib.Core.List.{List, ◌++◌, append_assoc, append-nil}
use Prim.Native.Nat.{ℕ, ◌+◌, ◌*◌, ◌<◌, ◌≤◌, ◌^◌}
use native.Mathlib.Omega.{arith}
use borrow.Author.Tests.{eqb-true, eq-eqb}
use lib.Dec.{eqb}
use lib.ListN.{length, take, drop, length-append, length-drop, drop_of_length-le}
use lib.Seq.{take_at}
use Rattle.std.specs.Prelude.{Some, None, Ok}
use Rattle.answers.proofs.Chain.{both, and_true}
use Rattle.rules.specs.Rules.{segment_bytes, most_segments}
use Rattle.cutting.specs.Cutting.{count_of, segment_ok}
use Rattle.cutting.proofs.Cuts.{last_rule, last_ok}
use Rattle.lists.specs.Lists.{line_text, list_text}
use Rattle.lists.specs.Pieces.{front_text, rest_text}
use Rattle.lists.specs.Lines.{FirstBad}
use Rattle.lists.specs.Places.{LineIs, is_first, SegmentIs}
use Rattle.lists.specs.Readings.{ReadAs}
use Rattle.lists.proofs.Lengths.{count_some}
use Rattle.lists.proofs.OneLine.{line_once, front_rest}
use Rattle.lists.proofs.Listing.{CanFollow, first_good, next_good}
use Rattle.lists.proofs.Bad.{bad_first, bad_next}

-- ---- The turns

-- the bytes before the place are the list of so many lines
pub record Read (t : List ℕ) (front j r n k at : ℕ) : Type 0 where
  pub front_within : front ≤ length t
  pub fronted : take front t ≡ front_text j r
  pub job_fits : j < 2 ^ 64
  pub revision_fits : r < 2 ^ 64
  pub few : k ≤ most_segments
  pub counted : k ≡ count_of n
  pub within : n ≤ k * segment_bytes
  pub place : at ≤ length t
  pub text : t ≡ list_text j r n ++ drop at t

pub no_first : (t : List ℕ) → LineIs t 0 None → FirstBad t 1
no_first t none = bad_first t (λ j r l more hj hr hl e. none j r 0 l more hj hr (omega arith) (omega arith) e)

module _ (t : List ℕ) (j r i n next : ℕ) (line : LineIs t 0 (Some (record { job = j; revision = r; index = i; body = n; next = next }))) where
  pub other_first : is_first i n ≡ false → FirstBad t 1
  unfolding is_first
  other_first fails =
      bad_first t (λ j' r' l more hj hr hl e.
      let s = line_once j' r' 0 l j r i n more (drop next t) (sym e ∙ line.4.text) in
      let holds : (eqb i 0 && segment_ok 0 true n) ≡ true =
      and_true (eqb i 0) (segment_ok 0 true n) (eq-eqb i 0 (sym s.2)) (last_ok 0 n (omega (arith, s.3)) (inr refl) (omega arith)) in
      false≢true (sym fails ∙ holds))

  pub starts : (front : ℕ) → front ≡ length (front_text j r) → is_first i n ≡ true → Read t front j r n 1 next
  unfolding is_first
  starts front long holds =
      let a = both (eqb i 0) (segment_ok 0 true n) holds in
      let rule = last_rule 0 n a.1 in
      let e : t ≡ line_text j r 0 n ++ drop next t = line.4.text ∙ ap (λ (k : ℕ). line_text j r k n ++ drop next t) (eqb-true i 0 a.0) in
      let g = first_good j r t (drop next t) n rule.0 e in
      let split : t ≡ front_text j r ++ (rest_text 0 n ++ drop next t) =
      e ∙ ap (λ (x : List ℕ). x ++ drop next t) (sym (front_rest j r 0 n)) ∙ append_assoc (front_text j r) (rest_text 0 n) (drop next t) in
      record { front_within = omega (arith, ap length split, length-append (front_text j r) (rest_text 0 n ++ drop next t)); fronted = ap (take front) split ∙ take_at (front_text j r) (rest_text 0 n ++ drop next t) front (sym long); job_fits = line.0; revision_fits = line.1; few = omega arith; counted = sym g.0; within = omega (arith, rule.0); place = line.4.inside; text = g.1 }

module _ (t : List ℕ) (front j r n k at : ℕ) (read : Read t front j r n k at) where
  -- a line with the text's front is one of the job
  the_line : (l : ℕ) → take front t ++ rest_text k l ≡ line_text j r k l
  the_line l = ap (λ (x : List ℕ). x ++ rest_text k l) read.fronted ∙ front_rest j r k l

  pub goes_on : (l next : ℕ) → n ≡ k * segment_bytes → SegmentIs t at front k (Some (l, next)) → Read t front j r (n + l) (k + 1) next
  goes_on l next full q =
      let rule = last_rule k l q.0 in
      let some : 1 ≤ l = ⊎_elim (λ (p : 1 ≤ l). p) (λ (z : k ≡ 0). absurd (omega (arith, count_some n, read.counted))) rule.1.0 in
      let can : CanFollow n k l = record { full = full; few = rule.1.1; some = some; most = rule.0 } in
      let g = next_good j r t (drop at t) (drop next t) n k l read.counted can read.text (q.1.text ∙ ap (λ (x : List ℕ). x ++ drop next t) (the_line l)) in
      record {
        front_within = read.front_within;
        fronted = read.fronted;
        job_fits = read.job_fits;
        revision_fits = read.revision_fits;
        few = omega (arith, rule.1.1);
        counted = sym g.0;
        within = omega (arith, rule.0);
        place = q.1.inside;
        text = g.1;
      }

  -- no line can follow where none that stands there could
  bad : at < length t → ((l : ℕ) (more : List ℕ) → CanFollow n k l → drop at t ≡ line_text j r k l ++ more → ⊥) → FirstBad t (k + 1)
  bad h never =
      bad_next t (drop at t) j r n k read.job_fits read.revision_fits (omega (arith, read.within, read.few)) read.counted read.text (omega (arith, length-drop at t)) never

  pub not_full : at < length t → (n ≡ k * segment_bytes → ⊥) → FirstBad t (k + 1)
  not_full h differs = bad h (λ l more can e. differs can.full)

  pub other_next : at < length t → SegmentIs t at front k None → FirstBad t (k + 1)
  other_next h none =
      bad h (λ l more can e. none l more (last_ok k l can.most (inl can.some) can.few) (e ∙ ap (λ (x : List ℕ). x ++ more) (sym (the_line l))))

  pub ends : length t ≤ at → ReadAs t (Ok (record { job = j; revision = r; segments = k; body = n }))
  ends h = (
    record {
      job_fits = read.job_fits;
      revision_fits = read.revision_fits;
      within = omega (arith, read.within, read.few);
      text = read.text ∙ ap (λ (x : List ℕ). list_text j r n ++ x) (drop_of_length-le t {i = at} h) ∙ append-nil (list_text j r n);
    },
    read.counted,
  )
