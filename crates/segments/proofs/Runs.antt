-- What is reported of the runs of P for a segment, and the largest number of them, over the width.
-- Assumes nothing.
use mathlib.Core.Path.{◌≡◌, refl, sym, ap, ◌∙◌}
use mathlib.Core.Logic.{◌⊎◌}
use mathlib.Core.List.{List}
use Prim.Native.Nat.{ℕ, ◌+◌, ◌≤◌}
use native.Mathlib.Omega.{arith}
use lib.ListN.{length}
use Rattle.norx.specs.Norx.{Width, word32, word64}
use Rattle.norx.specs.Front.{front_bytes}
use Rattle.norx.specs.Runs.{part_runs, sealing_runs}
use Rattle.answers.specs.Answers.{Answer, number_of, runs_with}
use Rattle.answers.proofs.Runs.{report_most}
use Rattle.rules.specs.Limits.{PartLimits}
use Rattle.rules.specs.Runs.{runs_within, ReportsRuns}
use Rattle.rules.proofs.Work.{part_none, part_most, reports_runs, report_within}
use Rattle.places.specs.declared.terms.Terms.{Terms}
use Rattle.segments.specs.Segments.{segment_header}
use Rattle.segments.specs.Runs.{most_segment_runs}
use Rattle.segments.proofs.Checks.{header_long}

-- ---- the largest number

pub segment_most : (w : Width) (note n : ℕ) → note ≤ 65520 → n ≤ 65536 → sealing_runs w (16 + note) n 0 ≤ most_segment_runs w
segment_most word32 note n h g =
    omega (arith, part_most 48 (16 + note) 1365 (omega arith), part_most 48 n 1365 (omega arith), part_none 48 0 refl)
segment_most word64 note n h g =
    omega (arith, part_most 96 (16 + note) 682 (omega arith), part_most 96 n 682 (omega arith), part_none 96 0 refl)

-- the longest note and the longest body have it
pub longest : (w : Width) → sealing_runs w (16 + 65520) 65536 0 ≡ most_segment_runs w
unfolding part_runs
longest word32 = refl
longest word64 = refl

-- ---- what is reported, where the limits hold wherever it is not 0

module _ (w : Width) (T : Terms) (note : List ℕ) (a : Answer) (body : ℕ)
    (small : (number_of a ≡ 0) ⊎ (number_of a ≡ 10) → (length note ≤ 65520) × (body ≤ 65536)) where
  within : (number_of a ≡ 0) ⊎ (number_of a ≡ 10) → PartLimits (16 + length note) body 0
  within h = record { header_within = omega (arith, (small h).0); body_within = omega (arith, (small h).1); trailer_within = omega arith }

  -- front and note are the header
  by_note : runs_with a (sealing_runs w (length (segment_header T note)) body 0) ≡ runs_with a (sealing_runs w (16 + length note) body 0)
  by_note = ap (λ (k : ℕ). runs_with a (sealing_runs w k body 0)) (header_long T note)

  -- the number that code works out
  pub reports_code : (n : ℕ) → n ≡ runs_within w (front_bytes + length note) body 0 → runs_with a n ≡ runs_with a (sealing_runs w (length (segment_header T note)) body 0)
  reports_code n e = report_within w a (16 + length note) body 0 n e within ∙ sym by_note

  pub reports_segment : (full : ℕ) → full ≡ sealing_runs w (length (segment_header T note)) body 0
      → ReportsRuns w full (16 + length note) body 0 (number_of a) (runs_with a (sealing_runs w (length (segment_header T note)) body 0))
  reports_segment full e =
      rw by_note (reports_runs w a full (16 + length note) body 0 (e ∙ ap (λ (k : ℕ). sealing_runs w k body 0) (header_long T note)) within)

  pub segment_at_most : runs_with a (sealing_runs w (length (segment_header T note)) body 0) ≤ most_segment_runs w
  segment_at_most =
      rw by_note (report_most a (sealing_runs w (16 + length note) body 0) (most_segment_runs w) (λ h. segment_most w (length note) body (small h).0 (small h).1))
