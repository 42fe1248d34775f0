-- How many times P runs in a call: in a part, in all of them, the largest number within the limits, and what is reported.
-- Assumes nothing.
use mathlib.Core.Path.{◌≡◌, refl, sym, ap, ap₂, ◌∙◌}
use mathlib.Core.Bool.{true, false, cond}
use mathlib.Core.Logic.{◌≢◌, ◌⊎◌, inl, ⊎_elim}
use mathlib.Core.List.{List}
use Prim.Native.Nat.{ℕ, ◌+◌, ◌/◌, ◌≤◌}
use native.Mathlib.Omega.{arith}
use borrow.Author.Tests.{eq-eqb, ne_eqb, eqb-true, eqb-false}
use lib.Dec.{eqb}
use lib.ListN.{length}
use Rattle.norx.specs.Norx.{Width, word32, word64}
use Rattle.norx.specs.Runs.{part_runs, runs_by, sealing_runs}
use Rattle.norx.proofs.Bytes.{zeros, length-zeros}
use Rattle.answers.specs.Answers.{Answer, number_of, runs_with}
use Rattle.answers.proofs.Tests.{either, cond_true, cond_false}
use Rattle.answers.proofs.Runs.{reported_with, unreported_with, same_report, report_most}
use Rattle.rules.specs.Rules.{within}
use Rattle.rules.specs.Limits.{widths_length, PartLimits, SealLimits}
use Rattle.rules.specs.OneCall.{seal_answer}
use Rattle.rules.specs.Runs.{runs_within, seal_runs, most_runs, SealingOf, LargestRuns, ReportsRuns}
use Rattle.rules.proofs.Limits.{parts_to}
use Rattle.rules.proofs.OneCall.{seal_done}

-- ---- one part

pub part_none : (R n : ℕ) → n ≡ 0 → 0 ≡ part_runs R n
unfolding part_runs
part_none R n h = sym (cond_true (eqb n 0) 0 (n / R + 1) (eq-eqb n 0 h))

pub part_some : (R n : ℕ) → n ≢ 0 → n / R + 1 ≡ part_runs R n
unfolding part_runs
part_some R n h = sym (cond_false (eqb n 0) 0 (n / R + 1) (ne_eqb n 0 h))

-- at most as many as the longest part of so many bytes has
pub part_most : (R n most : ℕ) → n / R ≤ most → part_runs R n ≤ most + 1
part_most R n most h =
    ⊎_elim (λ e. omega (arith, part_none R n (eqb-true n 0 e))) (λ e. omega (arith, part_some R n (eqb-false n 0 e))) (either (eqb n 0))

-- ---- all of them

module _ (R header body trailer : ℕ) where
  pub runs_none : within header body trailer ≡ false → 0 ≡ cond (within header body trailer) (runs_by R header body trailer) 0
  runs_none h = sym (cond_false (within header body trailer) (runs_by R header body trailer) 0 h)

  pub runs_some : within header body trailer ≡ true → {a b c : ℕ} → a ≡ part_runs R header → b ≡ part_runs R body → c ≡ part_runs R trailer
      → 3 + a + b + c ≡ cond (within header body trailer) (runs_by R header body trailer) 0
  runs_some h {a} {b} {c} e f g =
      let sum : 3 + a + b + c ≡ runs_by R header body trailer = omega (arith, e, f, g) in
      sum ∙ sym (cond_true (within header body trailer) (runs_by R header body trailer) 0 h)

-- ---- the largest number

-- the longest parts have it
pub longest : (w : Width) → sealing_runs w 65536 16777216 65536 ≡ most_runs w
unfolding part_runs
longest word32 = refl
longest word64 = refl

-- any call with them reports it
module _ (w : Width) (l : ℕ) (ok : (l ≡ 4) ⊎ (l ≡ 6)) (key nonce header body trailer out : List ℕ) (key_long : length key ≡ widths_length w)
    (nonce_long : length nonce ≡ widths_length w) (header_long : length header ≡ 65536) (body-long : length body ≡ 16777216)
    (trailer-long : length trailer ≡ 65536) (out-long : length out ≡ 16777216 + widths_length w) where
  limits : SealLimits w l (length key) (length nonce) (length header) (length body) (length trailer) (length out)
  limits = record {
    begins = record { rounds = ok; key_long = key_long; nonce_long = nonce_long };
    parts = record { header_within = omega arith; body_within = omega arith; trailer_within = omega arith };
    exact = out-long ∙ ap (λ (n : ℕ). n + widths_length w) (sym body-long);
  }

  longest_reports : SealingOf w l (most_runs w)
  unfolding seal_runs
  longest_reports =
      let zero = (seal_done w l key nonce header body trailer out limits).0 in
      record {
        key = key;
        nonce = nonce;
        header = header;
        body = body;
        trailer = trailer;
        out = out;
        answered = zero;
        reports = reported_with (seal_answer w l key nonce header body trailer out) _ (inl zero)
            ∙ ap₂ (λ (h b : ℕ). sealing_runs w h b (length trailer)) header_long body-long
            ∙ ap (sealing_runs w 65536 16777216) trailer-long ∙ longest w;
      }

reached : (w : Width) (l : ℕ) → (l ≡ 4) ⊎ (l ≡ 6) → SealingOf w l (most_runs w)
reached w l ok =
    longest_reports w l ok (zeros (widths_length w)) (zeros (widths_length w)) (zeros 65536) (zeros 16777216) (zeros 65536) (zeros (16777216 + widths_length w))
    (length-zeros (widths_length w)) (length-zeros (widths_length w)) (length-zeros 65536) (length-zeros 16777216) (length-zeros 65536)
    (length-zeros (16777216 + widths_length w))

never_more : (w : Width) (header body trailer : ℕ) → PartLimits header body trailer → sealing_runs w header body trailer ≤ most_runs w
never_more word32 header body trailer h =
    omega (
      arith,
      h.header_within,
      h.body_within,
      h.trailer_within,
      part_most 48 header 1365 (omega arith),
      part_most 48 body 349525 (omega arith),
      part_most 48 trailer 1365 (omega arith),
    )
never_more word64 header body trailer h =
    omega (
      arith,
      h.header_within,
      h.body_within,
      h.trailer_within,
      part_most 96 header 682 (omega arith),
      part_most 96 body 174762 (omega arith),
      part_most 96 trailer 682 (omega arith),
    )

pub largest_runs : (w : Width) → LargestRuns w
largest_runs w = record { reached = reached w; never_more = never_more w }

-- ---- what is reported

pub reports_runs : (w : Width) (a : Answer) (full header body trailer : ℕ) → full ≡ sealing_runs w header body trailer
    → ((number_of a ≡ 0) ⊎ (number_of a ≡ 10) → PartLimits header body trailer)
    → ReportsRuns w full header body trailer (number_of a) (runs_with a (sealing_runs w header body trailer))
reports_runs w a full header body trailer e limits = record {
  in_full = λ h. let all = reported_with a (sealing_runs w header body trailer) h in (all ∙ sym e, all);
  else_none = unreported_with a (sealing_runs w header body trailer);
  at_most = report_most a (sealing_runs w header body trailer) (most_runs w) (λ h. never_more w header body trailer (limits h));
}

-- a number that is right where the parts are within their limits is reported as the number in the definition
pub report_within : (w : Width) (a : Answer) (header body trailer n : ℕ) → n ≡ runs_within w header body trailer
    → ((number_of a ≡ 0) ⊎ (number_of a ≡ 10) → PartLimits header body trailer) → runs_with a n ≡ runs_with a (sealing_runs w header body trailer)
report_within w a header body trailer n e limits =
    same_report a n (sealing_runs w header body trailer) (λ h. e ∙ cond_true _ (sealing_runs w header body trailer) 0 (parts_to header body trailer (limits h)))
