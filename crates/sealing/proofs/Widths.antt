-- The promises at a width that is given as a number which means it.
-- Assumes nothing.
use mathlib.Core.Path.{◌≡◌, refl, sym, ap, ◌∙◌}
use mathlib.Core.Logic.{◌≢◌}
use mathlib.Core.List.{List}
use Prim.Native.Nat.{ℕ}
use native.Mathlib.Omega.{arith}
use Rattle.norx.specs.Norx.{Width, word32, word64, bits}
use Rattle.answers.specs.declared.Outcome.{Outcome}
use Rattle.answers.specs.Answers.{number_of}
use Rattle.rules.specs.OneCall.{seal_answer, open_answer}
use Rattle.sealing.specs.Promises.{LeavesBytes, Seals, Opens, AtWidth, SealsAt, OpensAt}
use Rattle.sealing.proofs.Demand.{sealing_not, opening_not}

one_width : (w v : Width) → bits w ≡ bits v → w ≡ v
one_width word32 word32 e = refl
one_width word32 word64 e = absurd (omega arith)
one_width word64 word32 e = absurd (omega arith)
one_width word64 word64 e = refl

-- a number that means a width is 32 or 64
means_one : (w : Width) (n : ℕ) → n ≡ bits w → n ≢ 32 → n ≢ 64 → ⊥
means_one word32 n e g h = g e
means_one word64 n e g h = h e

module _ (Promise : Width → Type 0) (width : ℕ) (before : List ℕ) where
  -- where it means one: what holds at that width, and never 11
  at_one : (w : Width) → width ≡ bits w → {answer runs : ℕ} {after : List ℕ} → answer ≢ 11 → LeavesBytes before answer after → Promise w → AtWidth Promise width before answer runs after
  at_one w e not-11 leaves h = record {
    at_width = λ v f. rw (sym (one_width w v (sym e ∙ f))) h;
    no_width = (λ z. absurd (not-11 z), λ z. absurd (means_one w width e z.0 z.1));
    no_run = λ z. absurd (not-11 z);
    leaves = leaves;
  }

module _ (width l : ℕ) (key nonce header text trailer before : List ℕ) {r : Outcome} {after : List ℕ} where
  pub seals_at : (w : Width) → width ≡ bits w → r.answer ≡ seal_answer w l key nonce header text trailer before
      → Seals w l key nonce header text trailer before (number_of r.answer) r.runs after
      → SealsAt width l key nonce header text trailer before (number_of r.answer) r.runs after
  seals_at w e is h = at_one _ width before w e (λ z. sealing_not w l key nonce header text trailer before 11 (omega arith) (sym (ap number_of is) ∙ z)) h.leaves h

  pub opens_at : (w : Width) → width ≡ bits w → r.answer ≡ open_answer w l key nonce header text trailer before
      → Opens w l key nonce header text trailer before (number_of r.answer) r.runs after
      → OpensAt width l key nonce header text trailer before (number_of r.answer) r.runs after
  opens_at w e is h = at_one _ width before w e (λ z. opening_not w l key nonce header text trailer before 11 (omega arith) (sym (ap number_of is) ∙ z)) h.leaves h
