-- The runs that an answer reports: all of them with 0 and 10, and none with any other number.
-- Assumes nothing.
use mathlib.Core.Path.{◌≡◌, sym, ap, ap₂, ◌∙◌}
use mathlib.Core.Bool.{Bool, ◌||◌}
use mathlib.Core.Logic.{◌≢◌, ◌⊎◌, inl, inr, ⊎_elim}
use Prim.Native.Nat.{ℕ, ◌≤◌}
use native.Mathlib.Omega.{arith}
use borrow.Author.Tests.{eq-eqb, ne_eqb, eqb-true, eqb-false}
use lib.Dec.{eqb}
use Rattle.answers.specs.declared.Outcome.{Outcome}
use Rattle.answers.specs.Answers.{Answer, number_of, runs_with}
use Rattle.answers.proofs.Tests.{either, cond_true, cond_false}
use Rattle.answers.proofs.Chain.{or_true}

module _ (a : Answer) (n : ℕ) where
  pub reported_with : (number_of a ≡ 0) ⊎ (number_of a ≡ 10) → runs_with a n ≡ n
  unfolding runs_with
  reported_with (inl e) = cond_true _ n 0 (or_true (eqb (number_of a) 0) (eqb (number_of a) 10) (inl (eq-eqb (number_of a) 0 e)))
  reported_with (inr e) = cond_true _ n 0 (or_true (eqb (number_of a) 0) (eqb (number_of a) 10) (inr (eq-eqb (number_of a) 10 e)))

  pub unreported_with : number_of a ≢ 0 → number_of a ≢ 10 → runs_with a n ≡ 0
  unfolding runs_with
  unreported_with h g = cond_false _ n 0 (ap (λ (b : Bool). b || eqb (number_of a) 10) (ne_eqb (number_of a) 0 h) ∙ ne_eqb (number_of a) 10 g)

pub zero_ten : (k : ℕ) → ((k ≡ 0) ⊎ (k ≡ 10)) ⊎ ((k ≢ 0) × (k ≢ 10))
zero_ten k =
    ⊎_elim
    (λ e. inl (inl (eqb-true k 0 e)))
    (λ e. ⊎_elim (λ f. inl (inr (eqb-true k 10 f))) (λ f. inr (eqb-false k 0 e, eqb-false k 10 f)) (either (eqb k 10)))
    (either (eqb k 0))

-- what is reported depends on the number of runs only where the answer is 0 or 10
pub same_report : (a : Answer) (m n : ℕ) → ((number_of a ≡ 0) ⊎ (number_of a ≡ 10) → m ≡ n) → runs_with a m ≡ runs_with a n
same_report a m n h =
    ⊎_elim
    (λ e. ap (runs_with a) (h e))
    (λ e. unreported_with a m e.0 e.1 ∙ sym (unreported_with a n e.0 e.1))
    (zero_ten (number_of a))

-- and is at most what the number is at most there
pub report_most : (a : Answer) (n most : ℕ) → ((number_of a ≡ 0) ⊎ (number_of a ≡ 10) → n ≤ most) → runs_with a n ≤ most
report_most a n most h =
    ⊎_elim
    (λ e. let less = h e in omega (arith, reported_with a n e))
    (λ e. omega (arith, unreported_with a n e.0 e.1))
    (zero_ten (number_of a))

-- two outcomes with one answer and one number of runs are one
pub one_outcome : {o p : Outcome} → o.answer ≡ p.answer → o.runs ≡ p.runs → o ≡ p
one_outcome e f = ap₂ (λ (a : Answer) (n : ℕ). record { answer = a; runs = n }) e f
