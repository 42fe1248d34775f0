-- A contract over numbers, from what the call that it hands on ensures.
-- Assumes nothing.
use mathlib.Core.Path.{◌≡◌, ap, ap₂, ◌∙◌}
use mathlib.Core.List.{List}
use Prim.Native.Nat.{ℕ}
use Rattle.answers.specs.declared.Outcome.{Outcome}
use Rattle.answers.specs.Answers.{Answer, number_of}
use Rattle.jeczmilot.specs.declared.OutcomeNumbers.{OutcomeNumbers}
use Rattle.jeczmilot.specs.Numbers.{outcome_numbers}

module _ (o : Outcome) {r : OutcomeNumbers} (is : r ≡ outcome_numbers o) where
  pub answer_number : {answer : Answer} → o.answer ≡ answer → r.answer ≡ number_of answer
  answer_number e = ap (λ (x : OutcomeNumbers). x.answer) is ∙ ap number_of e

  pub runs_number : {runs : ℕ} → o.runs ≡ runs → r.runs ≡ runs
  runs_number e = ap (λ (x : OutcomeNumbers). x.runs) is ∙ e

  pub as_numbers : (answer : Answer) (runs : ℕ) (out : List ℕ) (Promise : ℕ → ℕ → List ℕ → Type 0) {after : List ℕ} → o.answer ≡ answer → o.runs ≡ runs
      → after ≡ out → Promise (number_of o.answer) o.runs after
      → (r.answer ≡ number_of answer) × ((r.runs ≡ runs) × ((after ≡ out) × Promise r.answer r.runs after))
  as_numbers answer runs out Promise e f g h = (answer_number e, (runs_number f, (g, rw is h)))

-- two with one answer and one number of runs are one
pub one_pair : {r s : OutcomeNumbers} → r.answer ≡ s.answer → r.runs ≡ s.runs → r ≡ s
one_pair e f = ap₂ (λ (a n : ℕ). record { answer = a; runs = n }) e f
