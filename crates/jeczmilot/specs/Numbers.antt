-- What the numbers of a C caller mean, and those that he is given.
-- Assumes nothing.
use Rattle.std.specs.Prelude.{ℕ, Bool, not, eqb}
use Rattle.answers.specs.declared.Outcome.{Outcome}
use Rattle.answers.specs.Answers.{number_of}
use Rattle.places.specs.declared.terms.Terms.{Terms}
use Rattle.cutting.specs.declared.Waiting.{Waiting}
use Rattle.jeczmilot.specs.declared.OutcomeNumbers.{OutcomeNumbers}

-- 0 is no, and every other number yes
abbrev pub yes : ℕ → Bool
yes n = not (eqb n 0)

abbrev pub terms_of : ℕ → ℕ → ℕ → Terms
terms_of rounds job revision = record { rounds = rounds; edition = record { job = job; revision = revision } }

abbrev pub waiting_of : ℕ → ℕ → Waiting
waiting_of index complete = record { index = index; complete = yes complete }

-- an outcome as a C caller has it: the number of its answer, and the runs
abbrev pub outcome_numbers : Outcome → OutcomeNumbers
outcome_numbers o = record { answer = number_of o.answer; runs = o.runs }
