-- `jeczmilot::numbers`: the number of the answer, and the runs as they are.
use mathlib.Core.Path.{ap}
use Prim.Native.Nat.{ℕ}
use Rattle.jeczmilot.specs.declared.OutcomeNumbers.{OutcomeNumbers}
use Rattle.jeczmilot.proofs.numbers.Goals as goal

pub returns : goal.returns
returns c = ap {B = OutcomeNumbers} (λ (n : ℕ). record { answer = n; runs = c.args.outcome.runs }) c.number.ensures
