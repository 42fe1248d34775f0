-- `dispatch::is_call`: by the number of the call.
use mathlib.Core.Path.{refl}
use Rattle.dispatch.specs.Calls.{is_call}
use Rattle.dispatch.proofs.is_call.Goals as goal

pub returns : goal.returns
unfolding is_call
returns c = rw c.checks-checking.ensures refl
