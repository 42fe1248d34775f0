-- `lists::put::front_length`: two numbers and two tabs.
use native.Mathlib.Omega.{arith}
use Rattle.lists.proofs.OneLine.{front_length}
use Rattle.lists.proofs.put.front_length.Goals as goal

pub returns : goal.returns
returns c = let e = front_length c.args.job c.args.revision in (omega arith, omega arith)
