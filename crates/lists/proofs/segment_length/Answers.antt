-- `lists::segment_length`: from where a segment begins to where it ends.
use mathlib.Core.Path.{ap₂}
use Prim.Native.Nat.{ℕ, ◌-◌}
use native.Mathlib.Omega.{arith}
use Rattle.lists.specs.Lists.{segment_length}
use Rattle.lists.proofs.Lengths.{begin_end}
use Rattle.lists.proofs.segment_length.Goals as goal

pub overflow_sub-result : goal.overflow_sub-result
overflow_sub-result c = let x = c.args in omega (arith, c.end.ensures, c.begin.ensures, begin_end x.body x.i)

pub returns : goal.returns
unfolding segment_length
returns c = ap₂ (λ (a b : ℕ). a - b) c.end.ensures c.begin.ensures
