-- `lists::index_digits`: before each turn at most so many digits of each index are counted.
use mathlib.Core.Path.{◌≡◌}
use Prim.Native.Nat.{ℕ, suc, ◌-◌, ◌≤◌, ◌^◌}
use Rattle.lists.proofs.Indices.{counted}
use Rattle.lists.proofs.index_digits.Given as goal

abbrev pub invariant-loop-power : goal.invariant-loop-power
invariant-loop-power l = (k : ℕ) × (l.power ≡ 10 ^ suc k) × (l.digits ≡ counted (suc k) l.n) × (1 ≤ l.power)

abbrev pub decreases-loop-power : goal.decreases-loop-power
decreases-loop-power l = l.n - l.power
