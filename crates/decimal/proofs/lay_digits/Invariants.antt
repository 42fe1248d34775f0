-- `decimal::lay_digits`: before each turn the first i digits are left, and they are v's.
use Rattle.decimal.proofs.Lay.{Left}
use Rattle.decimal.proofs.lay_digits.Given as goal

abbrev pub invariant-loop-i : goal.invariant-loop-i
invariant-loop-i l = Left l.n l.v l.i l.out
