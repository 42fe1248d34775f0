-- `spelled::digit_of`: 48 and on for the first ten, 97 and on for the others.
use native.Mathlib.Omega.{arith}
use Rattle.spelled.proofs.Hex.{digit_low, digit_high}
use Rattle.spelled.proofs.digit_of.Goals as goal

pub returns-then-d-lt10 : goal.returns-then-d-lt10
returns-then-d-lt10 c = omega (arith, digit_low c.args.d c.if-d-lt10.true)

pub returns-else-d-lt10 : goal.returns-else-d-lt10
returns-else-d-lt10 c = omega (arith, digit_high c.args.d c.if-d-lt10.false)
