-- `spelled::digit`: the bytes from 48 to 57 and from 97 to 102 are digits, and no others.
use mathlib.Core.Logic.{inl, inr}
use Prim.Native.Nat.{◌+◌, ◌-◌}
use native.Mathlib.Omega.{arith}
use Rattle.spelled.proofs.Hex.{digit_low, digit_high, no_digit}
use Rattle.spelled.proofs.digit.Goals as goal

pub returns-in-48-to-57 : goal.returns-in-48-to-57
returns-in-48-to-57 c = (omega arith, omega (arith, digit_low (c.args.b - 48) (omega arith)))

pub returns-in-97-to-102 : goal.returns-in-97-to-102
returns-in-97-to-102 c = (omega arith, omega (arith, digit_high (c.args.b - 97 + 10) (omega arith)))

pub returns-in_default : goal.returns-in_default
returns-in_default c = no_digit c.args.b (inl (omega arith))

pub returns-in_default-2 : goal.returns-in_default-2
returns-in_default-2 c = no_digit c.args.b (inr (inl (omega arith, omega arith)))

pub returns-in_default-3 : goal.returns-in_default-3
returns-in_default-3 c = no_digit c.args.b (inr (inr (omega arith)))
