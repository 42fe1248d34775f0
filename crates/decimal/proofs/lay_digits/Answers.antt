-- `decimal::lay_digits`: before each turn the first i digits are left, and they are v's; behind the last turn one is.
use native.Mathlib.Omega.{arith}
use Rattle.decimal.proofs.Digits.{length_pos}
use Rattle.decimal.proofs.Lay.{one_less, last_small, last_laid}
use Rattle.decimal.proofs.lay_digits.Goals as goal

pub loop-i-preserved : goal.loop-i-preserved
loop-i-preserved c = one_less _ _ _ _ c.loop-i.invariant c.loop-i-test.true (omega arith)

pub overflow_cast-out-2 : goal.overflow_cast-out-2
overflow_cast-out-2 c =
    let small = last_small _ _ _ _ c.loop-i.invariant (omega (arith, c.loop-i-test.false)) in
    omega (arith, small)

pub overflow_add-out-2 : goal.overflow_add-out-2
overflow_add-out-2 c =
    let small = last_small _ _ _ _ c.loop-i.invariant (omega (arith, c.loop-i-test.false)) in
    omega (arith, small)

pub bounds-out-0 : goal.bounds-out-0
bounds-out-0 c = omega (arith, c.requires, c.loop-i.auto.out, length_pos c.args.n)

pub returns : goal.returns
returns c = last_laid _ _ _ _ c.loop-i.invariant (omega (arith, c.loop-i-test.false)) (omega (arith, c.requires, c.loop-i.auto.out, length_pos c.args.n))
