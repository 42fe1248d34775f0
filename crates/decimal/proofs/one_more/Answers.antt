-- `decimal::one_more`: a number that is not 0 takes any digit more, but that none is above the largest.
use native.Mathlib.Omega.{arith}
use Rattle.decimal.proofs.Reading.{more_inv, more_number}
use Rattle.decimal.proofs.one_more.Goals as goal

pub returns-then-v-eq0 : goal.returns-then-v-eq0
returns-then-v-eq0 c = λ n lt e. omega (arith, more_inv _ _ n c.requires e)

pub returns-in_err-checked_mul : goal.returns-in_err-checked_mul
returns-in_err-checked_mul c = rw c.from_residual.ensures (λ n lt e. c.in_err-checked_mul.ensures (omega (arith, more_inv _ _ n c.requires e)))

pub returns : goal.returns
returns c =
    let ten = c.in_ok-checked_mul.ensures in
    more_number _ _ _ (omega arith) c.requires (rw ten.1 at c.checked_add.ensures)
