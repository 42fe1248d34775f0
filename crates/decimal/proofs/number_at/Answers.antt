-- `decimal::number_at`: before the turn i the digits are v's text and those from i on.
use native.Mathlib.Omega.{arith}
use Rattle.decimal.proofs.Reading.{digit_byte, other_byte}
use Rattle.decimal.proofs.Runs.{none_beyond, none_there, begins, goes_on, goes_wrong, stops, ends}
use Rattle.decimal.proofs.number_at.Goals as goal

pub returns-in_err-get : goal.returns-in_err-get
returns-in_err-get c = rw c.from_residual.ensures (none_beyond _ _ c.in_err-get.ensures.lookup.3)

pub returns-in_err-v : goal.returns-in_err-v
returns-in_err-v c =
    let there = c.in_ok-get.ensures.lookup.3 in
    rw c.from_residual-in_err-v.ensures (none_there _ _ there.0 (rw (there.1 0) at c.in_err-v.ensures))

pub loop-i-init : goal.loop-i-init
loop-i-init c =
    let there = c.in_ok-get.ensures.lookup.3 in
    begins _ _ _ there.0 (rw (there.1 0) at c.in_ok-v.ensures)

pub returns-then-not-is_ascii_digit : goal.returns-then-not-is_ascii_digit
returns-then-not-is_ascii_digit c = stops _ _ _ c.loop-i.i c.loop-i.invariant c.loop-i-test.true (other_byte _ c.if-not-is_ascii_digit.ensures.cases)

pub returns-in_err-v-2 : goal.returns-in_err-v-2
returns-in_err-v-2 c =
    rw c.from_residual-in_err-v-2.ensures (goes_wrong _ _ _ c.loop-i.i c.loop-i.invariant _ c.loop-i-test.true (digit_byte _ _ c.if-not-is_ascii_digit.ensures.cases c.from.ensures) c.in_err-v-2.ensures)

pub loop-i-preserved : goal.loop-i-preserved
loop-i-preserved c = goes_on _ _ _ c.loop-i.i c.loop-i.invariant _ _ c.loop-i-test.true (digit_byte _ _ c.if-not-is_ascii_digit.ensures.cases c.from.ensures) c.in_ok-v-2.ensures

pub returns : goal.returns
returns c = let e = ends _ _ _ c.loop-i.i c.loop-i.invariant c.loop-i-test.false in (e.0, omega (arith, e.1))
