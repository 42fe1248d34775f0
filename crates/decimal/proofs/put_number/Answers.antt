-- `decimal::put_number`: the digits are laid where there is room for them.
use mathlib.Core.Path.{sym, ◌∙◌}
use Prim.Native.Nat.{◌+◌, ◌<◌}
use native.Mathlib.Omega.{arith}
use lib.ListN.{length}
use Rattle.decimal.specs.Decimal.{num_text}
use Rattle.decimal.proofs.Digits.{length_pos}
use Rattle.decimal.proofs.Lay.{laid_cut, put_room, put_full}
use Rattle.decimal.proofs.put_number.Goals as goal
use Rattle.decimal.proofs.put_number.Goals.{then-out-at-via-then-out-at, then-out-at-via-else-out-at+then-out-at-2}

pub returns-then-out-at : goal.returns-then-out-at
returns-then-out-at c =
    let x = c.args in
    let full : length x.out.now < x.at + length (num_text x.n) =
    elim c.then-out-at.branch [ then-out-at-via-then-out-at w ↦ omega (arith, length_pos x.n) | then-out-at-via-else-out-at+then-out-at-2 w ↦ omega arith ] in
    let p = put_full (num_text x.n) x.at x.out.now full in
    record { place = sym p.0; text = sym p.1 }

pub returns : goal.returns
returns c =
    let x = c.args in
    let p = put_room (num_text x.n) x.at x.out.now (omega (arith, c.number_length-digits.ensures.0)) in
    record { place = omega (arith, p.0, c.number_length-digits.ensures.0); text = rw c.lay_digits.ensures (laid_cut x.out.now (num_text x.n) x.at _ (omega arith) ∙ sym p.1) }
