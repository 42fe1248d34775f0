-- `lists::put::part`: a number laid, and the byte behind it.
use mathlib.Core.Path.{ap}
use native.Mathlib.Omega.{arith}
use lib.ListN.{length}
use Rattle.decimal.specs.Decimal.{num_text}
use Rattle.decimal.proofs.Lay.{put_room, length_laid}
use Rattle.lists.proofs.Writing.{part_laid}
use Rattle.lists.proofs.put.part.Goals as goal

pub bounds-out-end : goal.bounds-out-end
bounds-out-end c =
    let x = c.args in
    let room = put_room (num_text x.n) x.at x.out.now (omega (arith, c.requires)) in
    let e = c.put_number-end.ensures in
    omega (arith, e.place, room.0, ap length e.text, ap length room.1, length_laid x.out.now x.at (num_text x.n) (omega (arith, c.requires)), c.requires)

pub overflow_add-result : goal.overflow_add-result
overflow_add-result c =
    let x = c.args in
    let room = put_room (num_text x.n) x.at x.out.now (omega (arith, c.requires)) in
    omega (arith, c.put_number-end.ensures.place, room.0, c.requires)

pub returns : goal.returns
returns c =
    let x = c.args in
    let e = c.put_number-end.ensures in
    let all = part_laid x.out.now x.at x.n x.stop c.requires e.place e.text in
    record { place = all.0; text = all.1 }
