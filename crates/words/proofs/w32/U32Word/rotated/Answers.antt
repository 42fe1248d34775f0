-- `words::w32`: the machine's rotation, by the law at this width.
use Rattle.std.proofs.Common.{◌%◌, ◌∙◌, arith}
use Rattle.norx.specs.Norx.{word32}
use Rattle.norx.proofs.Rotate.{by_machine}
use Rattle.words.proofs.w32.U32Word.rotated.Goals as goal

pub returns : goal.returns
returns c =
    let x = c.args in c.rotate_right.ensures ∙ by_machine word32 (x.right % 32) x.self (omega arith) c.ranges.self.fits
