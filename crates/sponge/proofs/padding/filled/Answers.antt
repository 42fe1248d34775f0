-- `sponge::padding::filled` lays the bytes at the front of zeros.
use Rattle.std.proofs.Common.{arith}
use Rattle.std.proofs.Math.Nat.{sub-zero}
use Rattle.norx.specs.Norx.{rate}
use Rattle.sponge.proofs.Laid.{laid_of}
use Rattle.sponge.proofs.padding.filled.Goals as goal

pub returns : goal.returns
returns g c = rw sub-zero at (laid_of (rate g.W.Word.width) 0 c.args.left.now (omega arith) c.zeros-b.ensures c.lay.ensures)
