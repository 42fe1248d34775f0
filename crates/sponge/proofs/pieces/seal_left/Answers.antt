-- `sponge::pieces::seal_left`: the bytes taken in, and the rate from its beginning.
use Rattle.std.proofs.Common.{arith}
use Rattle.norx.proofs.Blocks.{rate_pos}
use Rattle.norx.proofs.FedText.{written_filling}
use Rattle.rules.specs.Rules.{rounds_of}
use Rattle.sponge.proofs.pieces.seal_left.Goals as goal

pub returns-clause-output : goal.returns-clause-output
returns-clause-output g c =
    let w = g.W.Word.width in
    let x = c.args in
    written_filling w (rounds_of w x.rounds) x.s 0 x.left.now x.out.now (rate_pos w) (omega arith) c.requires.1 (λ i. (c.type_inv.left i).fits)
    c.feed_left-t.ensures c.show_rate.ensures
