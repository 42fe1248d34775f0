-- `sponge::pieces::seal_filling`: the bytes taken in, and the rate at their place.
use Rattle.norx.proofs.FedText.{written_filling}
use Rattle.rules.specs.Rules.{rounds_of}
use Rattle.sponge.proofs.pieces.seal_filling.Goals as goal

pub returns-clause-output : goal.returns-clause-output
returns-clause-output g c =
    let w = g.W.Word.width in
    let x = c.args in
    let r = c.requires in
    written_filling w (rounds_of w x.rounds) x.s x.j x.d.now x.out.now r.0 r.1 r.3 (λ i. (c.type_inv.d i).fits) c.feed_filling-t.ensures c.show_rate.ensures
