-- `sponge::pieces::feed_aligned`: the full blocks, and the bytes left.
use Rattle.norx.proofs.Fed.{aligned_of}
use Rattle.rules.specs.Rules.{rounds_of}
use Rattle.sponge.proofs.Laid.{left_of}
use Rattle.sponge.proofs.pieces.feed_aligned.Goals as goal

pub returns : goal.returns
returns g c =
    let w = g.W.Word.width in
    let x = c.args in
    let d = x.d.now in
    aligned_of w (rounds_of w x.rounds) x.m x.s d (λ i. (c.type_inv.d i).fits) c.absorb_full.ensures (left_of w d c.in_fulls-at.ensures.fulls) c.feed_left.ensures
