-- `sponge::pieces::feed`: the bytes that go on in a block, and the rest.
use Rattle.std.proofs.Common.{refl}
use Rattle.norx.proofs.Slices.{tail}
use Rattle.norx.proofs.Fed.{piece_of}
use Rattle.rules.specs.Rules.{rounds_of}
use Rattle.sponge.proofs.pieces.feed.Goals as goal

pub returns : goal.returns
returns g c =
    let w = g.W.Word.width in
    let x = c.args in
    let d = x.d.now in
    let k = c.filling-k.result in
    let e = c.filling-k.ensures in
    let j = c.place-j.ensures.place in
    piece_of w (rounds_of w x.rounds) x.m x.s x.n k d e.0 (rw j at e.3) refl (tail k d) (rw j at c.feed_filling.ensures) c.feed_aligned.ensures
