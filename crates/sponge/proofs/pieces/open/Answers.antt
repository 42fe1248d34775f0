-- `sponge::pieces::open`: nothing of an empty piece; else the bytes that go on in a block, and the rest.
use Rattle.std.proofs.Common.{refl}
use Rattle.norx.proofs.Slices.{tail}
use Rattle.norx.proofs.Unfed.{unfed_none, unfed_piece}
use Rattle.rules.specs.Rules.{rounds_of}
use Rattle.sponge.proofs.pieces.open.Goals as goal

pub returns-then-len-eq0 : goal.returns-then-len-eq0
returns-then-len-eq0 g c =
    let w = g.W.Word.width in
    let x = c.args in
    unfed_none w (rounds_of w x.rounds) x.s x.n x.c.now c.if-len-eq0.true

pub returns : goal.returns
returns g c =
    let w = g.W.Word.width in
    let x = c.args in
    let t = x.c.now in
    let k = c.filling-k.result in
    let e = c.filling-k.ensures in
    let j = c.place-j.ensures.place in
    unfed_piece w (rounds_of w x.rounds) x.s x.n k t e.0 (rw j at e.3) refl (tail k t) (rw j at c.open_filling.ensures) c.open_aligned.ensures
