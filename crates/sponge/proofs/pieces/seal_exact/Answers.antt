-- `sponge::pieces::seal_exact`: the bytes that go on in a block, and the rest.
use Rattle.std.proofs.Common.{refl}
use Rattle.std.proofs.Math.Nat.{sub-zero}
use Rattle.norx.specs.Norx.{body_mark}
use Rattle.norx.proofs.Slices.{tail}
use Rattle.norx.proofs.Fed.{piece_of}
use Rattle.norx.proofs.FedText.{written_piece}
use Rattle.rules.specs.Rules.{rounds_of}
use Rattle.sponge.proofs.pieces.seal_exact.Goals as goal

pub returns : goal.returns
returns g c =
    let w = g.W.Word.width in
    let x = c.args in
    let l = rounds_of w x.rounds in
    let d = x.d.now in
    let k = c.filling-k.result in
    let e = c.filling-k.ensures in
    let j = c.place-j.ensures.place in
    let cut = rw j at e.3 in
    let state = rw j at c.seal_filling-t.ensures.state in
    let output = rw j at c.seal_filling-t.ensures.output in record {
      state = piece_of w l body_mark x.s x.n k d e.0 cut refl (tail k d) state c.seal_aligned.ensures.state;
      output = rw (sub-zero k) at (written_piece w l x.s x.n k d x.out.now e.0 c.requires cut refl (tail k d) state output c.seal_aligned.ensures.output);
    }
