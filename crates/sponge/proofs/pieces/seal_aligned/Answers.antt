-- `sponge::pieces::seal_aligned`: the full blocks, and the bytes left.
use Rattle.norx.specs.Norx.{body_mark}
use Rattle.norx.proofs.Bytes.{Bytes}
use Rattle.norx.proofs.Fed.{aligned_of}
use Rattle.norx.proofs.FedText.{written_aligned}
use Rattle.rules.specs.Rules.{rounds_of}
use Rattle.sponge.proofs.Laid.{left_of}
use Rattle.sponge.proofs.pieces.seal_aligned.Goals as goal

pub returns : goal.returns
returns g c =
    let w = g.W.Word.width in
    let x = c.args in
    let l = rounds_of w x.rounds in
    let d = x.d.now in
    let bytes : Bytes d = λ i. (c.type_inv.d i).fits in
    let at = c.in_fulls-at.ensures.fulls in
    let left = left_of w d at in record {
      state = aligned_of w l body_mark x.s d bytes c.encrypt_full-t.ensures.state left c.seal_left.ensures.state;
      output = rw at (written_aligned w l x.s d x.out.now bytes c.requires c.encrypt_full-t.ensures.state left c.encrypt_full-t.ensures.output c.seal_left.ensures.output);
    }
