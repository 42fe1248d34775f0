-- `sponge::pieces::open_aligned`: the full blocks, and the bytes left.
use Rattle.std.proofs.Common.{◌/◌, length, ◌∙◌}
use Rattle.norx.specs.Norx.{rate}
use Rattle.std.proofs.Math.Nat.{div-mul-le_self}
use Rattle.norx.proofs.Turns.{turns_opened}
use Rattle.norx.proofs.Unfed.{unfed_aligned}
use Rattle.rules.specs.Rules.{rounds_of}
use Rattle.sponge.proofs.Laid.{left_of}
use Rattle.sponge.proofs.pieces.open_aligned.Goals as goal

pub returns : goal.returns
returns g c =
    let w = g.W.Word.width in
    let x = c.args in
    let l = rounds_of w x.rounds in
    let t = x.c.now in
    unfed_aligned w l x.s t (λ i. (c.type_inv.c i).fits)
    (c.unwritten-t.ensures ∙ turns_opened w l x.s t (length t / rate w) (div-mul-le_self (length t) (rate w))) (left_of w t c.in_fulls-at.ensures.fulls) c.open_left.ensures
