-- `sealing::body::open`: what its calls leave is the message where the tag is its own, and else zeros, whether there is a trailer or not.
use mathlib.Core.Path.{refl}
use Rattle.norx.specs.Norx.{trailer_mark}
use Rattle.norx.proofs.Blocks.{part_none}
use Rattle.rules.specs.Rules.{rounds_of}
use Rattle.sealing.proofs.Written.{opened_by}
use Rattle.sealing.proofs.body.open.Goals as goal

-- an empty trailer adds nothing
pub returns-then-trailer-eq0 : goal.returns-then-trailer-eq0
returns-then-trailer-eq0 g c =
    let w = g.W.Word.width in
    let x = c.args in
    let l = rounds_of w x.rounds in
    let all = opened_by w l x.key x.s x.sealed.now x.trailer.now x.out.now c.row_bytes.ensures c.if-sealed-n.false refl
    c.decrypt-u.ensures.state c.decrypt-u.ensures.output c.decrypt-u.auto.out
    (part_none w l trailer_mark c.decrypt-u.result x.trailer.now c.if-trailer-eq0.true) c.tag_is.ensures c.judged.ensures.answer c.judged.ensures.output in
    record { answer = all.0; output = all.1 }

pub returns : goal.returns
returns g c =
    let w = g.W.Word.width in
    let x = c.args in
    let all = opened_by w (rounds_of w x.rounds) x.key x.s x.sealed.now x.trailer.now x.out.now c.row_bytes.ensures c.if-sealed-n.false refl
    c.decrypt-u.ensures.state c.decrypt-u.ensures.output c.decrypt-u.auto.out
    c.absorb-v.ensures c.tag_is-2.ensures c.judged-2.ensures.answer c.judged-2.ensures.output in
    record { answer = all.0; output = all.1 }
