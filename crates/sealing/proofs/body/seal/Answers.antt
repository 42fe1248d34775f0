-- `sealing::body::seal`: what its calls leave is ciphertext and tag, whether there is a trailer or not.
use Rattle.norx.specs.Norx.{trailer_mark}
use Rattle.norx.proofs.Blocks.{part_none}
use Rattle.rules.specs.Rules.{rounds_of}
use Rattle.sealing.proofs.Written.{sealed_of}
use Rattle.sealing.proofs.body.seal.Goals as goal

-- an empty trailer adds nothing
pub returns-then-trailer-eq0 : goal.returns-then-trailer-eq0
returns-then-trailer-eq0 g c =
    let w = g.W.Word.width in
    let x = c.args in
    let l = rounds_of w x.rounds in
    sealed_of w l x.key x.s x.body.now x.trailer.now x.out.now c.row_bytes.ensures c.if-out-n.true c.encrypt-t.ensures.state c.encrypt-t.ensures.output
    (part_none w l trailer_mark c.encrypt-t.result x.trailer.now c.if-trailer-eq0.true) c.tag.ensures

pub returns-else-trailer-eq0 : goal.returns-else-trailer-eq0
returns-else-trailer-eq0 g c =
    let w = g.W.Word.width in
    let x = c.args in
    sealed_of w (rounds_of w x.rounds) x.key x.s x.body.now x.trailer.now x.out.now c.row_bytes.ensures c.if-out-n.true c.encrypt-t.ensures.state c.encrypt-t.ensures.output
    c.absorb-u.ensures c.tag-else-trailer-eq0.ensures
