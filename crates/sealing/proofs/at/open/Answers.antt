-- `sealing::at::open`: what is answered, and the runs that are reported with it.
use Rattle.norx.specs.Texts.{Bytes}
use Rattle.sealing.proofs.Demand.{open_ensures}
use Rattle.sealing.proofs.at.open.Goals as goal

pub returns : goal.returns
returns g c =
    let w = g.W.Word.width in
    let x = c.args in
    let bytes : Bytes x.sealed.now = λ i. (c.type_inv.sealed i).fits in
    let all = open_ensures w x.rounds x.key.now x.nonce.now x.header.now x.sealed.now x.trailer.now x.out.now bytes
    c.try_open-answer.ensures.answer c.runs-n.ensures c.reported.ensures c.try_open-answer.ensures.output in
    record { answer = all.0; runs = all.1.0; output = all.1.1.0; promise = all.1.1.1 }
