-- `sealing::at::seal`: what is answered, and the runs that are reported with it.
use Rattle.sealing.proofs.Demand.{seal_ensures}
use Rattle.sealing.proofs.at.seal.Goals as goal

pub returns : goal.returns
returns g c =
    let w = g.W.Word.width in
    let x = c.args in
    let all = seal_ensures w x.rounds x.key.now x.nonce.now x.header.now x.body.now x.trailer.now x.out.now
    c.try_seal-answer.ensures.answer c.runs-n.ensures c.reported.ensures c.try_seal-answer.ensures.output in
    record { answer = all.0; runs = all.1.0; output = all.1.1.0; promise = all.1.1.1 }
