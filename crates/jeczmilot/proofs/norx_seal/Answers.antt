-- `jeczmilot::norx_seal` gives the number of the answer, and the runs.
use Rattle.sealing.specs.Widths.{seal_answer_at, seal_runs_at, seal_out_at}
use Rattle.sealing.specs.Promises.{SealsAt}
use Rattle.jeczmilot.proofs.Outcomes.{as_numbers}
use Rattle.jeczmilot.proofs.norx_seal.Goals as goal

pub returns : goal.returns
returns c =
    let x = c.args in
    let ensured = c.seal.ensures in
    let all = as_numbers
    c.seal.result
    c.numbers.ensures
    (seal_answer_at x.width x.rounds x.key.now x.nonce.now x.header.now x.body.now x.trailer.now x.out.now)
    (seal_runs_at x.width x.rounds x.key.now x.nonce.now x.header.now x.body.now x.trailer.now x.out.now)
    (seal_out_at x.width x.rounds x.key.now x.nonce.now x.header.now x.body.now x.trailer.now x.out.now)
    (SealsAt x.width x.rounds x.key.now x.nonce.now x.header.now x.body.now x.trailer.now x.out.now)
    ensured.answer ensured.runs ensured.output ensured.promise in
    record { answer = all.0; runs = all.1.0; output = all.1.1.0; promise = all.1.1.1 }
