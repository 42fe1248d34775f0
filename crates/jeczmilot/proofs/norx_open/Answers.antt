-- `jeczmilot::norx_open` gives the number of the answer, and the runs.
use Rattle.sealing.specs.Widths.{open_answer_at, open_runs_at, open_out_at}
use Rattle.sealing.specs.Promises.{OpensAt}
use Rattle.jeczmilot.proofs.Outcomes.{as_numbers}
use Rattle.jeczmilot.proofs.norx_open.Goals as goal

pub returns : goal.returns
returns c =
    let x = c.args in
    let ensured = c.open.ensures in
    let all = as_numbers
    c.open.result
    c.numbers.ensures
    (open_answer_at x.width x.rounds x.key.now x.nonce.now x.header.now x.sealed.now x.trailer.now x.out.now)
    (open_runs_at x.width x.rounds x.key.now x.nonce.now x.header.now x.sealed.now x.trailer.now x.out.now)
    (open_out_at x.width x.rounds x.key.now x.nonce.now x.header.now x.sealed.now x.trailer.now x.out.now)
    (OpensAt x.width x.rounds x.key.now x.nonce.now x.header.now x.sealed.now x.trailer.now x.out.now)
    ensured.answer ensured.runs ensured.output ensured.promise in
    record { answer = all.0; runs = all.1.0; output = all.1.1.0; promise = all.1.1.1 }
