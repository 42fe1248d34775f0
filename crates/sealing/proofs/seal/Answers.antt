-- `sealing::seal`: the promise at the width that the number means.
use Rattle.norx.specs.Norx.{word32, word64}
use Rattle.sealing.proofs.Widths.{seals_at}
use Rattle.sealing.proofs.seal.Goals as goal

pub returns-in-32-clause-promise : goal.returns-in-32-clause-promise
returns-in-32-clause-promise c =
    let x = c.args in
    seals_at x.width x.rounds x.key.now x.nonce.now x.header.now x.body.now x.trailer.now x.out.now word32 c.in-32.is c.seal.ensures.answer c.seal.ensures.promise

pub returns-in-64-clause-promise : goal.returns-in-64-clause-promise
returns-in-64-clause-promise c =
    let x = c.args in
    seals_at x.width x.rounds x.key.now x.nonce.now x.header.now x.body.now x.trailer.now x.out.now word64 c.in-64.is c.seal-in-64.ensures.answer c.seal-in-64.ensures.promise
