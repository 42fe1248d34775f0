-- `sealing::at::try_seal`: where the numbers pass, the body sealed from the state behind the header.
use Rattle.std.proofs.Common.{refl}
use Rattle.sealing.proofs.Checked.{seal_passed}
use Rattle.sealing.proofs.at.try_seal.Goals as goal

pub returns-clause-output : goal.returns-clause-output
returns-clause-output g c =
    let x = c.args in
    seal_passed g.W.Word.width x.rounds x.key.now x.nonce.now x.header.now x.body.now x.trailer.now x.out.now c.row_bytes-n.ensures refl
    c.row-k.ensures c.row.ensures c.before_body-s.ensures c.in_ok-seal_checks.ensures c.seal.ensures
