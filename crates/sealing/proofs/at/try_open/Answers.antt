-- `sealing::at::try_open`: where the numbers pass, the text opened from the state behind the header.
use Rattle.std.proofs.Common.{refl}
use Rattle.sealing.proofs.Checked.{open_passed}
use Rattle.sealing.proofs.at.try_open.Goals as goal

pub returns : goal.returns
returns g c =
    let x = c.args in
    let is = open_passed g.W.Word.width x.rounds x.key.now x.nonce.now x.header.now x.sealed.now x.trailer.now x.out.now c.row_bytes-n.ensures refl
    c.row-k.ensures c.row.ensures c.before_body-s.ensures c.in_ok-open_checks.ensures c.open.ensures.answer c.open.ensures.output in
    record { answer = is.0; output = is.1 }
