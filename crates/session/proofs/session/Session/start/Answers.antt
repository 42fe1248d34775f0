-- `session::session::Session::start`: the fresh session, or the closed one.
use Rattle.std.proofs.Common.{◌≡◌, length, ap, ◌∙◌}
use Rattle.norx.specs.Norx.{row_bytes}
use Rattle.answers.specs.Answers.{done_of}
use Rattle.places.specs.Places.{start_answer}
use Rattle.session.specs.Kinds.{plain_of}
use Rattle.session.proofs.Steps.{start_fits, start_done, start_not}
use Rattle.session.proofs.session.Session.start.Goals as goal

pub fresh-requires : goal.fresh-requires
fresh-requires g c =
    let w = g.W.Word.width in
    let x = c.args in
    let answered : c.start_answer-answer.result ≡ start_answer (row_bytes w) x.terms (length x.key.now) (length x.nonce.now) = rw c.row_bytes.ensures at c.start_answer-answer.ensures in
    start_fits (plain_of g.row.W.Denot w) x.key.now x.nonce.now x.terms _ answered (ap done_of c.in-Ok.is)

pub returns-in-Ok : goal.returns-in-Ok
returns-in-Ok g c =
    let w = g.W.Word.width in
    let x = c.args in
    let answered : c.start_answer-answer.result ≡ start_answer (row_bytes w) x.terms (length x.key.now) (length x.nonce.now) = rw c.row_bytes.ensures at c.start_answer-answer.ensures in
    start_done (plain_of g.row.W.Denot w) x.key.now x.nonce.now x.terms _ answered (ap done_of c.in-Ok.is) _ c.fresh.ensures

pub returns-in-Err : goal.returns-in-Err
returns-in-Err g c =
    let w = g.W.Word.width in
    let x = c.args in
    let answered : c.start_answer-answer.result ≡ start_answer (row_bytes w) x.terms (length x.key.now) (length x.nonce.now) = rw c.row_bytes.ensures at c.start_answer-answer.ensures in
    start_not (plain_of g.row.W.Denot w) x.key.now x.nonce.now x.terms _ answered (ap done_of c.in-Err.is) _ c.closed.ensures
