-- `segments::receiver::Receiver::start`: the fresh receiver, or the one of zeros.
use Rattle.std.proofs.Common.{sym, ap, ◌∙◌}
use Rattle.answers.specs.Answers.{done_of}
use Rattle.segments.proofs.Receive.{start_answered, start_lengths, start_fresh, start_none}
use Rattle.segments.proofs.receiver.Receiver.start.Goals.{in-Ok, in-Err}
use Rattle.segments.proofs.receiver.Receiver.start.Goals as goal

pub fresh-receiver-requires : goal.fresh-receiver-requires
fresh-receiver-requires g c =
    let w = g.W.Word.width in
    let x = c.args in
    let is = start_answered w x.key.now x.nonce.now x.terms c.row_bytes.ensures c.start_answer-answer.ensures in
    start_lengths w x.key.now x.nonce.now x.terms (sym (ap done_of is) ∙ ap done_of c.in-Ok.is)

pub returns : goal.returns
returns g c =
    let w = g.W.Word.width in
    let x = c.args in
    let is = start_answered w x.key.now x.nonce.now x.terms c.row_bytes.ensures c.start_answer-answer.ensures in
    elim c.match-answer.branch [
      | in-Ok v ↦ λ i. record { answer = is i; receiver = (v.receiver-is ∙ v.fresh-receiver.ensures ∙ sym (start_fresh w x.key.now x.nonce.now x.terms (sym (ap done_of is) ∙ ap done_of v.in-Ok.is))) i }
      | in-Err v ↦ λ i. record { answer = is i; receiver = (v.receiver-is ∙ v.none-receiver.ensures ∙ sym (start_none w x.key.now x.nonce.now x.terms (sym (ap done_of is) ∙ ap done_of v.in-Err.is))) i }
    ]
