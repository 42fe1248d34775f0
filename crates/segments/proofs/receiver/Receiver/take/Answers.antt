-- `segments::receiver::Receiver::take`: the segment opened, and what it then waits for.
use Rattle.std.proofs.Common.{◌≡◌, ℕ, ◌-◌, take, sym, ap, ◌∙◌}
use Rattle.answers.specs.Answers.{number_of}
use Rattle.answers.proofs.Chain.{zero_done}
use Rattle.cutting.specs.Cutting.{waiting_next}
use Rattle.segments.specs.Segments.{take_answer, take_runs}
use Rattle.segments.specs.Receivers.{taking_answer, taking_runs, after_taking}
use Rattle.segments.proofs.Checks.{take_below}
use Rattle.segments.proofs.receiver.Receiver.take.Goals as goal

pub next-receiver-inside-requires : goal.next-receiver-inside-requires
next-receiver-inside-requires g c =
    let w = g.W.Word.width in
    let x = c.args in
    let r = c.self.inside in
    λ zero. take_below w _ _ r.terms x.note.now r.waiting x.last x.sealed.now x.out.now (zero_done _ (sym (ap number_of c.open-answer.ensures.answer) ∙ zero))

pub returns-clause-step : goal.returns-clause-step
unfolding after_taking
returns-clause-step g c =
    let w = g.W.Word.width in
    let x = c.args in
    let r = c.self.inside in
    let seen = c.self.view_is in
    let n = c.row_bytes-n.ensures in
    let key : take c.row_bytes-n.result r.key ≡ x.self.key = ap (λ (k : ℕ). take k r.key) n ∙ (λ i. (seen i).key) in
    let nonce : take (c.row_bytes-n.result - 8) r.nonce ≡ x.self.nonce = ap (λ (k : ℕ). take (k - 8) r.nonce) n ∙ (λ i. (seen i).nonce) in
    let is : c.open-answer.result.answer ≡ taking_answer w x.self x.note.now x.last x.sealed.now x.out.now =
    c.open-answer.ensures.answer ∙ (λ i. take_answer w (key i) (nonce i) (seen i).terms x.note.now (seen i).waiting x.last x.sealed.now x.out.now) in
    let runs : c.open-answer.result.runs ≡ taking_runs w x.self x.note.now x.last x.sealed.now x.out.now =
    c.open-answer.ensures.runs ∙ (λ i. take_runs w (key i) (nonce i) (seen i).terms x.note.now (seen i).waiting x.last x.sealed.now x.out.now) in
    let waits = c.next-receiver-inside.ensures ∙ (λ i. waiting_next (seen i).waiting (is i) x.last) in
    λ i. record { answer = is i; runs = runs i; receiver = record { key = (seen i).key; nonce = (seen i).nonce; terms = (seen i).terms; waiting = waits i } }
