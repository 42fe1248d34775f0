-- `segments::at::open`: what is answered, and the runs that are reported with it.
use mathlib.Core.Path.{ap}
use Rattle.answers.specs.declared.Outcome.{Outcome}
use Rattle.segments.proofs.Taking.{take_reports}
use Rattle.segments.proofs.at.open.Goals as goal

pub returns-clause-runs : goal.returns-clause-runs
returns-clause-runs g c =
    let w = g.W.Word.width in
    let x = c.args in
    take_reports w (record { key = x.key.now; nonce = x.nonce.now; terms = x.terms; waiting = x.waiting }) x.note.now x.last x.sealed.now x.out.now
    c.try_open-answer.ensures.answer c.runs-n.ensures (ap (λ (o : Outcome). o.runs) c.reported.ensures)
