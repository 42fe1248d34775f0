-- `segments::at::seal`: what is answered, and the runs that are reported with it.
use mathlib.Core.Path.{ap}
use Rattle.answers.specs.declared.Outcome.{Outcome}
use Rattle.segments.proofs.Sealed.{segment_reports}
use Rattle.segments.proofs.at.seal.Goals as goal

pub returns-clause-runs : goal.returns-clause-runs
returns-clause-runs g c =
    let w = g.W.Word.width in
    let x = c.args in
    segment_reports w x.key.now x.nonce.now x.terms x.note.now x.index x.last x.body.now x.out.now
    c.try_seal-answer.ensures.answer c.runs-n.ensures (ap (λ (o : Outcome). o.runs) c.reported.ensures)
