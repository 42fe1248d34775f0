-- `session::seal::Sealing::close`: what `closing` gives, with the runs that are reported with its answer.
use Rattle.std.proofs.Common.{◌≡◌, ℕ, ap, ◌∙◌, refl}
use Rattle.std.proofs.Math.Path.{ap₂}
use Rattle.answers.specs.declared.Outcome.{Outcome}
use Rattle.session.specs.Seen.{Sealing, Step}
use Rattle.session.specs.Kinds.{sealing_of, close_with}
use Rattle.session.proofs.Reports.{close_reports}
use Rattle.session.proofs.Kept.{lawful_sealing}
use Rattle.session.proofs.seal.Sealing.close.Goals as goal

pub returns-clause-step : goal.returns-clause-step
returns-clause-step g c =
    let X = g.row.W.Denot in
    let w = g.W.Word.width in
    let x = c.args in
    let place_is : c.self-inside.inside.0.0.place ≡ x.self.now.0.place = rw (← c.self.view_is, ← c.self-inside.view_is) refl in
    let step = c.answer.view_is ∙ c.closing.ensures.step in
    ap₂ (λ (t : Step (Sealing X)) (n : ℕ). close_with t n) step
    (close_reports (sealing_of X w) (lawful_sealing X w) x.self.now x.edition x.tag.now (ap (λ (t : Step (Sealing X)). t.answer) step)
    place_is c.runs_of-n.ensures (ap (λ (o : Outcome). o.runs) c.reported.ensures))
