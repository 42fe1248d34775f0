-- `session::check::Checking::close`: what `closing` gives, with the runs that are reported with its answer.
use Rattle.std.proofs.Common.{◌≡◌, ℕ, ap, ◌∙◌, refl}
use Rattle.std.proofs.Math.Path.{ap₂}
use Rattle.answers.specs.declared.Outcome.{Outcome}
use Rattle.session.specs.Seen.{Checking, Step}
use Rattle.session.specs.Kinds.{checking_of, close_with}
use Rattle.session.proofs.Reports.{close_reports}
use Rattle.session.proofs.Kept.{lawful_checking}
use Rattle.session.proofs.check.Checking.close.Goals as goal

pub returns : goal.returns
returns g c =
    let X = g.row.W.Denot in
    let w = g.W.Word.width in
    let x = c.args in
    let place_is : c.self-inside.inside.0.0.place ≡ x.self.now.0.place = rw (← c.self.view_is, ← c.self-inside.view_is) refl in
    let step = c.answer.view_is ∙ c.closing.ensures in
    ap₂ (λ (t : Step (Checking X)) (n : ℕ). close_with t n) step
    (close_reports (checking_of X w) (lawful_checking X w) x.self.now x.edition x.tag.now (ap (λ (t : Step (Checking X)). t.answer) step)
    place_is c.runs_of-n.ensures (ap (λ (o : Outcome). o.runs) c.reported.ensures))
