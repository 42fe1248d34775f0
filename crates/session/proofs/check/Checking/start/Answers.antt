-- `session::check::Checking::start`: what both kinds hold, as one of this kind.
use Rattle.std.proofs.Common.{ap, ◌∙◌}
use Rattle.session.proofs.Wrapped.{as_checking, starts_checking}
use Rattle.session.proofs.check.Checking.start.Goals as goal

pub returns : goal.returns
returns g c =
    let x = c.args in
    ap as_checking (c.answer.view_is ∙ c.start.ensures) ∙ starts_checking g.row.W.Denot g.W.Word.width x.key.now x.nonce.now x.terms
