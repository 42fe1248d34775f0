-- `session::seal::Sealing::start`: what both kinds hold, as one of this kind.
use Rattle.std.proofs.Common.{ap, ◌∙◌}
use Rattle.session.proofs.Wrapped.{as_sealing, starts_sealing}
use Rattle.session.proofs.seal.Sealing.start.Goals as goal

pub returns : goal.returns
returns g c =
    let x = c.args in
    ap as_sealing (c.answer.view_is ∙ c.start.ensures) ∙ starts_sealing g.row.W.Denot g.W.Word.width x.key.now x.nonce.now x.terms
