-- `dispatch::opened_or_sealed`: by which of the two it is.
use mathlib.Core.Path.{sym, ◌∙◌}
use Rattle.answers.proofs.Tests.{cond_true, cond_false}
use Rattle.answers.proofs.Runs.{one_outcome}
use Rattle.dispatch.specs.Calls.{outcome_at, out_at}
use Rattle.dispatch.proofs.opened_or_sealed.Goals as goal

pub returns-then-opens : goal.returns-then-opens
unfolding outcome_at out_at
returns-then-opens c =
    let opens = c.if-opens.true in
    let ensured = c.open.ensures in
    record { outcome = one_outcome ensured.answer ensured.runs ∙ sym (cond_true _ _ _ opens); output = ensured.output ∙ sym (cond_true _ _ _ opens) }

pub returns-else-opens : goal.returns-else-opens
unfolding outcome_at out_at
returns-else-opens c =
    let seals = c.if-opens.false in
    let ensured = c.seal.ensures in
    record { outcome = one_outcome ensured.answer ensured.runs ∙ sym (cond_false _ _ _ seals); output = ensured.output ∙ sym (cond_false _ _ _ seals) }
