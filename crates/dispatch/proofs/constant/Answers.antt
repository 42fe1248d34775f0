-- `dispatch::constant`: at the width that is asked for.
use mathlib.Core.Path.{sym, ◌∙◌}
use Rattle.answers.proofs.Tests.{cond_true, cond_false}
use Rattle.dispatch.specs.Calls.{constant_of}
use Rattle.dispatch.proofs.constant.Goals as goal

pub returns-then-wide : goal.returns-then-wide
unfolding constant_of
returns-then-wide c = c.constant_at.ensures ∙ sym (cond_true _ _ _ c.if-wide.true)

pub returns-else-wide : goal.returns-else-wide
unfolding constant_of
returns-else-wide c = c.constant_at-else-wide.ensures ∙ sym (cond_false _ _ _ c.if-wide.false)
