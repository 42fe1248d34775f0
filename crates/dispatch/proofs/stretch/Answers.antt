-- `dispatch::stretch`: by the two tests of its places.
use mathlib.Core.Path.{sym, ◌∙◌}
use borrow.Author.Tests.{le-leb, lt-leb}
use Rattle.answers.proofs.Tests.{cond_true, cond_false}
use Rattle.dispatch.specs.Calls.{stretch_of}
use Rattle.dispatch.proofs.stretch.Goals as goal

pub returns-then-memory-to : goal.returns-then-memory-to
unfolding stretch_of
returns-then-memory-to c = sym (cond_false _ _ _ (lt-leb _ _ c.if-memory-to.true))

pub returns-then-to-from : goal.returns-then-to-from
unfolding stretch_of
returns-then-to-from c = sym (cond_true _ _ _ (le-leb _ _ c.if-memory-to.false) ∙ cond_false _ _ _ (lt-leb _ _ c.if-to-from.true))

pub returns : goal.returns
unfolding stretch_of
returns c = sym (cond_true _ _ _ (le-leb _ _ c.if-memory-to.false) ∙ cond_true _ _ _ (le-leb _ _ c.if-to-from.false))
