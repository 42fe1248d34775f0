-- `dispatch::put`: put together.
use mathlib.Core.Path.{ap₂, ◌∙◌}
use Rattle.dispatch.specs.Calls.{placed}
use Rattle.dispatch.proofs.put.Goals as goal

pub returns : goal.returns
returns c = let x = c.args in c.put.ensures ∙ ap₂ (placed x.held x.a) c.standing.ensures c.terms.ensures
