-- `dispatch::start`: the session's own start.
use mathlib.Core.Path.{ap, ap₂, ◌∙◌}
use mathlib.Core.List.{List}
use Prim.Native.Nat.{ℕ}
use lib.Dec.{eqb}
use Rattle.held.specs.Held.{held_start}
use Rattle.dispatch.specs.Calls.{stretch_of, start_call}
use Rattle.dispatch.proofs.start.Goals as goal

pub returns : goal.returns
unfolding start_call
returns c =
    let x = c.args in
    let a = x.a in
    let wide = eqb a.first 64 in
    c.start.ensures ∙ ap₂ (λ (k n : List ℕ). held_start x.check wide k n c.terms.result) c.stretch.ensures c.stretch-2.ensures
    ∙ ap (held_start x.check wide (stretch_of 0 a.third x.memory.now) (stretch_of a.third a.fourth x.memory.now)) c.terms.ensures
