-- `dispatch::jobs::take`: the receiver's own call.
use mathlib.Core.Path.{ap₂, ◌∙◌}
use mathlib.Core.List.{List}
use Prim.Native.Nat.{ℕ}
use Rattle.held.specs.Receivers.{held_taken, held_taken_out}
use Rattle.dispatch.specs.Segments.{flag_of, take_call, take_call_out}
use Rattle.dispatch.proofs.jobs.take.Goals as goal

pub returns : goal.returns
unfolding take_call take_call_out
returns c =
    let step = c.take.ensures.step in
    let output = c.take.ensures.output in
    let x = c.args in
    let last = flag_of x.a.second in record { step = step ∙ ap₂ (λ (n d : List ℕ). held_taken x.held n last d x.out.now) c.stretch.ensures c.stretch-2.ensures; output = output ∙ ap₂ (λ (n d : List ℕ). held_taken_out x.held n last d x.out.now) c.stretch.ensures c.stretch-2.ensures }
