-- `dispatch::jobs::put`: the receiver's own.
use mathlib.Core.Path.{ap, ◌∙◌}
use Rattle.held.specs.Receivers.{held_put}
use Rattle.dispatch.specs.Segments.{waiting_of, put_receiver_call}
use Rattle.dispatch.proofs.jobs.put.Goals as goal

pub returns : goal.returns
unfolding put_receiver_call
returns c =
    let x = c.args in
    c.put.ensures ∙ ap (held_put x.held (waiting_of x.a)) c.low.ensures
