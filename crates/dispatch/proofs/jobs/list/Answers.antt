-- `dispatch::jobs::list`: the library's own call.
use Rattle.dispatch.specs.Segments.{list_call, list_call_out}
use Rattle.dispatch.proofs.jobs.list.Goals as goal

pub returns : goal.returns
unfolding list_call list_call_out
returns c =
    record { answer = c.write_list.ensures.answer; output = c.write_list.ensures.output }
