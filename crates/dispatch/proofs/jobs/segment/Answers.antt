-- `dispatch::jobs::segment`: the library's own call.
use mathlib.Core.Path.{◌∙◌}
use Rattle.answers.proofs.Runs.{one_outcome}
use Rattle.segments.specs.Segments.{segment_answer_at, segment_runs_at, segment_out_at}
use Rattle.dispatch.specs.Segments.{flag_of, segment_call, segment_call_out}
use Rattle.dispatch.proofs.Same.{by_same_job}
use Rattle.dispatch.proofs.jobs.segment.Goals as goal

pub returns : goal.returns
unfolding segment_call segment_call_out
returns c =
    let answer = c.seal.ensures.answer in
    let runs = c.seal.ensures.runs in
    let output = c.seal.ensures.output in
    let x = c.args in
    let index = x.a.eighth in
    let last = flag_of x.a.ninth in record {
      outcome = one_outcome
          (answer
          ∙ by_same_job (λ w k n T a d. segment_answer_at w k n T a index last d x.out.now)
          c.low.ensures c.stretch.ensures c.stretch-2.ensures c.terms.ensures c.stretch-3.ensures c.stretch-4.ensures)
          (runs
          ∙ by_same_job (λ w k n T a d. segment_runs_at w k n T a index last d x.out.now)
          c.low.ensures c.stretch.ensures c.stretch-2.ensures c.terms.ensures c.stretch-3.ensures c.stretch-4.ensures);
      output = output
          ∙ by_same_job (λ w k n T a d. segment_out_at w k n T a index last d x.out.now)
          c.low.ensures c.stretch.ensures c.stretch-2.ensures c.terms.ensures c.stretch-3.ensures c.stretch-4.ensures;
    }
