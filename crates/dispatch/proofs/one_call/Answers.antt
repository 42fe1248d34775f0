-- `dispatch::one_call`: the library's own call.
use mathlib.Core.Path.{ap, ◌∙◌}
use Rattle.dispatch.specs.Calls.{answered, outcome_at, out_at, one_call, one_call_out}
use Rattle.dispatch.proofs.Same.{by_same}
use Rattle.dispatch.proofs.one_call.Goals as goal

pub returns : goal.returns
unfolding one_call one_call_out
returns c =
    let x = c.args in record {
      step = ap (answered x.held)
          (c.opened_or_sealed-outcome.ensures.outcome
          ∙ by_same (λ w l k n h d t. outcome_at x.opens w l k n h d t x.out.now)
          c.low.ensures c.low-2.ensures c.stretch.ensures c.stretch-2.ensures c.stretch-3.ensures c.stretch-4.ensures c.stretch-5.ensures);
      output = c.opened_or_sealed-outcome.ensures.output
          ∙ by_same (λ w l k n h d t. out_at x.opens w l k n h d t x.out.now)
          c.low.ensures c.low-2.ensures c.stretch.ensures c.stretch-2.ensures c.stretch-3.ensures c.stretch-4.ensures c.stretch-5.ensures;
    }
