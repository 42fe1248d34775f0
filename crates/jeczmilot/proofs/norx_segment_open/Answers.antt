-- `jeczmilot::norx_segment_open` gives the number of the answer, and the runs.
use mathlib.Core.Path.{ap₂, ◌∙◌}
use Rattle.places.specs.declared.terms.Terms.{Terms}
use Rattle.cutting.specs.declared.Waiting.{Waiting}
use Rattle.segments.specs.Segments.{take_answer_at, take_runs_at, take_out_at}
use Rattle.jeczmilot.specs.Numbers.{yes}
use Rattle.jeczmilot.proofs.Outcomes.{answer_number, runs_number}
use Rattle.jeczmilot.proofs.norx_segment_open.Goals as goal

pub returns : goal.returns
returns c =
    let x = c.args in record { answer = answer_number c.open.result c.numbers.ensures (c.open.ensures.answer ∙ ap₂ (λ (T : Terms) (W : Waiting). take_answer_at x.width x.key.now x.nonce.now T x.note.now W (yes x.last) x.sealed.now x.out.now) c.terms-terms.ensures c.waiting-waiting.ensures); runs = runs_number c.open.result c.numbers.ensures (c.open.ensures.runs ∙ ap₂ (λ (T : Terms) (W : Waiting). take_runs_at x.width x.key.now x.nonce.now T x.note.now W (yes x.last) x.sealed.now x.out.now) c.terms-terms.ensures c.waiting-waiting.ensures); output = c.open.ensures.output ∙ ap₂ (λ (T : Terms) (W : Waiting). take_out_at x.width x.key.now x.nonce.now T x.note.now W (yes x.last) x.sealed.now x.out.now) c.terms-terms.ensures c.waiting-waiting.ensures }
