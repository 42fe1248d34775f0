-- `jeczmilot::norx_segment_seal` gives the number of the answer, and the runs.
use mathlib.Core.Path.{ap, ◌∙◌}
use Rattle.places.specs.declared.terms.Terms.{Terms}
use Rattle.segments.specs.Segments.{segment_answer_at, segment_runs_at, segment_out_at}
use Rattle.jeczmilot.specs.Numbers.{yes}
use Rattle.jeczmilot.proofs.Outcomes.{answer_number, runs_number}
use Rattle.jeczmilot.proofs.norx_segment_seal.Goals as goal

pub returns : goal.returns
returns c =
    let x = c.args in record { answer = answer_number c.seal.result c.numbers.ensures (c.seal.ensures.answer ∙ ap (λ (T : Terms). segment_answer_at x.width x.key.now x.nonce.now T x.note.now x.index (yes x.last) x.body.now x.out.now) c.terms-terms.ensures); runs = runs_number c.seal.result c.numbers.ensures (c.seal.ensures.runs ∙ ap (λ (T : Terms). segment_runs_at x.width x.key.now x.nonce.now T x.note.now x.index (yes x.last) x.body.now x.out.now) c.terms-terms.ensures); output = c.seal.ensures.output ∙ ap (λ (T : Terms). segment_out_at x.width x.key.now x.nonce.now T x.note.now x.index (yes x.last) x.body.now x.out.now) c.terms-terms.ensures }
