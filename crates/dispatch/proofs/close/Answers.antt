-- `dispatch::close`: the session's own close.
use mathlib.Core.Path.{ap, ap₂, ◌∙◌}
use mathlib.Core.List.{List}
use Prim.Native.Nat.{ℕ}
use Rattle.places.specs.declared.terms.Edition.{Edition}
use Rattle.held.specs.Held.{held_close, held_tag}
use Rattle.dispatch.specs.Calls.{close_call, close_call_tag}
use Rattle.dispatch.proofs.close.Goals as goal

pub returns : goal.returns
unfolding close_call close_call_tag
returns c =
    let x = c.args in record { step = c.close.ensures.step ∙ ap₂ (λ (e : Edition) (d : List ℕ). held_close x.held e d x.out.now) c.edition.ensures c.stretch.ensures; tag = c.close.ensures.tag ∙ ap (λ (e : Edition). held_tag x.held e x.out.now) c.edition.ensures }
