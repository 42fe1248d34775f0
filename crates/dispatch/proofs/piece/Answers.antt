-- `dispatch::piece`: the session's own piece.
use mathlib.Core.Path.{ap₂, ◌∙◌}
use mathlib.Core.List.{List}
use Prim.Native.Nat.{ℕ}
use Rattle.places.specs.declared.Label.{Label}
use Rattle.held.specs.Held.{held_piece, held_piece_out}
use Rattle.dispatch.specs.Calls.{piece_call, piece_call_out}
use Rattle.dispatch.proofs.piece.Goals as goal

pub returns : goal.returns
unfolding piece_call piece_call_out
returns c =
    let x = c.args in record { step = c.piece.ensures.step ∙ ap₂ (λ (l : Label) (d : List ℕ). held_piece x.held l d x.out.now) c.label.ensures c.stretch.ensures; output = c.piece.ensures.output ∙ ap₂ (λ (l : Label) (d : List ℕ). held_piece_out x.held l d x.out.now) c.label.ensures c.stretch.ensures }
