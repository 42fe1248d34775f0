-- `lists::line::first_ok`: index 0, and a length that a segment can have.
use mathlib.Core.Path.{ap}
use mathlib.Core.Bool.{Bool, ◌&&◌}
use lib.Dec.{eqb}
use Rattle.lists.specs.Places.{is_first}
use Rattle.lists.proofs.line.first_ok.Goals as goal

pub returns : goal.returns
unfolding is_first
returns c = ap (λ (b : Bool). eqb c.args.index 0 && b) c.segment_ok.ensures
