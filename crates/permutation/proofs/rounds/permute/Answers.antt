-- `permutation::rounds::permute` is P: no round before the first turn, and one more with each.
use Rattle.std.specs.Prelude.{refl}
use Rattle.norx.specs.Norx.{p_of}
use Rattle.norx.proofs.Steps.{by_round}
use Rattle.permutation.proofs.rounds.permute.Goals as goal

pub loop-init : goal.loop-init
unfolding p_of
loop-init g c = refl

pub loop-preserved : goal.loop-preserved
loop-preserved g c = by_round g.W.Word.width c.args.s c.loop.counter c.loop.invariant c.round-t.ensures
