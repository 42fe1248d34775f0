-- `permutation::round` is F: the diagonal step after the column step.
use Rattle.norx.specs.Norx.{f_of}
use Rattle.permutation.proofs.round.Goals as goal

pub returns : goal.returns
unfolding f_of
returns g c = cc
