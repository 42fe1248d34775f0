-- `sponge::steps::enter` takes in a block of zeros.
use Rattle.std.proofs.Common.{rules}
use Rattle.norx.proofs.Turns.{entered_zeros}
use Rattle.sponge.proofs.steps.enter.Goals as goal

pub returns : goal.returns
returns g c = search (rules, entered_zeros)
