-- `sponge::steps::turn` is one turn, of which nothing is written.
use Rattle.std.proofs.Common.{rules}
use Rattle.std.proofs.Math.Nat.{div_self}
use Rattle.norx.proofs.Blocks.{rate_pos}
use Rattle.norx.proofs.Turns.{turns_one}
use Rattle.sponge.proofs.steps.turn.Goals as goal

pub returns : goal.returns
returns g c = search (rules, turns_one, div_self, rate_pos)
