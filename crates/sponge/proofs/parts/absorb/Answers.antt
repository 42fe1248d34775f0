-- `sponge::parts::absorb`: nothing of an empty part, else its full blocks and the padded one.
use Rattle.std.proofs.Common.{rules}
use Rattle.norx.proofs.Blocks.{part_none, part_some}
use Rattle.sponge.proofs.Laid.{left_of}
use Rattle.sponge.proofs.parts.absorb.Goals as goal

pub returns-then-is_empty : goal.returns-then-is_empty
returns-then-is_empty g c = search (rules, part_none)

pub returns : goal.returns
returns g c = search (rules, part_some, left_of)
