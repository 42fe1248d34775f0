-- `sponge::pieces::feed_left`: nothing of no bytes, else the mark, P, and one xor.
use Rattle.std.proofs.Common.{rules}
use Rattle.norx.proofs.Fed.{fed_none, fresh_of_lem}
use Rattle.sponge.proofs.pieces.feed_left.Goals as goal

pub returns-then-is_empty : goal.returns-then-is_empty
returns-then-is_empty g c = search (rules, fed_none)

pub returns : goal.returns
returns g c = search (rules, fresh_of_lem)
