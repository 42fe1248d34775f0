-- `sponge::pieces::feed_filling`: nothing of no bytes, else one xor at their place.
use Rattle.std.proofs.Common.{rules}
use Rattle.norx.proofs.Fed.{fed_none, filling_of}
use Rattle.sponge.proofs.pieces.feed_filling.Goals as goal

pub returns-then-is_empty : goal.returns-then-is_empty
returns-then-is_empty g c = search (rules, fed_none)

pub returns : goal.returns
returns g c = search (rules, filling_of)
