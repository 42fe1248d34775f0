-- `sponge::pieces::open_filling`: nothing of no bytes, else the message at its place.
use Rattle.std.proofs.Common.{rules}
use Rattle.norx.proofs.Slices.{cut}
use Rattle.norx.proofs.Unfed.{unfed_none, unfed_filling}
use Rattle.sponge.proofs.pieces.open_filling.Goals as goal

pub returns-then-is_empty : goal.returns-then-is_empty
returns-then-is_empty g c = search (rules, unfed_none)

pub returns : goal.returns
returns g c = search (rules, unfed_filling, cut)
