-- `sponge::pieces::end`: nothing after no bytes, else the padding at the place that they reached.
use Rattle.std.proofs.Common.{rules}
use Rattle.norx.proofs.Slices.{take-replicate}
use Rattle.norx.proofs.Fed.{end_none, end_fresh, end_within}
use Rattle.sponge.proofs.pieces.end.Goals as goal

pub returns-then-n-eq0 : goal.returns-then-n-eq0
returns-then-n-eq0 g c = search (rules, end_none)

pub returns-then-j-eq0 : goal.returns-then-j-eq0
returns-then-j-eq0 g c = search (rules, end_fresh, take-replicate)

pub returns : goal.returns
returns g c = search (rules, end_within, take-replicate)
