-- `sponge::pieces::placed` lays the bytes at their place in zeros.
use Rattle.std.proofs.Common.{rules}
use Rattle.sponge.proofs.Laid.{laid_of}
use Rattle.sponge.proofs.pieces.placed.Goals as goal

pub returns : goal.returns
returns g c = search (rules, laid_of)
