-- `sponge::parts::absorb_full`: every full block taken in as it is.
use Rattle.std.proofs.Common.{rules}
use Rattle.std.proofs.Math.Nat.{div-mul-le_self}
use Rattle.norx.proofs.Turns.{turns_plain}
use Rattle.sponge.proofs.parts.absorb_full.Goals as goal

pub returns : goal.returns
returns g c = search (rules, turns_plain, div-mul-le_self)
