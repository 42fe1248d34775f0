-- `sponge::parts::encrypt_full`: every full block taken in as it is, and the new rate written.
use Rattle.std.proofs.Common.{rules}
use Rattle.std.proofs.Math.Nat.{div-mul-le_self}
use Rattle.norx.proofs.Turns.{written, turns_plain, shown_plain}
use Rattle.sponge.proofs.parts.encrypt_full.Goals as goal

pub returns-clause-state : goal.returns-clause-state
returns-clause-state g c = search (rules, turns_plain, div-mul-le_self)

pub returns-clause-output : goal.returns-clause-output
returns-clause-output g c = search (rules, written, shown_plain, div-mul-le_self)
