-- `sponge::parts::decrypt_full`: the message of every full block written, and taken in.
use Rattle.std.proofs.Common.{rules}
use Rattle.std.proofs.Math.Nat.{div-mul-le_self}
use Rattle.norx.proofs.Bytes.{Bytes}
use Rattle.norx.proofs.Turns.{written, turns_opened, shown_opened}
use Rattle.sponge.proofs.parts.decrypt_full.Goals as goal

pub returns-clause-state : goal.returns-clause-state
returns-clause-state g c = search (rules, turns_opened, div-mul-le_self)

pub returns-clause-output : goal.returns-clause-output
returns-clause-output g c =
    let bytes : Bytes c.args.c.now = λ i. (c.type_inv.c i).fits in
    search (rules, written, shown_opened, div-mul-le_self)
