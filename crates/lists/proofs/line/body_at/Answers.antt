-- `lists::line::body_at`: the six bytes of a full segment's length, or a number as any other.
use mathlib.Core.Path.{refl}
use Prim.Native.Nat.{◌-◌}
use native.Mathlib.Omega.{arith}
use lib.ListN.{length, drop, length-drop}
use lib.Seq.{length-take-le}
use Rattle.lists.proofs.Parts.{full_is}
use Rattle.lists.proofs.line.body_at.Goals as goal

pub returns-then-starts_with : goal.returns-then-starts_with
returns-then-starts_with c = let same = c.if-starts_with.ensures in full_is c.args.text.now c.args.at (omega (arith, same.bound refl, length-take-le (length c.args.text.now - c.args.at) (drop c.args.at c.args.text.now) (omega (arith, length-drop c.args.at c.args.text.now)))) same.value
