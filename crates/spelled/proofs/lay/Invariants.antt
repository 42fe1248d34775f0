-- `spelled::lay`: before the turn i the first i bytes have the first 2 * i digits for their text.
use mathlib.Core.Path.{◌≡◌}
use Prim.Native.Nat.{◌*◌}
use lib.ListN.{take, drop}
use Rattle.spelled.specs.Spelled.{hex_text}
use Rattle.spelled.proofs.lay.Given as goal

abbrev pub invariant-loop-i : goal.invariant-loop-i
invariant-loop-i l = (hex_text (take l.i l.out) ≡ take (2 * l.i) l.word) × (drop l.n l.out ≡ drop l.n l.initial.out)
