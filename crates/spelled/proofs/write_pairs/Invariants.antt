-- `spelled::write_pairs`: before the turn i the text of the first i bytes is written.
use mathlib.Core.Path.{◌≡◌}
use mathlib.Core.List.{◌++◌}
use Prim.Native.Nat.{◌*◌}
use lib.ListN.{take, drop}
use Rattle.spelled.specs.Spelled.{hex_text}
use Rattle.spelled.proofs.write_pairs.Given as goal

abbrev pub invariant-loop-i : goal.invariant-loop-i
invariant-loop-i l = l.out ≡ hex_text (take l.i l.bytes) ++ drop (2 * l.i) l.initial.out
