-- `lists::write_behind`: before the turn i the first i lines are laid.
use mathlib.Core.Path.{◌≡◌}
use mathlib.Core.List.{List, ◌++◌}
use Prim.Native.Nat.{ℕ}
use lib.ListN.{length}
use Rattle.decimal.specs.Laid.{laid}
use Rattle.lists.specs.Lists.{segment_length, lines_of}
use Rattle.lists.specs.Pieces.{rest_text}
use Rattle.lists.proofs.write_behind.Given as goal

-- line i with a front, and the first k lines
abbrev pub line : List ℕ → ℕ → ℕ → List ℕ
line front body i = front ++ rest_text i (segment_length body i)

abbrev pub upto : List ℕ → ℕ → ℕ → List ℕ
upto front body k = lines_of (line front body) k

abbrev pub invariant-loop-i : goal.invariant-loop-i
invariant-loop-i l =
    (l.at ≡ length (upto l.front l.body l.i)) × (l.out ≡ laid l.initial.out 0 (upto l.front l.body l.i))
