-- `lists::read_list`: before each turn the bytes read are a list of so many lines.
use Prim.Native.Nat.{◌-◌}
use lib.ListN.{length}
use Rattle.lists.proofs.Turns.{Read}
use Rattle.lists.proofs.read_list.Given as goal

abbrev pub invariant-loop-at : goal.invariant-loop-at
invariant-loop-at l = Read l.text l.front l.first.job l.first.revision l.body l.lines l.at

abbrev pub decreases-loop-at : goal.decreases-loop-at
decreases-loop-at l = length l.text - l.at
