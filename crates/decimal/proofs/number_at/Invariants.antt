-- `decimal::number_at`: before the turn i the digits are v's text and those from i on.
use Rattle.decimal.proofs.Runs.{Begun}
use Rattle.decimal.proofs.number_at.Given as goal

abbrev pub invariant-loop-i : goal.invariant-loop-i
invariant-loop-i l = Begun l.text l.at l.v l.i
