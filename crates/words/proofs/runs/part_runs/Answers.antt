-- `words::runs::part_runs`: none of an empty part, and else floor(n/R) + 1.
use native.Mathlib.Nat.{div-le_self}
use native.Mathlib.Omega.{arith}
use Rattle.rules.proofs.Work.{part_none, part_some}
use Rattle.words.proofs.runs.part_runs.Goals as goal

pub overflow_add-result : goal.overflow_add-result
overflow_add-result c = omega (arith, c.requires.1, div-le_self c.args.n c.args.rate)

pub overflow_cast-result : goal.overflow_cast-result
overflow_cast-result c = omega (arith, c.requires.1, div-le_self c.args.n c.args.rate)

pub returns-then-n-eq0 : goal.returns-then-n-eq0
returns-then-n-eq0 c = record { number = part_none c.args.rate c.args.n c.if-n-eq0.true; small = omega arith }

pub returns-else-n-eq0 : goal.returns-else-n-eq0
returns-else-n-eq0 c = record { number = part_some c.args.rate c.args.n c.if-n-eq0.false; small = omega (arith, c.requires.1, div-le_self c.args.n c.args.rate) }
