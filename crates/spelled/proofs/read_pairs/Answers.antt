-- `spelled::read_pairs`: digits, twice as many as there are bytes.
use mathlib.Core.Path.{refl}
use native.Mathlib.Omega.{arith}
use Rattle.spelled.proofs.Says.{says_no}
use Rattle.spelled.proofs.Spells.{pairs_length, pairs_digits}
use Rattle.spelled.proofs.read_pairs.Goals as goal

pub returns-then-n-eq0 : goal.returns-then-n-eq0
returns-then-n-eq0 c = let word = c.args.word.now in ((λ l p room. omega (arith, pairs_length word l p, p.1)), refl)

pub returns-then-word-n : goal.returns-then-word-n
returns-then-word-n c = let word = c.args.word.now in ((λ l p room. omega (arith, pairs_length word l p)), refl)

pub returns-then-out-n : goal.returns-then-out-n
returns-then-out-n c = let word = c.args.word.now in ((λ l p room. omega (arith, pairs_length word l p)), refl)

pub returns-then-not-all_digits : goal.returns-then-not-all_digits
returns-then-not-all_digits c = ((λ l p room. says_no _ c.all_digits.result c.if-not-all_digits.true c.all_digits.ensures (pairs_digits _ l p)), refl)
