-- `spelled::all_digits`: each byte is read as a digit, or one is read as none.
use borrow.Author.Rules.{rules}
use Rattle.std.proofs.lemmas.Iterator.{cases_from_all, YieldsList-from_slice}
use Rattle.spelled.specs.Spelled.{IsDigit}
use Rattle.spelled.proofs.Says.{says_all, read_some, read_none}
use Rattle.spelled.proofs.all_digits.Goals as goal

pub returns : goal.returns
returns c =
    says_all c.args.word.now c.all.result (cases_from_all _ _ _ IsDigit (λ b. IsDigit b → ⊥) c.all.ensures.ran (YieldsList-from_slice c.args.word.now cc) (λ x q k. search (rules, read_some)) (λ x q k. search (rules, read_none)))
