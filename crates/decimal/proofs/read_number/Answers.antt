-- `decimal::read_number`: a word is a number where the digits at its start are all of it.
use Rattle.decimal.proofs.Runs.{word_none, word_is}
use Rattle.decimal.proofs.read_number.Goals as goal

pub returns-in_err-value : goal.returns-in_err-value
returns-in_err-value c = rw c.from_residual.ensures (word_none _ c.in_err-value.ensures)

pub returns : goal.returns
returns c = rw c.then_some.ensures (word_is _ _ _ c.in_ok-value.ensures)
