-- `decimal::number_length`: one digit, or one more than the logarithm.
use mathlib.Core.Path.{sym}
use native.Mathlib.Omega.{arith}
use Rattle.decimal.proofs.Digits.{length_small, length_log}
use Rattle.decimal.proofs.number_length.Goals as goal

pub returns-then-n-lt10 : goal.returns-then-n-lt10
returns-then-n-lt10 c = (sym (length_small c.args.n c.if-n-lt10.true), omega arith)

pub returns : goal.returns
returns c =
    let log = c.ilog10.ensures in
    let long = length_log c.ilog10.result c.args.n log.power_le log.next_power_gt in
    (omega (arith, long), omega (arith, log.bound))
