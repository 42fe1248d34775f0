-- `lists::line::part_at`: the digits at the place, and the byte behind them.
use mathlib.Core.Path.{sym}
use borrow.Author.Rules.{rules}
use Rattle.lists.proofs.Parts.{ended_is, part_none, part_other, part_is}
use Rattle.lists.proofs.line.part_at.Goals as goal

pub returns-in_err-value : goal.returns-in_err-value
returns-in_err-value c = rw c.from_residual.ensures (part_none c.args.text.now c.args.at c.args.stop c.requires c.in_err-value.ensures)

pub returns-then-not-ended_by : goal.returns-then-not-ended_by
returns-then-not-ended_by c = part_other c.args.text.now c.args.at c.args.stop c.requires _ _ c.in_ok-value.ensures (sym c.if-not-ended_by.ensures)

pub overflow_add-result : goal.overflow_add-result
overflow_add-result c =
    let there = (ended_is c.args.text.now _ c.args.stop (sym c.if-not-ended_by.ensures)).0 in
    search rules

pub returns : goal.returns
returns c = part_is c.args.text.now c.args.at c.args.stop c.requires _ _ c.in_ok-value.ensures (sym c.if-not-ended_by.ensures)
