-- `lists::line::rest_at`: the index, and then the body length.
use mathlib.Core.Path.{sym}
use Rattle.lists.proofs.Parts.{rest_none, rest_other, rest_no_body, rest_wrong, rest_is}
use Rattle.lists.proofs.line.rest_at.Goals as goal

pub returns-in_err-index : goal.returns-in_err-index
returns-in_err-index c = rw c.from_residual.ensures (rest_none c.args.text.now c.args.at c.args.i c.ranges.i.fits c.in_err-index.ensures)

pub returns-then-index-i : goal.returns-then-index-i
returns-then-index-i c = rest_other c.args.text.now c.args.at c.args.i _ _ c.in_ok-index.ensures c.if-index-i.true

pub returns-in_err-body : goal.returns-in_err-body
returns-in_err-body c = rw c.from_residual-in_err-body.ensures (rest_no_body c.args.text.now c.args.at c.args.i _ _ c.in_ok-index.ensures c.in_err-body.ensures)

pub returns-then-not-segment_ok : goal.returns-then-not-segment_ok
returns-then-not-segment_ok c = rest_wrong c.args.text.now c.args.at c.args.i _ _ c.in_ok-index.ensures _ _ c.in_ok-body.ensures (sym c.if-not-segment_ok.ensures)

pub returns : goal.returns
returns c = rest_is c.args.text.now c.args.at c.args.i _ _ c.in_ok-index.ensures _ _ c.in_ok-body.ensures c.if-index-i.false (sym c.if-not-segment_ok.ensures)
