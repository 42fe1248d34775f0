-- `lists::read_list`: before each turn the bytes read are a list of so many lines.
use mathlib.Core.Path.{sym}
use native.Mathlib.Omega.{arith}
use Rattle.cutting.proofs.Cuts.{last_rule}
use Rattle.lists.proofs.Turns.{no_first, other_first, starts, goes_on, not_full, other_next}
use Rattle.lists.proofs.read_list.Goals as goal

pub returns-in_default : goal.returns-in_default
returns-in_default c = no_first c.args.text.now c.in_default.ensures

pub returns-then-not-first_ok : goal.returns-then-not-first_ok
returns-then-not-first_ok c = other_first c.args.text.now _ _ _ _ _ c.in-Some.ensures (sym c.if-not-first_ok.ensures)

pub loop-at-init : goal.loop-at-init
loop-at-init c = starts c.args.text.now _ _ _ _ _ c.in-Some.ensures _ c.front_length-front.ensures.0 (sym c.if-not-first_ok.ensures)

pub returns-then-body-lines : goal.returns-then-body-lines
returns-then-body-lines c =
    let l = c.loop-at in
    not_full c.args.text.now _ _ _ l.body l.lines l.at l.invariant c.loop-at-test.true c.if-body-lines.true

pub returns-in_default-segment_at : goal.returns-in_default-segment_at
returns-in_default-segment_at c =
    let l = c.loop-at in
    other_next c.args.text.now _ _ _ l.body l.lines l.at l.invariant c.loop-at-test.true c.in_default-segment_at.ensures

pub overflow_add-body : goal.overflow_add-body
overflow_add-body c = let l = c.loop-at in let more = c.in-Some-segment_at.ensures in omega (arith, (last_rule l.lines _ more.0).0, l.invariant.within, l.invariant.few)

pub loop-at-preserved : goal.loop-at-preserved
loop-at-preserved c = let l = c.loop-at in goes_on c.args.text.now _ _ _ l.body l.lines l.at l.invariant _ _ c.if-body-lines.false c.in-Some-segment_at.ensures
