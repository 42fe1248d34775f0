-- `texts::same`: before each turn as many bytes are left of both texts, and what is left decides.
use mathlib.Core.Path.{sym, ap, ◌∙◌}
use mathlib.Core.Bool.{and-true, and_assoc}
use native.Mathlib.Omega.{arith}
use lib.ListN.{length}
use Rattle.std.proofs.lemmas.Iterator.{empty_from_Zip}
use Rattle.std.proofs.lemmas.Slice.Zip.{Zip-more}
use Rattle.norx.specs.Norx.{same as same_of}
use Rattle.norx.proofs.Same.{same_lengths}
use Rattle.texts.proofs.same.Goals as goal

pub returns-then-a-b : goal.returns-then-a-b
returns-then-a-b c = let x = c.args in same_lengths x.a.now x.b.now c.if-a-b.true

pub loop-x-preserved : goal.loop-x-preserved
unfolding same_of
loop-x-preserved c =
    let l = c.loop-x in
    let more = Zip-more l.x-iterator c.next.new.self c.next.result _ c.in-Some.is c.next.ensures.steps in
    record {
      long = omega (arith, ap length more.0, ap length more.1, l.invariant.long);
      decides = and_assoc l.ok _ _ ∙ rw (more.0, more.1) at l.invariant.decides;
    }

pub returns : goal.returns
unfolding same_of
returns c =
    let l = c.loop-x in
    let none = empty_from_Zip l.x-iterator c.next.new.self c.next.result c.in-None.is c.next.ensures.steps l.invariant.long in
    sym (and-true l.ok) ∙ rw (none.0, none.1) at l.invariant.decides
