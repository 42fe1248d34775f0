-- `lists::put::front`: two parts, the second behind the first.
use mathlib.Core.Path.{ap, ◌∙◌}
use mathlib.Core.List.{[], ◌∷◌}
use native.Mathlib.Omega.{arith}
use native.Mathlib.Nat.{lt_of_lt_of_le, zero-add}
use lib.Dec.{lit≤}
use lib.ListN.{length, length-append}
use Rattle.decimal.specs.Decimal.{num_text}
use Rattle.decimal.specs.Laid.{laid}
use Rattle.decimal.proofs.Digits.{length_below}
use Rattle.fields.specs.Fields.{tab}
use Rattle.lists.proofs.Writing.{part, then_laid, then_place, two_parts}
use Rattle.lists.proofs.put.front.Goals as goal

pub part-a-requires : goal.part-a-requires
part-a-requires c =
    let few = length_below 19 c.args.job (lt_of_lt_of_le c.ranges.job.fits (lit≤ tt)) in
    omega (arith, c.requires)

pub part-requires : goal.part-requires
part-requires c =
    let p = c.part-a in
    let few = length_below 19 c.args.job (lt_of_lt_of_le c.ranges.job.fits (lit≤ tt)) in
    let few-2 = length_below 19 c.args.revision (lt_of_lt_of_le c.ranges.revision.fits (lit≤ tt)) in
    omega (arith, c.requires, p.ensures.place, p.auto.out, length-append (num_text c.args.job) (tab ∷ []))

pub returns : goal.returns
returns c =
    let l = c.args.out.now in
    let p = part c.args.job tab in
    let q = part c.args.revision tab in
    let e1 = c.part-a.ensures in
    let e2 = c.part.ensures in
    let few = length_below 19 c.args.job (lt_of_lt_of_le c.ranges.job.fits (lit≤ tt)) in
    let long = length-append (num_text c.args.job) (tab ∷ []) in
    let is = two_parts c.args.job c.args.revision in
    let place = then_place p q 0 e1.place e2.place in
    let text = then_laid l p q 0 _ e1.place (omega (arith, c.requires)) e1.text e2.text in
    record { length = place ∙ zero-add _ ∙ ap length is; text = text ∙ ap (laid l 0) is }
