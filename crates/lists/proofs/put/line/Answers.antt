-- `lists::put::line`: a front and two parts, each behind the one before.
use mathlib.Core.Path.{ap, ◌∙◌}
use mathlib.Core.List.{List, [], ◌∷◌, ◌++◌}
use Prim.Native.Nat.{ℕ, ◌+◌}
use native.Mathlib.Omega.{arith}
use lib.ListN.{length, length-append}
use Rattle.decimal.specs.Decimal.{num_text}
use Rattle.decimal.specs.Laid.{laid}
use Rattle.fields.specs.Fields.{tab, newline}
use Rattle.lists.proofs.Writing.{part, then_laid, then_place, three_parts}
use Rattle.lists.proofs.put.line.Goals as goal

pub part-b-requires : goal.part-b-requires
part-b-requires c =
    let x = c.args in
    let t = c.text-a in
    let all = ap length (three_parts x.front.now x.index x.body) in
    let l1 = length-append x.front.now (part x.index tab) in
    let l2 = length-append (x.front.now ++ part x.index tab) (part x.body newline) in
    let p1 = length-append (num_text x.index) (tab ∷ []) in
    omega (arith, c.requires, t.ensures.place, t.auto.out)

pub ending-requires : goal.ending-requires
ending-requires c =
    let x = c.args in
    let t = c.text-a in
    let p = c.part-b in
    let all = ap length (three_parts x.front.now x.index x.body) in
    let l1 = length-append x.front.now (part x.index tab) in
    let l2 = length-append (x.front.now ++ part x.index tab) (part x.body newline) in
    let p2 = length-append (num_text x.body) (newline ∷ []) in
    omega (arith, c.requires, t.ensures.place, t.auto.out, p.ensures.place, p.auto.out)

pub returns : goal.returns
returns c =
    let x = c.args in
    let l = x.out.now in
    let at = x.at in
    let f = x.front.now in
    let p = part x.index tab in
    let q = part x.body newline in
    let e1 = c.text-a.ensures in
    let e2 = c.part-b.ensures in
    let e3 = c.ending.ensures in
    let is = three_parts f x.index x.body in
    let all = ap length is in
    let l1 = length-append f p in
    let l2 = length-append (f ++ p) q in
    let room = c.requires in
    let at2 = then_place f p at e1.place e2.place in
    let at3 = then_place (f ++ p) q at at2 e3.place in
    let t2 = then_laid l f p at _ e1.place (omega arith) e1.text e2.text in
    let t3 = then_laid l (f ++ p) q at _ at2 (omega arith) t2 e3.text in
    record { place = at3 ∙ ap (λ (y : List ℕ). at + length y) is; text = t3 ∙ ap (laid l at) is }
