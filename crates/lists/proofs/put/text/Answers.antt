-- `lists::put::text`: a copy is the text laid.
use mathlib.Core.Path.{refl, ap, ◌∙◌}
use mathlib.Core.List.{List, ◌++◌}
use Prim.Native.Nat.{ℕ, ◌-◌}
use native.Mathlib.Omega.{arith}
use lib.ListN.{length, take, drop}
use Rattle.lists.proofs.Writing.{text_laid}
use Rattle.lists.proofs.put.text.Goals as goal

pub returns : goal.returns
returns c =
    let x = c.args in
    let l = x.out.now in
    let room = length l - x.at in
    record { place = refl; text = ap (λ (y : List ℕ). take x.at l ++ (y ++ drop room (drop x.at l))) (c.copy.ensures.laid (omega arith)) ∙ text_laid l x.x.now x.at c.requires refl }
