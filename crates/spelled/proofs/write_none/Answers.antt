-- `spelled::write_none`: one byte, where there is room for it.
use mathlib.Core.Path.{◌≡◌, refl, sym, ◌∙◌}
use mathlib.Core.List.{List, [], ◌∷◌}
use Prim.Native.Nat.{ℕ}
use native.Mathlib.Omega.{arith}
use borrow.Author.Tests.{eqb-true, eqb-false}
use lib.ListN.{length, set, drop}
use Rattle.spelled.proofs.Writing.{put_room, put_none}
use Rattle.spelled.proofs.write_none.Goals as goal

first_set : (o : List ℕ) (b : ℕ) → (length o ≡ 0 → ⊥) → set o 0 b ≡ b ∷ drop 1 o
first_set [] b h = absurd (h refl)
first_set (x ∷ o) b h = refl

pub returns-then-is_empty : goal.returns-then-is_empty
returns-then-is_empty c =
    let out = c.args.out.now in
    let none = put_none (45 ∷ []) out (omega (arith, eqb-true (length out) 0 (sym c.if-is_empty.ensures))) in
    record { length = sym none.0; word = sym none.1 }

pub returns : goal.returns
returns c =
    let out = c.args.out.now in
    let some = eqb-false (length out) 0 (sym c.if-is_empty.ensures) in
    let room = put_room (45 ∷ []) out (omega arith) in
    record { length = sym room.0; word = first_set out 45 some ∙ sym room.1 }
