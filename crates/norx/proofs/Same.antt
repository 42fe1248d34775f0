-- Texts of two lengths are not the same.
-- Assumes nothing.
use mathlib.Core.Path.{◌≡◌, refl, sym, ap}
use mathlib.Core.Bool.{Bool, true, false, ◌&&◌}
use mathlib.Core.List.{List, [], ◌∷◌}
use Prim.Native.Nat.{ℕ, suc}
use lib.Dec.{eqb}
use lib.ListN.{length}
use Rattle.norx.specs.Norx.{same}

pub same_lengths : (a b : List ℕ) → (length a ≡ length b → ⊥) → false ≡ same a b
unfolding same
same_lengths [] [] h = absurd (h refl)
same_lengths [] (y ∷ b) h = refl
same_lengths (x ∷ a) [] h = refl
same_lengths (x ∷ a) (y ∷ b) h = sym (and_never (eqb x y) (same a b) (sym (same_lengths a b (λ e. h (ap suc e)))))
  where
    and_never : (p q : Bool) → q ≡ false → (p && q) ≡ false
    and_never true q e = e
    and_never false q e = refl
