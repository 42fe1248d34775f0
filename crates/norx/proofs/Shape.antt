-- Every state that NORX makes has four rows of four words; and what zeros do to such a state.
-- Assumes nothing.
use mathlib.Core.Path.{◌≡◌}
use mathlib.Core.Bool.{Bool, true, false, cond}
use mathlib.Core.List.{List, [], ◌∷◌}
use Prim.Native.Nat.{ℕ, zero, suc, ◌%◌}
use lib.Bits.{xor_zero_r}
use lib.Dec.{eqb}
use Rattle.norx.specs.Norx.{Width, rate, State, row, rows, row_of, xor_row, f_of, p_of, on_diagonals, constants, keyed, start, xor_block, marked, entered}
use Rattle.norx.specs.Turns.{after_turns}
use Rattle.norx.specs.Stream.{entered_at, fed, ended}
use Rattle.norx.specs.Whole.{Whole, four, four_rows}

pub data Shaped : State → Type 0 where
  shaped : {a b c d e f g h i j k m n o p q : ℕ} → Shaped (rows (row a b c d) (row e f g h) (row i j k m) (row n o p q))

pub shaped_p_of : (w : Width) (l : ℕ) (s : State) → Shaped s → Shaped (p_of w l s)
unfolding p_of f_of on_diagonals
shaped_p_of w zero s h = h
shaped_p_of w (suc l) s h = shaped

shaped_marked : (m : ℕ) (s : State) → Shaped s → Shaped (marked m s)
unfolding marked
shaped_marked m s shaped = shaped

shaped_keyed : (k : List ℕ) (s : State) → Shaped s → Shaped (keyed k s)
unfolding keyed xor_row
shaped_keyed k s shaped = shaped

shaped_xor_block : (w : Width) (s : State) (b : List ℕ) → Shaped s → Shaped (xor_block w s b)
unfolding xor_block xor_row
shaped_xor_block w s b shaped = shaped

pub shaped_start : (w : Width) (l t : ℕ) (key nonce : List ℕ) → Shaped (start w l t (row_of w key) (row_of w nonce))
unfolding start constants p_of f_of on_diagonals xor_row
shaped_start w l t key nonce = shaped_keyed (row_of w key) _ (shaped_p_of w l _ shaped)

module _ (w : Width) (l m : ℕ) where
  shaped_entered : (s : State) → Shaped s → Shaped (entered w l m s)
  unfolding entered
  shaped_entered s h = shaped_p_of w l (marked m s) (shaped_marked m s h)

  shaped_cond : (b : Bool) (s : State) → Shaped s → Shaped (cond b (entered w l m s) s)
  shaped_cond true s h = shaped_entered s h
  shaped_cond false s h = h

  shaped_entered_at : (s : State) (i : ℕ) → Shaped s → Shaped (entered_at w l m s i)
  unfolding entered_at
  shaped_entered_at s i h = shaped_cond (eqb (i % rate w) 0) s h

  pub shaped_fed : (d : List ℕ) (s : State) (i : ℕ) → Shaped s → Shaped (fed w l m s i d)
  unfolding fed
  shaped_fed [] s i h = h
  shaped_fed (b ∷ d) s i h = shaped_fed d _ (suc i) (shaped_xor_block w (entered_at w l m s i) _ (shaped_entered_at s i h))

  pub shaped_ended : (s : State) (n : ℕ) → Shaped s → Shaped (ended w l m s n)
  unfolding ended
  shaped_ended s zero h = h
  shaped_ended s (suc n) h = shaped_xor_block w (entered_at w l m s (suc n)) _ (shaped_entered_at s (suc n) h)

  shaped_turns : (opening : Bool) (s : State) (d : List ℕ) (i : ℕ) → Shaped s → Shaped (after_turns w l m opening s d i)
  unfolding after_turns
  shaped_turns opening s d zero h = h
  shaped_turns true s d (suc i) h = shaped_xor_block w (entered w l m (after_turns w l m true s d i)) _ (shaped_entered _ (shaped_turns true s d i h))
  shaped_turns false s d (suc i) h = shaped_xor_block w (entered w l m (after_turns w l m false s d i)) _ (shaped_entered _ (shaped_turns false s d i h))

-- a state that code holds
shaped_whole : (w : Width) (s : State) → Whole w s → Shaped s
shaped_whole w s (four_rows (four h0 h1 h2 h3) (four i0 i1 i2 i3) (four j0 j1 j2 j3) (four k0 k1 k2 k3)) = shaped

-- a key of zeros leaves a state as it is
unkeyed : (s : State) → Shaped s → keyed (row 0 0 0 0) s ≡ s
unfolding keyed xor_row
unkeyed s (shaped {a} {b} {c} {d} {e} {f} {g} {h} {i} {j} {k} {m} {n} {o} {p} {q}) =
    λ z. rows (row a b c d) (row e f g h) (row i j k m) (row (xor_zero_r n z) (xor_zero_r o z) (xor_zero_r p z) (xor_zero_r q z))

-- so the turns of a state that code holds, and then a key of zeros, are the turns alone
pub unkeyed_turns : (w : Width) (l m : ℕ) (opening : Bool) (s : State) (d : List ℕ) (i : ℕ) → Whole w s
    → keyed (row 0 0 0 0) (after_turns w l m opening s d i) ≡ after_turns w l m opening s d i
unkeyed_turns w l m opening s d i h = unkeyed _ (shaped_turns w l m opening s d i (shaped_whole w s h))
