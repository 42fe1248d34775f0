-- The functions on pieces of a part: what their calls give, put together, is `fed` and `ended`. At every width.
-- Assumes nothing.
use mathlib.Core.Path.{◌≡◌, refl, sym, ap, ap₂, ◌∙◌}
use mathlib.Core.Logic.{◌⊎◌, inl, inr, ⊎_elim}
use mathlib.Core.List.{List, [], ◌∷◌, ◌++◌, append-nil, append_assoc}
use Prim.Native.Nat.{ℕ, ◌+◌, ◌-◌, ◌*◌, ◌%◌, ◌<◌, ◌≤◌}
use native.Mathlib.Nat.{mod-eq_of_lt, mul-mod_left, pos_of_ne-zero, sub-zero, le_of_lt, le_refl}
use native.Mathlib.Omega.{arith}
use lib.ListN.{length, take, drop, drop_of_length-le, length-drop}
use Rattle.norx.specs.Norx.{Width, rate, State, xor_block, entered, padded, after_blocks}
use Rattle.norx.specs.Stream.{placed, fed, ended}
use Rattle.norx.proofs.Bytes.{Bytes, zeros, length-zeros}
use Rattle.norx.specs.Turns.{put}
use Rattle.norx.proofs.Slices.{drop-replicate, take-replicate}
use Rattle.norx.proofs.Overlay.{block_same, same_zeros}
use Rattle.norx.specs.Blocks.{fulls, left}
use Rattle.norx.proofs.Blocks.{rate_pos}
use Rattle.norx.proofs.Stream.{entered_start, entered_within, fed_some, fed_left, ended_some}
use Rattle.norx.proofs.Pieces.{fed_mod, fed_cut}

-- bytes copied to place j of zeros
pub placed_of : (R j : ℕ) (d : List ℕ) {y : List ℕ} → j + length d ≤ R → y ≡ d ++ drop (length d) (take (R - j) (drop j (zeros R)))
    → put (zeros R) j y (R - j) ≡ placed j d ++ zeros (R - j - length d)
placed_of R j d h e =
    let k : ℕ = R - j in
    let z : drop j (zeros R) ≡ zeros k = drop-replicate j R 0 in
    let y' : d ++ drop (length d) (take k (drop j (zeros R))) ≡ d ++ zeros (k - length d) =
    ap (λ (b : List ℕ). d ++ b)
    (ap (λ (t : List ℕ). drop (length d) (take k t)) z ∙ ap (drop (length d)) (take-replicate k k 0 (le_refl k)) ∙ drop-replicate (length d) k 0) in
    let rest : drop k (drop j (zeros R)) ≡ [] = ap (drop k) z ∙ drop_of_length-le (zeros k) {i = k} (omega (arith, length-zeros k)) in
    (λ i. take-replicate j R 0 (omega arith) i ++ ((e ∙ y') i ++ rest i))
    ∙ ap (λ (t : List ℕ). zeros j ++ t) (append-nil (d ++ zeros (k - length d))) ∙ sym (append_assoc (zeros j) d (zeros (k - length d)))

module _ (w : Width) (l m : ℕ) where
  -- bytes that go on in a block
  pub fed_filling : (s : State) (j : ℕ) (d : List ℕ) → 0 < j → 0 < length d → j + length d ≤ rate w → Bytes d → xor_block w s (placed j d) ≡ fed w l m s j d
  fed_filling s j d hj hd h bytes =
      let e : j % rate w ≡ j = mod-eq_of_lt (omega arith) in
      let z : j % rate w ≡ 0 → ⊥ = λ q. omega arith in
      sym (fed_some w l m d s j hd (omega arith) bytes ∙ ap₂ (λ (t : State) (k : ℕ). xor_block w t (placed k d)) (entered_within w l m s j z) e)

  -- bytes that begin a block and do not pass it
  pub fed_fresh : (s : State) (d : List ℕ) → 0 < length d → length d ≤ rate w → Bytes d → xor_block w (entered w l m s) d ≡ fed w l m s 0 d
  fed_fresh s d hd h bytes =
      let e : 0 % rate w ≡ 0 = mod-eq_of_lt (rate_pos w) in
      sym (fed_some w l m d s 0 hd (omega arith) bytes ∙ ap₂ (λ (t : State) (k : ℕ). xor_block w t (placed k d)) (entered_start w l m s 0 e) e)

  pub fed_none : (s : State) (i : ℕ) (d : List ℕ) → length d ≡ 0 → s ≡ fed w l m s i d
  unfolding fed
  fed_none s i [] e = refl
  fed_none s i (b ∷ d) e = let z : ⊥ = omega arith in absurd z

  -- as code shows them: the bytes laid into a block of zeros, and that block xored in
  pub filling_of : (s : State) (j : ℕ) (d : List ℕ) {b : List ℕ} {u : State} → (0 < length d → 0 < j) → (length d ≡ 0 → ⊥) → j + length d ≤ rate w → Bytes d
      → b ≡ placed j d ++ zeros (rate w - j - length d) → u ≡ xor_block w s b → u ≡ fed w l m s j d
  filling_of s j d hj hd h bytes hb hu =
      let some : 0 < length d = pos_of_ne-zero hd in
      hu ∙ ap (xor_block w s) hb ∙ block_same w s (placed j d ++ zeros (rate w - j - length d)) (placed j d) (same_zeros (placed j d) (rate w - j - length d))
      ∙ fed_filling s j d (hj some) some h bytes

  pub fresh_of_lem : (s : State) (d : List ℕ) {b : List ℕ} {e u : State} → (length d ≡ 0 → ⊥) → length d < rate w → Bytes d
      → e ≡ entered w l m s → b ≡ d ++ zeros (rate w - length d) → u ≡ xor_block w e b → u ≡ fed w l m s 0 d
  fresh_of_lem s d hd h bytes he hb hu =
      hu ∙ ap₂ (λ (x : State) (y : List ℕ). xor_block w x y) he hb
      ∙ block_same w (entered w l m s) (d ++ zeros (rate w - length d)) d (same_zeros d (rate w - length d))
      ∙ fed_fresh s d (pos_of_ne-zero hd) (le_of_lt h) bytes

  pub aligned_of : (s : State) (d : List ℕ) {t u : State} {x : List ℕ} → Bytes d → t ≡ after_blocks w l m s d (fulls w d) → x ≡ left w d
      → u ≡ fed w l m t 0 x → u ≡ fed w l m s 0 d
  aligned_of s d bytes ht hx hu =
      let f : State = after_blocks w l m s d (fulls w d) in
      let e : 0 % rate w ≡ fulls w d * rate w % rate w = mod-eq_of_lt (rate_pos w) ∙ sym (mul-mod_left (fulls w d) (rate w)) in
      hu ∙ ap₂ (λ (y : State) (z : List ℕ). fed w l m y 0 z) ht hx ∙ fed_mod w l m (left w d) f 0 (fulls w d * rate w) e ∙ sym (fed_left w l m s d bytes)

  pub piece_of : (s : State) (n k : ℕ) (d : List ℕ) {t u : State} {a b : List ℕ} → k ≤ length d
      → (length d - k ≡ 0) ⊎ ((n % rate w + k) % rate w ≡ 0) → a ≡ take k d → b ≡ drop k d → t ≡ fed w l m s (n % rate w) a → u ≡ fed w l m t 0 b
      → u ≡ fed w l m s n d
  piece_of s n k d h c ha hb ht hu =
      hu ∙ ap₂ (λ (x : State) (y : List ℕ). fed w l m x 0 y) (ht ∙ ap (fed w l m s (n % rate w)) ha) hb
      ∙ sym (fed_cut w l d s n k h (⊎_elim (λ e. inl (length-drop k d ∙ e)) inr c) m)

  -- the end of a part
  module _ (s : State) (n : ℕ) (some : n ≡ 0 → ⊥) {z b : List ℕ} {u : State} (hz : z ≡ zeros (n % rate w)) (hb : b ≡ padded (rate w) z) where
    pub end_fresh : {e : State} → n % rate w ≡ 0 → e ≡ entered w l m s → u ≡ xor_block w e b → u ≡ ended w l m s n
    end_fresh h he hu =
        hu ∙ ap₂ (λ (x : State) (y : List ℕ). xor_block w x y) (he ∙ sym (entered_start w l m s n h)) (hb ∙ ap (padded (rate w)) hz)
        ∙ sym (ended_some w l m s n (pos_of_ne-zero some))

    pub end_within : (n % rate w ≡ 0 → ⊥) → u ≡ xor_block w s b → u ≡ ended w l m s n
    end_within h hu =
        hu ∙ ap₂ (λ (x : State) (y : List ℕ). xor_block w x y) (sym (entered_within w l m s n h)) (hb ∙ ap (padded (rate w)) hz)
        ∙ sym (ended_some w l m s n (pos_of_ne-zero some))

  pub end_none : (s : State) (n : ℕ) → n ≡ 0 → s ≡ ended w l m s n
  unfolding ended
  end_none s n h = ap (ended w l m s) (sym h)

pub zeros_cut : (R j : ℕ) → j ≤ R → take (j - 0) (zeros R) ≡ zeros j
zeros_cut R j h = ap (λ (k : ℕ). take k (zeros R)) (sub-zero j) ∙ take-replicate j R 0 h
