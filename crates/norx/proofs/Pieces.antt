-- Pieces cut anywhere: only the place in the block counts, and a piece parts where a block ends.
-- Assumes nothing.
use mathlib.Core.Path.{◌≡◌, refl, sym, ap, ap₂, ◌∙◌}
use mathlib.Core.Bool.{cond}
use mathlib.Core.Logic.{◌⊎◌, ⊎_elim}
use mathlib.Core.List.{List, [], ◌∷◌, ◌++◌}
use Prim.Native.Nat.{ℕ, suc, ◌+◌, ◌%◌, ◌≤◌}
use native.Mathlib.Nat.{mod-add-mod, mod-eq_of_lt, mod-mod}
use native.Mathlib.Numerals.{add-one}
use native.Mathlib.Omega.{arith}
use lib.Bits.{bit_xor}
use lib.Dec.{eqb}
use lib.ListN.{length, get_or, take, drop, take-append-drop}
use lib.Seq.{length-take-le}
use Rattle.norx.specs.Norx.{Width, rate, State, xor_block, rate_of, entered, body_mark}
use Rattle.norx.specs.Stream.{placed, entered_at, fed, fed_text, unfed}
use Rattle.norx.proofs.Blocks.{rate_pos}
use Rattle.norx.proofs.Stream.{fed-append}
use Rattle.norx.proofs.Text.{text_append}
use Rattle.norx.proofs.Unseal.{unfed-append}

suc_mod : (i j R : ℕ) → i % R ≡ j % R → suc i % R ≡ suc j % R
suc_mod i j R h =
    ap (λ (k : ℕ). k % R) (sym (add-one i)) ∙ sym (mod-add-mod i R 1) ∙ ap (λ (k : ℕ). (k + 1) % R) h ∙ mod-add-mod j R 1
    ∙ ap (λ (k : ℕ). k % R) (add-one j)

module _ (w : Width) (l : ℕ) where
  entered_mod : (m : ℕ) (s : State) (i j : ℕ) → i % rate w ≡ j % rate w → entered_at w l m s i ≡ entered_at w l m s j
  unfolding entered_at
  entered_mod m s i j h = ap (λ (k : ℕ). cond (eqb k 0) (entered w l m s) s) h

  -- only the place in the block counts
  pub fed_mod : (m : ℕ) (d : List ℕ) (s : State) (i j : ℕ) → i % rate w ≡ j % rate w → fed w l m s i d ≡ fed w l m s j d
  unfolding fed
  fed_mod m [] s i j h = refl
  fed_mod m (b ∷ d) s i j h =
      let t : State = xor_block w (entered_at w l m s i) (placed (i % rate w) (b ∷ [])) in
      fed_mod m d t (suc i) (suc j) (suc_mod i j (rate w) h)
      ∙ ap₂ (λ (x : State) (k : ℕ). fed w l m (xor_block w x (placed k (b ∷ []))) (suc j) d) (entered_mod m s i j h) h

  pub text_mod : (d : List ℕ) (s : State) (i j : ℕ) → i % rate w ≡ j % rate w → fed_text w l s i d ≡ fed_text w l s j d
  unfolding fed_text
  text_mod [] s i j h = refl
  text_mod (b ∷ d) s i j h =
      let t : State = xor_block w (entered_at w l body_mark s i) (placed (i % rate w) (b ∷ [])) in
      let u : State = xor_block w (entered_at w l body_mark s j) (placed (j % rate w) (b ∷ [])) in
      let e : t ≡ u = ap₂ (λ (x : State) (k : ℕ). xor_block w x (placed k (b ∷ []))) (entered_mod body_mark s i j h) h in
      λ k. get_or (rate_of w (e k)) (h k) 0 ∷ (text_mod d t (suc i) (suc j) (suc_mod i j (rate w) h) ∙ ap (λ (x : State). fed_text w l x (suc j) d) e) k

  pub unfed_mod : (c : List ℕ) (s : State) (i j : ℕ) → i % rate w ≡ j % rate w → unfed w l s i c ≡ unfed w l s j c
  unfolding unfed
  unfed_mod [] s i j h = refl
  unfed_mod (y ∷ c) s i j h =
      let x : ℕ = bit_xor (get_or (rate_of w (entered_at w l body_mark s i)) (i % rate w) 0) y in
      let z : ℕ = bit_xor (get_or (rate_of w (entered_at w l body_mark s j)) (j % rate w) 0) y in
      let e : x ≡ z = ap₂ (λ (u : State) (k : ℕ). bit_xor (get_or (rate_of w u) k 0) y) (entered_mod body_mark s i j h) h in
      let t : State = xor_block w (entered_at w l body_mark s i) (placed (i % rate w) (x ∷ [])) in
      let u : State = xor_block w (entered_at w l body_mark s j) (placed (j % rate w) (z ∷ [])) in
      let f : t ≡ u = λ k. xor_block w (entered_mod body_mark s i j h k) (placed (h k) (e k ∷ [])) in
      λ k. e k ∷ (unfed_mod c t (suc i) (suc j) (suc_mod i j (rate w) h) ∙ ap (λ (v : State). unfed w l v (suc j) c) f) k

  pub fed-nil : (m : ℕ) (s : State) (i j : ℕ) (x : List ℕ) → length x ≡ 0 → fed w l m s i x ≡ fed w l m s j x
  unfolding fed
  fed-nil m s i j [] e = refl
  fed-nil m s i j (b ∷ x) e = let z : ⊥ = omega arith in absurd z

  text_nil : (s : State) (i j : ℕ) (x : List ℕ) → length x ≡ 0 → fed_text w l s i x ≡ fed_text w l s j x
  unfolding fed_text
  text_nil s i j [] e = refl
  text_nil s i j (b ∷ x) e = let z : ⊥ = omega arith in absurd z

  unfed-nil : (s : State) (i j : ℕ) (x : List ℕ) → length x ≡ 0 → unfed w l s i x ≡ unfed w l s j x
  unfolding unfed
  unfed-nil s i j [] e = refl
  unfed-nil s i j (b ∷ x) e = let z : ⊥ = omega arith in absurd z

  -- a piece d after n bytes: its first k bytes go on in a block, and the rest begins a block of its own
  module _ (d : List ℕ) (s : State) (n k : ℕ) (h : k ≤ length d) (c : (length (drop k d) ≡ 0) ⊎ ((n % rate w + k) % rate w ≡ 0)) where
    within : n % rate w + length (take k d) ≡ n % rate w + k
    within = ap (λ (x : ℕ). n % rate w + x) (length-take-le k d h)

    aligned : (n % rate w + k) % rate w ≡ 0 → (n % rate w + k) % rate w ≡ 0 % rate w
    aligned e = e ∙ sym (mod-eq_of_lt (rate_pos w))

    pub fed_cut : (m : ℕ) → fed w l m s n d ≡ fed w l m (fed w l m s (n % rate w) (take k d)) 0 (drop k d)
    fed_cut m =
        let j : ℕ = n % rate w in
        let t : State = fed w l m s j (take k d) in
        fed_mod m d s n j (sym (mod-mod n (rate w)))
        ∙ ap (fed w l m s j) (sym (take-append-drop k d)) ∙ fed-append w l m (take k d) (drop k d) s j
        ∙ ap (λ (i : ℕ). fed w l m t i (drop k d)) within
        ∙ ⊎_elim (fed-nil m t (j + k) 0 (drop k d)) (λ e. fed_mod m (drop k d) t (j + k) 0 (aligned e)) c

    pub text_cut : fed_text w l s n d ≡ fed_text w l s (n % rate w) (take k d) ++ fed_text w l (fed w l body_mark s (n % rate w) (take k d)) 0 (drop k d)
    text_cut =
        let j : ℕ = n % rate w in
        let t : State = fed w l body_mark s j (take k d) in
        text_mod d s n j (sym (mod-mod n (rate w)))
        ∙ ap (fed_text w l s j) (sym (take-append-drop k d)) ∙ text_append w l (take k d) (drop k d) s j
        ∙ ap (λ (x : List ℕ). fed_text w l s j (take k d) ++ x)
        (ap (λ (i : ℕ). fed_text w l t i (drop k d)) within ∙ ⊎_elim (text_nil t (j + k) 0 (drop k d)) (λ e. text_mod (drop k d) t (j + k) 0 (aligned e)) c)

    pub unfed_cut : unfed w l s n d
        ≡ unfed w l s (n % rate w) (take k d) ++ unfed w l (fed w l body_mark s (n % rate w) (unfed w l s (n % rate w) (take k d))) 0 (drop k d)
    unfed_cut =
        let j : ℕ = n % rate w in
        let a : List ℕ = unfed w l s j (take k d) in
        let t : State = fed w l body_mark s j a in
        unfed_mod d s n j (sym (mod-mod n (rate w)))
        ∙ ap (unfed w l s j) (sym (take-append-drop k d)) ∙ unfed-append w l (take k d) (drop k d) s j
        ∙ ap (λ (x : List ℕ). a ++ x)
        (ap (λ (i : ℕ). unfed w l t i (drop k d)) within ∙ ⊎_elim (unfed-nil t (j + k) 0 (drop k d)) (λ e. unfed_mod (drop k d) t (j + k) 0 (aligned e)) c)
