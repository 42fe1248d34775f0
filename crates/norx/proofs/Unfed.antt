-- The functions on pieces of a ciphertext: what their calls give, put together, is `fed` of the message, `unfed`, and nothing is written. At every width.
-- Assumes nothing.
use mathlib.Core.Path.{◌≡◌, refl, sym, ap, ap₂, ◌∙◌}
use mathlib.Core.Logic.{◌⊎◌, inl, inr, ⊎_elim}
use mathlib.Core.List.{List, [], ◌∷◌, ◌++◌}
use Prim.Native.Nat.{ℕ, suc, ◌+◌, ◌-◌, ◌*◌, ◌%◌, ◌<◌, ◌≤◌}
use native.Mathlib.Nat.{mod-eq_of_lt, mod-mod, mul-mod_left, pos_of_ne-zero, le_of_lt, le_of_eq}
use native.Mathlib.Omega.{arith}
use lib.ListN.{length, take, drop, length-drop, take-append-drop}
use lib.Seq.{take_all, drop_at, length-take-le}
use Rattle.norx.specs.Norx.{Width, rate, State, xors, xor_block, rate_of, entered, after_blocks, body_mark, message_blocks}
use Rattle.norx.specs.Stream.{placed, fed, unfed}
use Rattle.norx.proofs.Xor.{drop-xors, take-xors}
use Rattle.norx.proofs.Bytes.{Bytes, zeros, length-zeros, bytes_take}
use Rattle.norx.proofs.Slices.{blocks_le}
use Rattle.norx.proofs.Overlay.{block_same, same_zeros, rate_add_short, bytes_placed, length-placed, recovered_of}
use Rattle.norx.specs.Blocks.{fulls, left}
use Rattle.norx.proofs.Blocks.{rate_pos}
use Rattle.norx.proofs.Messages.{length-message_blocks}
use Rattle.norx.proofs.Stream.{entered_start, entered_within, fed-append, fed_fulls}
use Rattle.norx.proofs.Unseal.{bytes_unfed, unfed_some, unfed-append, unfed_fulls}
use Rattle.norx.proofs.Pieces.{fed_mod, fed-nil, unfed_mod, unfed_cut}
use Rattle.norx.proofs.Fed.{filling_of, fresh_of_lem}

module _ (w : Width) (l : ℕ) where
  pub length-unfed : (c : List ℕ) (s : State) (i : ℕ) → length (unfed w l s i c) ≡ length c
  unfolding unfed
  length-unfed [] s i = refl
  length-unfed (x ∷ c) s i = ap suc (length-unfed c _ (suc i))

  -- ---- bytes that go on in a block

  module _ (s : State) (j : ℕ) (c : List ℕ) (hj : 0 < length c → 0 < j) (some : length c ≡ 0 → ⊥) (h : j + length c ≤ rate w) (bytes : Bytes c)
      {b r : List ℕ} {u : State} (hb : b ≡ placed j c ++ zeros (rate w - j - length c)) (hu : u ≡ xor_block w s b) (hr : r ≡ rate_of w u) where
    recovered_filling : take (length c) (drop j r) ≡ unfed w l s j c
    recovered_filling =
        let pos : 0 < j = hj (pos_of_ne-zero some) in
        let lt : j % rate w ≡ j = mod-eq_of_lt (omega (arith, pos_of_ne-zero some)) in
        let z : j % rate w ≡ 0 → ⊥ = λ q. omega arith in
        let x : List ℕ = rate_of w s in
        ap (λ (y : List ℕ). take (length c) (drop j y))
        (hr ∙ ap (rate_of w) (hu ∙ ap (xor_block w s) hb ∙ block_same w s (placed j c ++ zeros (rate w - j - length c)) (placed j c) (same_zeros (placed j c) (rate w - j - length c)))
        ∙ rate_add_short w s (placed j c) (omega (arith, length-placed j c)) (bytes_placed j c bytes))
        ∙ ap (take (length c)) (drop-xors j x (placed j c) ∙ ap (xors (drop j x)) (drop_at (zeros j) c j (length-zeros j)))
        ∙ take-xors (length c) (drop j x) c ∙ ap (xors (take (length c) (drop j x))) (take_all (length c) c (le_of_eq refl))
        ∙ sym (unfed_some w l c s j (omega arith) bytes
        ∙ ap₂ (λ (k : ℕ) (t : State). xors (take (length c) (drop k (rate_of w t))) c) lt (entered_within w l body_mark s j z))

    pub unfed_filling : {a p : List ℕ} {v : State} → a ≡ take (length c) (drop j r) → p ≡ placed j a ++ zeros (rate w - j - length a)
        → v ≡ xor_block w s p → v ≡ fed w l body_mark s j (unfed w l s j c)
    unfed_filling {a} {p} {v} ha hp hv =
        let m : List ℕ = unfed w l s j c in
        let e : a ≡ m = ha ∙ recovered_filling in
        let n : length m ≡ length c = length-unfed c s j in
        filling_of w l body_mark s j m (λ g. hj (omega arith)) (λ g. some (omega arith)) (omega arith) (bytes_unfed w l c s j bytes)
        (hp ∙ ap (λ (y : List ℕ). placed j y ++ zeros (rate w - j - length y)) e) hv

  -- ---- bytes that begin a block and leave room in it

  module _ (s : State) (c : List ℕ) (some : length c ≡ 0 → ⊥) (h : length c < rate w) (bytes : Bytes c) {e u : State} {b r : List ℕ}
      (he : e ≡ entered w l body_mark s) (hb : b ≡ c ++ zeros (rate w - length c)) (hu : u ≡ xor_block w e b) (hr : r ≡ rate_of w u) where
    recovered_fresh : take (length c) r ≡ unfed w l s 0 c
    recovered_fresh =
        let z : 0 % rate w ≡ 0 = mod-eq_of_lt (rate_pos w) in
        recovered_of w e c (le_of_lt h) bytes hb hu hr
        ∙ ap (λ (t : State). xors (take (length c) (rate_of w t)) c) he
        ∙ sym (unfed_some w l c s 0 (omega arith) bytes
        ∙ ap₂ (λ (k : ℕ) (t : State). xors (take (length c) (drop k (rate_of w t))) c) z (entered_start w l body_mark s 0 z))

    pub unfed_fresh : {a p : List ℕ} {v : State} → a ≡ take (length c) r → p ≡ a ++ zeros (rate w - length a)
        → v ≡ xor_block w e p → v ≡ fed w l body_mark s 0 (unfed w l s 0 c)
    unfed_fresh {a} {p} {v} ha hp hv =
        let m : List ℕ = unfed w l s 0 c in
        let g : a ≡ m = ha ∙ recovered_fresh in
        let n : length m ≡ length c = length-unfed c s 0 in
        fresh_of_lem w l body_mark s m (λ q. some (omega arith)) (omega arith) (bytes_unfed w l c s 0 bytes) he (hp ∙ ap (λ (y : List ℕ). y ++ zeros (rate w - length y)) g) hv

  pub unfed_none : (s : State) (i : ℕ) (c : List ℕ) → length c ≡ 0 → s ≡ fed w l body_mark s i (unfed w l s i c)
  unfolding fed unfed
  unfed_none s i [] e = refl
  unfed_none s i (x ∷ c) e = let z : ⊥ = omega arith in absurd z

  -- ---- the full blocks, and the bytes left

  pub unfed_aligned : (s : State) (c : List ℕ) {t v : State} {x : List ℕ} → Bytes c
      → t ≡ after_blocks w l body_mark s (message_blocks w l s c (fulls w c)) (fulls w c) → x ≡ left w c
      → v ≡ fed w l body_mark t 0 (unfed w l t 0 x) → v ≡ fed w l body_mark s 0 (unfed w l s 0 c)
  unfed_aligned s c {t} {v} {x} bytes ht hx hv =
      let R : ℕ = rate w in
      let q : ℕ = fulls w c in
      let a : List ℕ = message_blocks w l s c q in
      let f : State = after_blocks w l body_mark s a q in
      let le : q * R ≤ length c = blocks_le (length c) R (rate_pos w) in
      let la : length a ≡ q * R = length-message_blocks w l s c q le in
      let same : unfed w l s 0 (take (q * R) c) ≡ a = unfed_fulls w l s c bytes q le in
      let ba : Bytes a = λ k. rw (sym same) (bytes_unfed w l (take (q * R) c) s 0 (bytes_take (q * R) c bytes) k) in
      let state : fed w l body_mark s 0 a ≡ f =
      ap (fed w l body_mark s 0) (sym (take_all (q * R) a (le_of_eq la))) ∙ fed_fulls w l body_mark s a ba q (omega arith) in
      let len : length (take (q * R) c) ≡ q * R = length-take-le (q * R) c le in
      let at : 0 + length (take (q * R) c) ≡ q * R = omega arith in
      let at' : 0 + length a ≡ q * R = omega arith in
      let e : q * R % R ≡ 0 % R = mul-mod_left q R ∙ sym (mod-eq_of_lt (rate_pos w)) in
      let rest : List ℕ = unfed w l f 0 (left w c) in
      let whole : unfed w l s 0 c ≡ a ++ rest =
      ap (unfed w l s 0) (sym (take-append-drop (q * R) c)) ∙ unfed-append w l (take (q * R) c) (left w c) s 0
      ∙ ap₂ (λ (p r : List ℕ). p ++ r) same
      ((λ k. unfed w l ((ap (fed w l body_mark s 0) same ∙ state) k) (at k) (left w c)) ∙ unfed_mod w l (left w c) f (q * R) 0 e) in
      hv ∙ ap₂ (λ (y : State) (z : List ℕ). fed w l body_mark y 0 (unfed w l y 0 z)) ht hx
      ∙ sym
      (ap (fed w l body_mark s 0) whole ∙ fed-append w l body_mark a rest s 0 ∙ ap₂ (λ (y : State) (k : ℕ). fed w l body_mark y k rest) state at'
      ∙ fed_mod w l body_mark rest f (q * R) 0 e)

  -- ---- a piece: what goes on in a block, and the rest

  pub unfed_piece : (s : State) (n k : ℕ) (c : List ℕ) {t v : State} {a b : List ℕ} → k ≤ length c → (length c - k ≡ 0) ⊎ ((n % rate w + k) % rate w ≡ 0)
      → a ≡ take k c → b ≡ drop k c → t ≡ fed w l body_mark s (n % rate w) (unfed w l s (n % rate w) a)
      → v ≡ fed w l body_mark t 0 (unfed w l t 0 b) → v ≡ fed w l body_mark s n (unfed w l s n c)
  unfed_piece s n k c {t} {v} {a} {b} h d ha hb ht hv =
      let j : ℕ = n % rate w in
      let d' : (length (drop k c) ≡ 0) ⊎ ((j + k) % rate w ≡ 0) = ⊎_elim (λ e. inl (length-drop k c ∙ e)) inr d in
      let m : List ℕ = unfed w l s j (take k c) in
      let f : State = fed w l body_mark s j m in
      let rest : List ℕ = unfed w l f 0 (drop k c) in
      let len : j + length m ≡ j + k = ap (λ (x : ℕ). j + x) (length-unfed (take k c) s j ∙ length-take-le k c h) in
      let t' : t ≡ f = ht ∙ ap (λ (x : List ℕ). fed w l body_mark s j (unfed w l s j x)) ha in
      let z : 0 ≡ 0 % rate w = sym (mod-eq_of_lt (rate_pos w)) in
      let shift : fed w l body_mark f (j + k) rest ≡ fed w l body_mark f 0 rest =
      ⊎_elim (λ e. fed-nil w l body_mark f (j + k) 0 rest (length-unfed (drop k c) f 0 ∙ e)) (λ e. fed_mod w l body_mark rest f (j + k) 0 (e ∙ z)) d' in
      hv ∙ ap₂ (λ (y : State) (x : List ℕ). fed w l body_mark y 0 (unfed w l y 0 x)) t' hb
      ∙ sym
      (ap (fed w l body_mark s n) (unfed_cut w l c s n k h d') ∙ fed_mod w l body_mark (m ++ rest) s n j (sym (mod-mod n (rate w)))
      ∙ fed-append w l body_mark m rest s j ∙ ap (λ (i : ℕ). fed w l body_mark f i rest) len ∙ shift)
