-- The ciphertext byte by byte is the ciphertext by blocks.
-- Assumes nothing.
use mathlib.Core.Path.{◌≡◌, refl, sym, ap, ap₂, ◌∙◌}
use mathlib.Core.Logic.{⊎_elim}
use mathlib.Core.List.{List, [], ◌∷◌, ◌++◌}
use Prim.Native.Nat.{ℕ, zero, suc, ◌+◌, ◌-◌, ◌*◌, ◌%◌, ◌<◌, ◌≤◌}
use native.Mathlib.Nat.{not-suc-le-zero, le_refl, add-zero, zero-mul, suc-mul, suc-add, add-suc, mul-mod_left, eq-zero-or-pos}
use native.Mathlib.Omega.{arith}
use lib.Bits.{bit_xor, xor_zero_r}
use lib.ListN.{length, get_or, take, drop, length-drop, take-append-drop}
use lib.Seq.{take-add, take_all, length-take-le, drop-cons}
use Rattle.norx.specs.Norx.{Width, rate, run, xors, State, xor_block, entered, padded, rate_of, after_blocks, after_part, body_mark, cipher_blocks, ciphertext}
use Rattle.norx.specs.Stream.{placed, entered_at, fed, fed_text}
use Rattle.norx.proofs.Xor.{get_or-xors, take-xors}
use Rattle.norx.proofs.Bytes.{Bytes, bytes_drop, bytes_run, bytes_padded}
use Rattle.norx.proofs.Words.{length-rate_of}
use Rattle.norx.proofs.Slices.{empty, blocks_le}
use Rattle.norx.proofs.Rate.{rate_add, length_run}
use Rattle.norx.proofs.Overlay.{rate_add_short, bytes_placed, length-placed, length-padded, take-padded}
use Rattle.norx.specs.Blocks.{fulls, left}
use Rattle.norx.proofs.Blocks.{rate_pos, left_short, part_last, cipher_suc, ciphertext_is}
use Rattle.norx.proofs.Stream.{mod_suc, entered_start, entered_within, fed-append, fed_within, fed_some, fed_fulls}

get_or-placed : (j : ℕ) (d : List ℕ) → ◌≡◌ {A = ℕ} (get_or (placed (suc j) d) j 0) 0
get_or-placed zero d = refl
get_or-placed (suc j) d = get_or-placed j d

module _ (w : Width) (l : ℕ) where
  -- bytes taken in behind a place leave the rate's byte there
  kept : (s : State) (j : ℕ) (d : List ℕ) → suc j + length d ≤ rate w → Bytes d → get_or (rate_of w (xor_block w s (placed (suc j) d))) j 0 ≡ get_or (rate_of w s) j 0
  kept s j d h hb =
      ap (λ (t : List ℕ). get_or t j 0) (rate_add_short w s (placed (suc j) d) (omega (arith, length-placed (suc j) d)) (bytes_placed (suc j) d hb))
      ∙ get_or-xors (rate_of w s) (placed (suc j) d) j
      ∙ ap (bit_xor (get_or (rate_of w s) j 0)) (get_or-placed j d) ∙ xor_zero_r (get_or (rate_of w s) j 0)

  text_within : (d : List ℕ) (b : ℕ) (s : State) (i : ℕ) → i % rate w + suc (length d) ≤ rate w → Bytes (b ∷ d)
      → fed_text w l s i (b ∷ d) ≡ take (suc (length d)) (drop (i % rate w) (rate_of w (fed w l body_mark s i (b ∷ d))))
  unfolding fed fed_text
  text_within [] b s i h hb =
      let t : State = xor_block w (entered_at w l body_mark s i) (placed (i % rate w) (b ∷ [])) in
      sym (ap (take 1) (drop-cons (rate_of w t) (i % rate w) 0 (omega (arith, length-rate_of w t))))
  text_within (c ∷ d) b s i h hb =
      let j : ℕ = i % rate w in
      let t : State = xor_block w (entered_at w l body_mark s i) (placed (i % rate w) (b ∷ [])) in
      let u : State = fed w l body_mark t (suc i) (c ∷ d) in
      let e : suc i % rate w ≡ suc (i % rate w) = mod_suc i (rate w) (omega arith) in
      let z : suc i % rate w ≡ 0 → ⊥ = λ q. omega arith in
      let is : u ≡ xor_block w t (placed (suc j) (c ∷ d)) =
      fed_within w l body_mark d c t (suc i) (omega arith) (λ k. hb (suc k))
      ∙ ap₂ (λ (x : State) (k : ℕ). xor_block w x (placed k (c ∷ d))) (entered_within w l body_mark t (suc i) z) e in
      let head : get_or (rate_of w u) j 0 ≡ get_or (rate_of w t) j 0 =
      ap (λ (x : State). get_or (rate_of w x) j 0) is ∙ kept t j (c ∷ d) (omega arith) (λ k. hb (suc k)) in
      (λ k. sym head k ∷ text_within d c t (suc i) (omega arith) (λ k. hb (suc k)) k)
      ∙ ap (λ (k : ℕ). get_or (rate_of w u) j 0 ∷ take (suc (length d)) (drop k (rate_of w u))) e
      ∙ sym (ap (take (suc (suc (length d)))) (drop-cons (rate_of w u) j 0 (omega (arith, length-rate_of w u))))

  -- within a block: the new rate's bytes at their place
  pub text_some : (d : List ℕ) (s : State) (i : ℕ) → 0 < length d → i % rate w + length d ≤ rate w → Bytes d
      → fed_text w l s i d ≡ take (length d) (drop (i % rate w) (rate_of w (fed w l body_mark s i d)))
  text_some [] s i p h hb = absurd (not-suc-le-zero p)
  text_some (b ∷ d) s i p h hb = text_within d b s i h hb

  -- pieces may be cut anywhere
  pub text_append : (a b : List ℕ) (s : State) (i : ℕ) → fed_text w l s i (a ++ b) ≡ fed_text w l s i a ++ fed_text w l (fed w l body_mark s i a) (i + length a) b
  unfolding fed fed_text
  text_append [] b s i = rw add-zero
  text_append (x ∷ a) b s i =
      let t : State = xor_block w (entered_at w l body_mark s i) (placed (i % rate w) (x ∷ [])) in
      ap (λ (d : List ℕ). get_or (rate_of w t) (i % rate w) 0 ∷ d) (text_append a b t (suc i) ∙ rw (suc-add, add-suc))

  text_nil : (s : State) (i : ℕ) → fed_text w l s i [] ≡ []
  unfolding fed_text
  text_nil s i = refl

  module _ (s : State) (d : List ℕ) (bytes : Bytes d) where
    pub text_fulls : (q : ℕ) → q * rate w ≤ length d → fed_text w l s 0 (take (q * rate w) d) ≡ cipher_blocks w l s d q
    unfolding fed_text cipher_blocks
    text_fulls zero h = rw zero-mul
    text_fulls (suc q) h =
        let R : ℕ = rate w in
        let pos : 0 < R = rate_pos w in
        let le : q * R + R ≤ length d = rw (suc-mul q (rate w)) at h in
        let len : length (take (q * R) d) ≡ q * R = length-take-le (q * R) d (omega arith) in
        let one : length (run R q d) ≡ R = length_run R q d h in
        let at : 0 + length (take (q * R) d) ≡ q * R = omega arith in
        let whole : q * R % R ≡ 0 = mul-mod_left q R in
        let f : State = after_blocks w l body_mark s d q in
        let before : fed w l body_mark s 0 (take (q * R) d) ≡ f = fed_fulls w l body_mark s d bytes q (omega arith) in
        let state : fed w l body_mark f (q * R) (run R q d) ≡ after_blocks w l body_mark s d (suc q) =
        ap₂ (λ (t : State) (k : ℕ). fed w l body_mark t k (run R q d)) (sym before) (sym at)
        ∙ sym (fed-append w l body_mark (take (q * R) d) (run R q d) s 0) ∙ ap (fed w l body_mark s 0) (sym (take-add (q * R) R d))
        ∙ ap (λ (k : ℕ). fed w l body_mark s 0 (take k d)) (sym (suc-mul q R)) ∙ fed_fulls w l body_mark s d bytes (suc q) h in
        let x : List ℕ = rate_of w (after_blocks w l body_mark s d (suc q)) in
        ap (λ (k : ℕ). fed_text w l s 0 (take k d)) (suc-mul q R)
        ∙ ap (fed_text w l s 0) (take-add (q * R) R d)
        ∙ text_append (take (q * R) d) (run R q d) s 0
        ∙ ap₂ (λ (a b : List ℕ). a ++ b) (text_fulls q (omega arith))
        (ap₂ (λ (t : State) (k : ℕ). fed_text w l t k (run R q d)) before at
        ∙ text_some (run R q d) f (q * R) (omega arith) (omega arith) (bytes_run R q d bytes)
        ∙ (λ k. take (one k) (drop (whole k) (rate_of w (state k))))
        ∙ take_all R x (omega (arith, length-rate_of w (after_blocks w l body_mark s d (suc q)))))
        ∙ cipher_suc w l s d q h

    abbrev rest : Type 0
    rest = fed_text w l (after_blocks w l body_mark s d (fulls w d)) (fulls w d * rate w) (left w d) ≡ take (length (left w d)) (rate_of w (after_part w l body_mark s d))

    -- what the padding leaves of the last block's bytes
    text_left : 0 < length (left w d) → rest
    text_left p =
        let R : ℕ = rate w in
        let x : List ℕ = left w d in
        let f : State = after_blocks w l body_mark s d (fulls w d) in
        let whole : fulls w d * R % R ≡ 0 = mul-mod_left (fulls w d) R in
        let small : length x < R = left_short w d in
        let drp : length x ≡ length d - fulls w d * R = length-drop (fulls w d * R) d in
        let z : List ℕ = rate_of w (entered w l body_mark f) in
        let bx : Bytes x = bytes_drop (fulls w d * R) d bytes in
        let fed_is : fed w l body_mark f (fulls w d * R) x ≡ xor_block w (entered w l body_mark f) x =
        fed_some w l body_mark x f (fulls w d * R) p (omega arith) bx
        ∙ ap₂ (λ (t : State) (k : ℕ). xor_block w t (placed k x)) (entered_start w l body_mark f (fulls w d * R) whole) whole in
        text_some x f (fulls w d * R) p (omega arith) bx
        ∙ (λ k. take (length x) (drop (whole k) (rate_of w (fed_is k))))
        ∙ ap (take (length x)) (rate_add_short w (entered w l body_mark f) x (omega arith) bx)
        ∙ take-xors (length x) z x
        ∙ ap (xors (take (length x) z)) (take_all (length x) x (le_refl (length x)) ∙ sym (take-padded R x small))
        ∙ sym (take-xors (length x) z (padded R x))
        ∙ ap (take (length x))
        (sym (rate_add w (entered w l body_mark f) (padded R x) (length-padded R x (omega arith)) (bytes_padded R x bx))
        ∙ ap (rate_of w) (part_last w l body_mark s d (λ e. omega arith)))

    text_none : length (left w d) ≡ 0 → rest
    text_none h =
        let t : State = after_blocks w l body_mark s d (fulls w d) in
        ap (fed_text w l t (fulls w d * rate w)) (empty (left w d) h) ∙ text_nil t (fulls w d * rate w)
        ∙ sym (ap (λ (k : ℕ). take k (rate_of w (after_part w l body_mark s d))) h)

    -- the whole ciphertext, byte by byte
    pub fed_text_lem : fed_text w l s 0 d ≡ ciphertext w l s d
    fed_text_lem =
        let R : ℕ = rate w in
        let q : ℕ = fulls w d in
        let le : q * R ≤ length d = blocks_le (length d) R (rate_pos w) in
        let len : length (take (q * R) d) ≡ q * R = length-take-le (q * R) d le in
        let at : 0 + length (take (q * R) d) ≡ q * R = omega arith in
        ap (fed_text w l s 0) (sym (take-append-drop (q * R) d))
        ∙ text_append (take (q * R) d) (drop (q * R) d) s 0
        ∙ ap₂ (λ (a b : List ℕ). a ++ b) (text_fulls q le)
        (ap₂ (λ (t : State) (k : ℕ). fed_text w l t k (left w d)) (fed_fulls w l body_mark s d bytes q le) at
        ∙ ⊎_elim text_none text_left (eq-zero-or-pos (length (left w d))))
        ∙ sym (ciphertext_is w l s d)
