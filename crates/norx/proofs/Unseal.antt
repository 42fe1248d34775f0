-- Recovering undoes sealing, byte by byte and so for pieces cut anywhere; and the message byte by byte is the message by blocks.
-- Assumes nothing.
use mathlib.Core.Path.{◌≡◌, refl, sym, ap, ap₂, ◌∙◌}
use mathlib.Core.List.{List, [], ◌∷◌, ◌++◌}
use Prim.Native.Nat.{ℕ, zero, suc, ◌+◌, ◌*◌, ◌%◌, ◌<◌, ◌≤◌}
use native.Mathlib.Nat.{mod-lt, le_of_eq, add-zero, zero-mul, suc-mul, suc-add, add-suc, mul-mod_left}
use native.Mathlib.Omega.{arith}
use lib.Bits.{bit_xor, xor_lt}
use lib.ListN.{length, get_or, take, drop, take-append-drop}
use lib.Seq.{take-add, take_all, length-take-le, drop-cons}
use Rattle.norx.specs.Norx.{Width, rate, run, xors, State, xor_block, rate_of, after_blocks, body_mark, message_blocks, message}
use Rattle.norx.specs.Stream.{placed, entered_at, fed, fed_text, unfed}
use Rattle.norx.proofs.Xor.{twice_xor, get_or-xors, drop-xors, xors-nil}
use Rattle.norx.proofs.Bytes.{Bytes, bytes_nil, bytes_cons, bytes_take, bytes_drop, bytes_rate, bytes_run}
use Rattle.norx.proofs.Words.{length-rate_of}
use Rattle.norx.proofs.Slices.{blocks_le}
use Rattle.norx.proofs.Rate.{length_run}
use Rattle.norx.proofs.Overlay.{rate_add_short, bytes_placed, length-placed}
use Rattle.norx.specs.Blocks.{fulls, left}
use Rattle.norx.proofs.Blocks.{rate_pos, left_short}
use Rattle.norx.proofs.Messages.{readied, length-message_blocks, message_is}
use Rattle.norx.proofs.Stream.{mod_suc, entered_start, entered_within, fed_fulls}

one : (b : ℕ) → b < 256 → Bytes (b ∷ [])
one b h = bytes_cons b [] h bytes_nil

get_or-one : (j b : ℕ) → get_or (placed j (b ∷ [])) j 0 ≡ b
get_or-one zero b = refl
get_or-one (suc j) b = get_or-one j b

drop_one : (j b : ℕ) → drop (suc j) (placed j (b ∷ [])) ≡ []
drop_one zero b = refl
drop_one (suc j) b = drop_one j b

module _ (w : Width) (l : ℕ) where
  -- the ciphertext's byte is the rate's xored with the message's
  text_byte : (e : State) (i b : ℕ) → b < 256 → get_or (rate_of w (xor_block w e (placed (i % rate w) (b ∷ [])))) (i % rate w) 0 ≡ bit_xor (get_or (rate_of w e) (i % rate w) 0) b
  text_byte e i b h =
      let j : ℕ = i % rate w in
      let lt : j < rate w = mod-lt i (rate_pos w) in
      ap (λ (t : List ℕ). get_or t j 0) (rate_add_short w e (placed j (b ∷ [])) (omega (arith, length-placed j (b ∷ []))) (bytes_placed j (b ∷ []) (one b h)))
      ∙ get_or-xors (rate_of w e) (placed j (b ∷ [])) j ∙ ap (bit_xor (get_or (rate_of w e) j 0)) (get_or-one j b)

  -- what was sealed is recovered
  pub unfed-fed_text : (d : List ℕ) (s : State) (i : ℕ) → Bytes d → unfed w l s i (fed_text w l s i d) ≡ d
  unfolding unfed fed_text
  unfed-fed_text [] s i h = refl
  unfed-fed_text (b ∷ d) s i h =
      let e : State = entered_at w l body_mark s i in
      let j : ℕ = i % rate w in
      let x : ℕ = get_or (rate_of w e) j 0 in
      let t : State = xor_block w e (placed j (b ∷ [])) in
      let back : bit_xor x (get_or (rate_of w t) j 0) ≡ b = ap (bit_xor x) (text_byte e i b (h 0)) ∙ twice_xor x b in
      (λ k. back k ∷ unfed w l (xor_block w e (placed j (back k ∷ []))) (suc i) (fed_text w l t (suc i) d))
      ∙ ap (λ (r : List ℕ). b ∷ r) (unfed-fed_text d t (suc i) (λ k. h (suc k)))

  -- what is recovered seals to the text
  pub fed_text-unfed : (c : List ℕ) (s : State) (i : ℕ) → Bytes c → fed_text w l s i (unfed w l s i c) ≡ c
  unfolding unfed fed_text
  fed_text-unfed [] s i h = refl
  fed_text-unfed (y ∷ c) s i h =
      let e : State = entered_at w l body_mark s i in
      let j : ℕ = i % rate w in
      let x : ℕ = get_or (rate_of w e) j 0 in
      let b : ℕ = bit_xor x y in
      let t : State = xor_block w e (placed j (b ∷ [])) in
      let lt : b < 256 = xor_lt 8 x y (bytes_rate w e j) (h 0) in
      λ k. (text_byte e i b lt ∙ twice_xor x y) k ∷ fed_text-unfed c t (suc i) (λ k. h (suc k)) k

  pub bytes_fed_text : (d : List ℕ) (s : State) (i : ℕ) → Bytes (fed_text w l s i d)
  unfolding fed_text
  bytes_fed_text [] s i = bytes_nil
  bytes_fed_text (b ∷ d) s i =
      let t : State = xor_block w (entered_at w l body_mark s i) (placed (i % rate w) (b ∷ [])) in
      bytes_cons (get_or (rate_of w t) (i % rate w) 0) (fed_text w l t (suc i) d) (bytes_rate w t (i % rate w)) (bytes_fed_text d t (suc i))

  pub bytes_unfed : (c : List ℕ) (s : State) (i : ℕ) → Bytes c → Bytes (unfed w l s i c)
  unfolding unfed
  bytes_unfed [] s i h = bytes_nil
  bytes_unfed (y ∷ c) s i h =
      let e : State = entered_at w l body_mark s i in
      let x : ℕ = get_or (rate_of w e) (i % rate w) 0 in
      let t : State = xor_block w e (placed (i % rate w) (bit_xor x y ∷ [])) in
      bytes_cons (bit_xor x y) (unfed w l t (suc i) c) (xor_lt 8 x y (bytes_rate w e (i % rate w)) (h 0)) (bytes_unfed c t (suc i) (λ k. h (suc k)))

  -- pieces may be cut anywhere
  pub unfed-append : (a b : List ℕ) (s : State) (i : ℕ)
      → unfed w l s i (a ++ b) ≡ unfed w l s i a ++ unfed w l (fed w l body_mark s i (unfed w l s i a)) (i + length a) b
  unfolding fed unfed
  unfed-append [] b s i = rw add-zero
  unfed-append (y ∷ a) b s i =
      let e : State = entered_at w l body_mark s i in
      let x : ℕ = bit_xor (get_or (rate_of w e) (i % rate w) 0) y in
      ap (λ (d : List ℕ). x ∷ d) (unfed-append a b (xor_block w e (placed (i % rate w) (x ∷ []))) (suc i) ∙ rw (suc-add, add-suc))

  -- within a block: the rate's bytes after the block's beginning, xored with the ciphertext's
  unfed_within : (c : List ℕ) (y : ℕ) (s : State) (i : ℕ) → i % rate w + suc (length c) ≤ rate w → Bytes (y ∷ c)
      → unfed w l s i (y ∷ c) ≡ xors (take (suc (length c)) (drop (i % rate w) (rate_of w (entered_at w l body_mark s i)))) (y ∷ c)
  unfolding unfed xors
  unfed_within [] y s i h hb =
      let x : List ℕ = rate_of w (entered_at w l body_mark s i) in
      sym (ap (λ (t : List ℕ). xors (take 1 t) (y ∷ [])) (drop-cons x (i % rate w) 0 (omega (arith, length-rate_of w (entered_at w l body_mark s i)))))
  unfed_within (d ∷ c) y s i h hb =
      let e : State = entered_at w l body_mark s i in
      let j : ℕ = i % rate w in
      let x : List ℕ = rate_of w e in
      let b : ℕ = bit_xor (get_or x j 0) y in
      let lt : b < 256 = xor_lt 8 (get_or x j 0) y (bytes_rate w e j) (hb 0) in
      let t : State = xor_block w e (placed j (b ∷ [])) in
      let q : suc i % rate w ≡ suc j = mod_suc i (rate w) (omega arith) in
      let z : suc i % rate w ≡ 0 → ⊥ = λ r. omega arith in
      let rest : drop (suc j) (rate_of w t) ≡ drop (suc j) x =
      ap (drop (suc j)) (rate_add_short w e (placed j (b ∷ [])) (omega (arith, length-placed j (b ∷ []))) (bytes_placed j (b ∷ []) (one b lt)))
      ∙ drop-xors (suc j) x (placed j (b ∷ [])) ∙ ap (xors (drop (suc j) x)) (drop_one j b) ∙ xors-nil (drop (suc j) x) in
      ap (λ (r : List ℕ). b ∷ r)
      (unfed_within c d t (suc i) (omega arith) (λ k. hb (suc k))
      ∙ ap₂ (λ (u : State) (k : ℕ). xors (take (suc (length c)) (drop k (rate_of w u))) (d ∷ c)) (entered_within w l body_mark t (suc i) z) q
      ∙ ap (λ (r : List ℕ). xors (take (suc (length c)) r) (d ∷ c)) rest)
      ∙ sym (ap (λ (r : List ℕ). xors (take (suc (suc (length c))) r) (y ∷ d ∷ c)) (drop-cons x j 0 (omega (arith, length-rate_of w e))))

  pub unfed_some : (c : List ℕ) (s : State) (i : ℕ) → i % rate w + length c ≤ rate w → Bytes c
      → unfed w l s i c ≡ xors (take (length c) (drop (i % rate w) (rate_of w (entered_at w l body_mark s i)))) c
  unfolding unfed xors
  unfed_some [] s i h hb = refl
  unfed_some (y ∷ c) s i h hb = unfed_within c y s i h hb

  module _ (s : State) (c : List ℕ) (bytes : Bytes c) where
    -- the bytes after i blocks, where their message is that by blocks
    next_block : (i : ℕ) (x : List ℕ) → i * rate w ≤ length c → length x ≤ rate w → Bytes x → unfed w l s 0 (take (i * rate w) c) ≡ message_blocks w l s c i
        → unfed w l s 0 (take (i * rate w) c ++ x) ≡ message_blocks w l s c i ++ xors (take (length x) (rate_of w (readied w l s c i))) x
    next_block i x le small bx same =
        let R : ℕ = rate w in
        let a : List ℕ = message_blocks w l s c i in
        let ba : Bytes a = λ k. rw (sym same) (bytes_unfed (take (i * R) c) s 0 (bytes_take (i * R) c bytes) k) in
        let la : length a ≡ i * R = length-message_blocks w l s c i le in
        let len : length (take (i * R) c) ≡ i * R = length-take-le (i * R) c le in
        let at : 0 + length (take (i * R) c) ≡ i * R = omega arith in
        let whole : i * R % R ≡ 0 = mul-mod_left i R in
        let state : fed w l body_mark s 0 (unfed w l s 0 (take (i * R) c)) ≡ after_blocks w l body_mark s a i =
        ap (fed w l body_mark s 0) (same ∙ sym (take_all (i * R) a (le_of_eq la))) ∙ fed_fulls w l body_mark s a ba i (omega arith) in
        unfed-append (take (i * R) c) x s 0
        ∙ ap₂ (λ (p q : List ℕ). p ++ q) same
        ((λ k. unfed w l (state k) (at k) x)
        ∙ unfed_some x (after_blocks w l body_mark s a i) (i * R) (omega arith) bx
        ∙ ap₂ (λ (k : ℕ) (t : State). xors (take (length x) (drop k (rate_of w t))) x) whole (entered_start w l body_mark (after_blocks w l body_mark s a i) (i * R) whole))

    pub unfed_fulls : (i : ℕ) → i * rate w ≤ length c → unfed w l s 0 (take (i * rate w) c) ≡ message_blocks w l s c i
    unfolding unfed message_blocks
    unfed_fulls zero h = rw zero-mul
    unfed_fulls (suc i) h =
        let R : ℕ = rate w in
        let le : i * R + R ≤ length c = rw (suc-mul i (rate w)) at h in
        let x : List ℕ = run R i c in
        ap (λ (k : ℕ). unfed w l s 0 (take k c)) (suc-mul i R)
        ∙ ap (unfed w l s 0) (take-add (i * R) R c)
        ∙ next_block i x (omega arith) (le_of_eq (length_run R i c h)) (bytes_run R i c bytes) (unfed_fulls i (omega arith))

    -- the whole message, byte by byte
    pub unfed_message : unfed w l s 0 c ≡ message w l s c
    unfed_message =
        let R : ℕ = rate w in
        let q : ℕ = fulls w c in
        let le : q * R ≤ length c = blocks_le (length c) R (rate_pos w) in
        let small : length (left w c) ≤ R = omega (arith, left_short w c) in
        ap (unfed w l s 0) (sym (take-append-drop (q * R) c))
        ∙ next_block q (left w c) le small (bytes_drop (q * R) c bytes) (unfed_fulls q le)
        ∙ sym (message_is w l s c)
