-- The message of a ciphertext by its full blocks and the bytes left, as code recovers it, and the state that takes it in.
-- Assumes nothing.
use mathlib.Core.Path.{◌≡◌, sym, ap, ap₂, ◌∙◌}
use mathlib.Core.Logic.{⊎_elim}
use mathlib.Core.List.{List, ◌++◌, append-nil}
use Prim.Native.Nat.{ℕ, zero, suc, ◌+◌, ◌-◌, ◌*◌, ◌/◌, ◌<◌, ◌≤◌}
use native.Mathlib.Nat.{suc-mul, eq-zero-or-pos}
use native.Mathlib.Omega.{arith}
use lib.ListN.{length, take, drop, length-append, length-drop}
use lib.Seq.{take_all, length-take-le, drop_at, drop-length}
use Rattle.norx.specs.Norx.{Width, rate, run, xors, State, block_count, padded, xor_block, rate_of, entered, after_blocks, after_part, body_mark, message_blocks, message}
use Rattle.norx.proofs.Xor.{length-xors}
use Rattle.norx.specs.Turns.{put}
use Rattle.norx.proofs.Slices.{empty, blocks_le, put_next}
use Rattle.norx.proofs.Words.{length-rate_of}
use Rattle.norx.proofs.Rate.{length_run}
use Rattle.norx.specs.Blocks.{fulls, left}
use Rattle.norx.proofs.Blocks.{rate_pos, left_short, run_left, count_some, after_prefix, after_suc, part_none, part_last}

module _ (w : Width) (l : ℕ) (s : State) (c : List ℕ) where
  -- the state before block i, the mark and P done
  abbrev pub readied : ℕ → State
  readied i = entered w l body_mark (after_blocks w l body_mark s (message_blocks w l s c i) i)

  pub message_suc : (i : ℕ) → suc i * rate w ≤ length c → message_blocks w l s c i ++ xors (rate_of w (readied i)) (run (rate w) i c) ≡ message_blocks w l s c (suc i)
  unfolding message_blocks
  message_suc i h =
      let n : length (run (rate w) i c) ≡ rate w = length_run (rate w) i c h in
      ap (λ (x : List ℕ). message_blocks w l s c i ++ xors x (run (rate w) i c))
      (sym (ap (λ (k : ℕ). take k (rate_of w (readied i))) n ∙ take_all (rate w) (rate_of w (readied i)) (omega (arith, length-rate_of w (readied i)))))

  length-block : (i : ℕ) → suc i * rate w ≤ length c → length (xors (rate_of w (readied i)) (run (rate w) i c)) ≡ rate w
  length-block i h =
      length-xors (rate_of w (readied i)) (run (rate w) i c) (length-rate_of w (readied i) ∙ sym (length_run (rate w) i c h)) ∙ length_run (rate w) i c h

  pub length-message_blocks : (i : ℕ) → i * rate w ≤ length c → length (message_blocks w l s c i) ≡ i * rate w
  unfolding message_blocks
  length-message_blocks zero h = omega arith
  length-message_blocks (suc i) h =
      let le : i * rate w + rate w ≤ length c = rw (suc-mul i (rate w)) at h in
      ap length (sym (message_suc i h))
      ∙ length-append (message_blocks w l s c i) (xors (rate_of w (readied i)) (run (rate w) i c))
      ∙ ap₂ (λ (a b : ℕ). a + b) (length-message_blocks i (omega arith)) (length-block i h) ∙ sym (suc-mul i (rate w))

  -- the state takes in the block that was recovered
  pub state_suc : (i : ℕ) → suc i * rate w ≤ length c
      → xor_block w (readied i) (xors (rate_of w (readied i)) (run (rate w) i c)) ≡ after_blocks w l body_mark s (message_blocks w l s c (suc i)) (suc i)
  state_suc i h =
      let le : i * rate w + rate w ≤ length c = rw (suc-mul i (rate w)) at h in
      let a : List ℕ = message_blocks w l s c i in
      let x : List ℕ = xors (rate_of w (readied i)) (run (rate w) i c) in
      let la : length a ≡ i * rate w = length-message_blocks i (omega arith) in
      let lx : length x ≡ rate w = length-block i h in
      let whole : suc i * rate w ≤ length (a ++ x) = rw (suc-mul i (rate w)) (omega (arith, length-append a x)) in
      let same : run (rate w) i (a ++ x) ≡ x = ap (take (rate w)) (drop_at a x (i * rate w) la) ∙ take_all (rate w) x (omega arith) in
      let before : after_blocks w l body_mark s (a ++ x) i ≡ after_blocks w l body_mark s a i = after_prefix w l body_mark s a x i (omega arith) in
      ap₂ (λ (t : State) (b : List ℕ). xor_block w (entered w l body_mark t) b) (sym before) (sym same)
      ∙ after_suc w l body_mark s (a ++ x) i whole
      ∙ ap (λ (m : List ℕ). after_blocks w l body_mark s m (suc i)) (message_suc i h)

  -- ---- the bytes left

  abbrev pub last_bytes : List ℕ
  last_bytes = xors (take (length (left w c)) (rate_of w (readied (fulls w c)))) (left w c)

  pub length-last_bytes : length last_bytes ≡ length (left w c)
  length-last_bytes =
      let z : List ℕ = rate_of w (readied (fulls w c)) in
      length-xors (take (length (left w c)) z) (left w c)
      (length-take-le (length (left w c)) z (omega (arith, length-rate_of w (readied (fulls w c)), left_short w c)))

  fulls_le : fulls w c * rate w ≤ length c
  fulls_le = blocks_le (length c) (rate w) (rate_pos w)

  length-by_fulls : length (message_blocks w l s c (fulls w c) ++ last_bytes) ≡ length c
  length-by_fulls =
      let le = fulls_le in
      length-append (message_blocks w l s c (fulls w c)) last_bytes
      ∙ ap₂ (λ (a b : ℕ). a + b) (length-message_blocks (fulls w c) le) length-last_bytes ∙ omega (arith, length-drop (fulls w c * rate w) c)

  message_none : length c ≡ 0 → message w l s c ≡ message_blocks w l s c (fulls w c) ++ last_bytes
  unfolding message message_blocks block_count
  message_none h =
      ap (λ (n : ℕ). message_blocks w l s c (block_count (rate w) n)) h
      ∙ sym (empty (message_blocks w l s c (fulls w c) ++ last_bytes) (length-by_fulls ∙ h))

  message_some : (length c ≡ 0 → ⊥) → message w l s c ≡ message_blocks w l s c (fulls w c) ++ last_bytes
  unfolding message message_blocks
  message_some h =
      ap (message_blocks w l s c) (count_some w l body_mark s c (length c) h)
      ∙ ap (λ (x : List ℕ). message_blocks w l s c (fulls w c) ++ xors (take (length x) (rate_of w (readied (fulls w c)))) x) (run_left w c)

  pub message_is : message w l s c ≡ message_blocks w l s c (fulls w c) ++ last_bytes
  message_is = ⊎_elim message_none (λ (h : 0 < length c). message_some (λ e. omega arith)) (eq-zero-or-pos (length c))

  pub length-message : length (message w l s c) ≡ length c
  length-message = ap length message_is ∙ length-by_fulls

  -- an empty ciphertext has an empty message, which leaves the state as it is
  pub message_empty : length c ≡ 0 → (o : List ℕ) → length o ≡ length c → o ≡ message w l s c
  message_empty h o e = empty o (e ∙ h) ∙ sym (empty (message w l s c) (length-message ∙ h))

  pub state_empty : length c ≡ 0 → s ≡ after_part w l body_mark s (message w l s c)
  state_empty h = part_none w l body_mark s (message w l s c) (length-message ∙ h)

  -- the whole message taken in ends with its bytes left, padded
  state_last : (length c ≡ 0 → ⊥) → xor_block w (readied (fulls w c)) (padded (rate w) last_bytes) ≡ after_part w l body_mark s (message w l s c)
  state_last h =
      let f : ℕ = fulls w c in
      let a : List ℕ = message_blocks w l s c f in
      let m : List ℕ = message w l s c in
      let la : length a ≡ f * rate w = length-message_blocks f fulls_le in
      let fm : fulls w m ≡ f = ap (λ (n : ℕ). n / rate w) length-message in
      let before : after_blocks w l body_mark s m (fulls w m) ≡ after_blocks w l body_mark s a f =
      ap₂ (λ (x : List ℕ) (k : ℕ). after_blocks w l body_mark s x k) message_is fm ∙ after_prefix w l body_mark s a last_bytes f (omega arith) in
      let same : left w m ≡ last_bytes =
      ap₂ (λ (x : List ℕ) (k : ℕ). drop (k * rate w) x) message_is fm ∙ drop_at a last_bytes (f * rate w) la in
      ap₂ (λ (t : State) (x : List ℕ). xor_block w (entered w l body_mark t) (padded (rate w) x)) (sym before) (sym same)
      ∙ part_last w l body_mark s m (λ e. h (sym length-message ∙ e))

  module _ (some : length c ≡ 0 → ⊥) {t e : State} {x : List ℕ}
      (ht : t ≡ after_blocks w l body_mark s (message_blocks w l s c (fulls w c)) (fulls w c)) (he : e ≡ entered w l body_mark t) (hx : x ≡ left w c) where
    last_ready : e ≡ readied (fulls w c)
    last_ready = he ∙ ap (entered w l body_mark) ht

    last_is : xors (take (length x) (rate_of w e)) x ≡ last_bytes
    last_is = ap₂ (λ (z : State) (y : List ℕ). xors (take (length y) (rate_of w z)) y) last_ready hx

    pub state_end : {u : State} {b : List ℕ} → b ≡ padded (rate w) (xors (take (length x) (rate_of w e)) x) → u ≡ xor_block w e b
        → u ≡ after_part w l body_mark s (message w l s c)
    state_end hb hu =
        hu ∙ ap₂ (λ (z : State) (y : List ℕ). xor_block w z y) last_ready (hb ∙ ap (padded (rate w)) last_is) ∙ state_last some

    pub message_end : (o : List ℕ) {out y : List ℕ} → out ≡ message_blocks w l s c (fulls w c) ++ drop (fulls w c * rate w) o
        → y ≡ xors (take (length x) (rate_of w e)) x → put out (fulls w c * rate w) y (length out - fulls w c * rate w) ≡ message w l s c
    message_end o ho hy =
        let p = message_blocks w l s c (fulls w c) in
        let q = drop (fulls w c * rate w) o in
        let len : length p ≡ fulls w c * rate w = length-message_blocks (fulls w c) fulls_le in
        let n : length (p ++ q) - fulls w c * rate w ≡ length q = simp length-append (omega arith) in
        (λ k. put (ho k) (fulls w c * rate w) ((hy ∙ last_is) k) (length (ho k) - fulls w c * rate w))
        ∙ put_next p q last_bytes (fulls w c * rate w) (length (p ++ q) - fulls w c * rate w) len
        ∙ ap (λ (t : List ℕ). (p ++ last_bytes) ++ t) (ap (λ (k : ℕ). drop k q) n ∙ drop-length q) ∙ append-nil (p ++ last_bytes) ∙ sym message_is
