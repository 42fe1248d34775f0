-- A part by its full blocks and the bytes left, as code goes through it.
-- Assumes nothing.
use mathlib.Core.Path.{◌≡◌, refl, sym, ap, ap₂, ◌∙◌}
use mathlib.Core.Bool.{Bool, cond}
use mathlib.Core.Logic.{⊎_elim}
use mathlib.Core.List.{List, ◌++◌, append-nil}
use Prim.Native.Nat.{ℕ, zero, suc, ◌+◌, ◌-◌, ◌*◌, ◌/◌, ◌<◌, ◌≤◌}
use native.Mathlib.Nat.{suc-mul, le_refl, le_of_lt, eq-zero-or-pos}
use native.Mathlib.Numerals.{add-one}
use native.Mathlib.Omega.{arith}
use borrow.Author.Tests.{lt-ltb, le-ltb}
use lib.Dec.{ltb, lit<}
use lib.ListN.{length, take, drop, length-append, length-drop}
use lib.Seq.{take_all, length-take-le, take-append-le, drop-append-le, drop-length}
use Rattle.norx.specs.Norx.{Width, word32, word64, rate, run, State, block_count, block, padded, xor_block, rate_of, entered, after_blocks, after_part, body_mark, cipher_blocks, ciphertext}
use Rattle.norx.specs.Turns.{put}
use Rattle.norx.proofs.Slices.{empty, blocks_le, left_lt, put_next}
use Rattle.norx.specs.Blocks.{fulls, left}
use Rattle.norx.proofs.Words.{length-rate_of}
use Rattle.norx.proofs.Rate.{length_run}

pub rate_pos : (w : Width) → 0 < rate w
rate_pos word32 = lit< tt
rate_pos word64 = lit< tt

pub left_short : (w : Width) (d : List ℕ) → length (left w d) < rate w
left_short w d = omega (arith, length-drop (fulls w d * rate w) d, left_lt (length d) (rate w) (rate_pos w))

-- ---- blocks

pub block_full : (R : ℕ) (d : List ℕ) (i : ℕ) → suc i * R ≤ length d → block R d i ≡ run R i d
unfolding block
block_full R d i h =
    ap (λ (n : ℕ). cond (ltb n R) (padded R (run R i d)) (run R i d)) (length_run R i d h)
    ∙ ap (λ (b : Bool). cond b (padded R (run R i d)) (run R i d)) (le-ltb R R (le_refl R))

pub run_left : (w : Width) (d : List ℕ) → run (rate w) (fulls w d) d ≡ left w d
run_left w d = take_all (rate w) (left w d) (le_of_lt (left_short w d))

block_left : (w : Width) (d : List ℕ) → block (rate w) d (fulls w d) ≡ padded (rate w) (left w d)
unfolding block
block_left w d =
    ap (λ (x : List ℕ). cond (ltb (length x) (rate w)) (padded (rate w) x) x) (run_left w d)
    ∙ ap (λ (b : Bool). cond b (padded (rate w) (left w d)) (left w d)) (lt-ltb (length (left w d)) (rate w) (left_short w d))

-- a block within the first of two texts
block_prefix : (R : ℕ) (a b : List ℕ) (i : ℕ) → suc i * R ≤ length a → block R (a ++ b) i ≡ block R a i
block_prefix R a b i h =
    let le : i * R + R ≤ length a = rw (suc-mul i R) at h in
    let whole : suc i * R ≤ length (a ++ b) = omega (arith, length-append a b) in
    let from : i * R ≤ length a = omega arith in
    let n : R ≤ length (drop (i * R) a) = omega (arith, length-drop (i * R) a) in
    block_full R (a ++ b) i whole ∙ ap (take R) (drop-append-le (i * R) a b from) ∙ take-append-le R (drop (i * R) a) b n ∙ sym (block_full R a i h)

-- ---- the state

module _ (w : Width) (l m : ℕ) (s : State) where
  -- the first blocks of a text do not depend on what follows them
  pub after_prefix : (a b : List ℕ) (i : ℕ) → i * rate w ≤ length a → after_blocks w l m s (a ++ b) i ≡ after_blocks w l m s a i
  unfolding after_blocks
  after_prefix a b zero h = refl
  after_prefix a b (suc i) h =
      let le : i * rate w + rate w ≤ length a = rw (suc-mul i (rate w)) at h in
      ap₂ (λ (t : State) (x : List ℕ). xor_block w (entered w l m t) x) (after_prefix a b i (omega arith)) (block_prefix (rate w) a b i h)

  module _ (d : List ℕ) where
    pub after_suc : (i : ℕ) → suc i * rate w ≤ length d → xor_block w (entered w l m (after_blocks w l m s d i)) (run (rate w) i d) ≡ after_blocks w l m s d (suc i)
    unfolding after_blocks
    after_suc i h = ap (xor_block w (entered w l m (after_blocks w l m s d i))) (sym (block_full (rate w) d i h))

    pub part_none : length d ≡ 0 → s ≡ after_part w l m s d
    unfolding after_part after_blocks block_count
    part_none h = ap (λ (n : ℕ). after_blocks w l m s d (block_count (rate w) n)) (sym h)

    pub count_some : (n : ℕ) → (n ≡ 0 → ⊥) → block_count (rate w) n ≡ suc (n / rate w)
    unfolding block_count
    count_some zero h = absurd (h refl)
    count_some (suc n) h = rw add-one

    pub part_is : (length d ≡ 0 → ⊥) → after_part w l m s d ≡ after_blocks w l m s d (suc (fulls w d))
    unfolding after_part
    part_is h = ap (after_blocks w l m s d) (count_some (length d) h)

    -- the padded block of the bytes left
    pub part_last : (length d ≡ 0 → ⊥) → xor_block w (entered w l m (after_blocks w l m s d (fulls w d))) (padded (rate w) (left w d)) ≡ after_part w l m s d
    unfolding after_blocks
    part_last h = ap (xor_block w (entered w l m (after_blocks w l m s d (fulls w d)))) (sym (block_left w d)) ∙ sym (part_is h)

    pub part_some : (length d ≡ 0 → ⊥) → {t e u : State} {x b : List ℕ} → t ≡ after_blocks w l m s d (fulls w d) → x ≡ left w d → e ≡ entered w l m t
        → b ≡ padded (rate w) x → u ≡ xor_block w e b → u ≡ after_part w l m s d
    part_some h ht hx he hb hu =
        hu ∙ ap₂ (λ (x : State) (y : List ℕ). xor_block w x y) (he ∙ ap (entered w l m) ht) (hb ∙ ap (padded (rate w)) hx) ∙ part_last h

-- ---- the ciphertext

module _ (w : Width) (l : ℕ) (s : State) (d : List ℕ) where
  pub cipher_suc : (i : ℕ) → suc i * rate w ≤ length d
      → cipher_blocks w l s d i ++ rate_of w (after_blocks w l body_mark s d (suc i)) ≡ cipher_blocks w l s d (suc i)
  unfolding cipher_blocks
  cipher_suc i h =
      let t : State = after_blocks w l body_mark s d (suc i) in
      let n : length (run (rate w) i d) ≡ rate w = length_run (rate w) i d h in
      ap (λ (x : List ℕ). cipher_blocks w l s d i ++ x)
      (sym (ap (λ (k : ℕ). take k (rate_of w t)) n ∙ take_all (rate w) (rate_of w t) (omega (arith, length-rate_of w t))))

  pub length-cipher_blocks : (i : ℕ) → i * rate w ≤ length d → length (cipher_blocks w l s d i) ≡ i * rate w
  unfolding cipher_blocks
  length-cipher_blocks zero h = omega arith
  length-cipher_blocks (suc i) h =
      let le : i * rate w + rate w ≤ length d = rw (suc-mul i (rate w)) at h in
      ap length (sym (cipher_suc i h))
      ∙ length-append (cipher_blocks w l s d i) (rate_of w (after_blocks w l body_mark s d (suc i)))
      ∙ ap₂ (λ (a b : ℕ). a + b) (length-cipher_blocks i (omega arith)) (length-rate_of w (after_blocks w l body_mark s d (suc i)))
      ∙ sym (suc-mul i (rate w))

  abbrev by_fulls : List ℕ
  by_fulls = cipher_blocks w l s d (fulls w d) ++ take (length (left w d)) (rate_of w (after_part w l body_mark s d))

  length-by_fulls : length by_fulls ≡ length d
  length-by_fulls =
      let t : State = after_part w l body_mark s d in
      let le = blocks_le (length d) (rate w) (rate_pos w) in
      let len : length (take (length (left w d)) (rate_of w t)) ≡ length (left w d) =
      length-take-le (length (left w d)) (rate_of w t) (omega (arith, length-rate_of w t, left_short w d)) in
      length-append (cipher_blocks w l s d (fulls w d)) (take (length (left w d)) (rate_of w t))
      ∙ ap₂ (λ (a b : ℕ). a + b) (length-cipher_blocks (fulls w d) le) len ∙ omega (arith, length-drop (fulls w d * rate w) d)

  cipher_none : length d ≡ 0 → ciphertext w l s d ≡ by_fulls
  unfolding ciphertext cipher_blocks block_count
  cipher_none h = ap (λ (n : ℕ). cipher_blocks w l s d (block_count (rate w) n)) h ∙ sym (empty by_fulls (length-by_fulls ∙ h))

  cipher_some : (length d ≡ 0 → ⊥) → ciphertext w l s d ≡ by_fulls
  unfolding ciphertext cipher_blocks
  cipher_some h =
      ap (cipher_blocks w l s d) (count_some w l body_mark s d (length d) h)
      ∙ ap₂ (λ (x : List ℕ) (t : State). cipher_blocks w l s d (fulls w d) ++ take (length x) (rate_of w t)) (run_left w d) (sym (part_is w l body_mark s d h))

  -- by the full blocks and the bytes left
  pub ciphertext_is : ciphertext w l s d ≡ by_fulls
  ciphertext_is = ⊎_elim cipher_none (λ (h : 0 < length d). cipher_some (λ e. omega arith)) (eq-zero-or-pos (length d))

  pub length-ciphertext : length (ciphertext w l s d) ≡ length d
  length-ciphertext = ap length ciphertext_is ∙ length-by_fulls

  -- an empty body has an empty ciphertext
  pub text_none : length d ≡ 0 → (o : List ℕ) → length o ≡ length d → o ≡ ciphertext w l s d
  text_none h o e = empty o (e ∙ h) ∙ sym (empty (ciphertext w l s d) (length-ciphertext ∙ h))

  -- the bytes left, written behind the full blocks
  pub text_last : (o : List ℕ) {out y : List ℕ} {u : State} → out ≡ cipher_blocks w l s d (fulls w d) ++ drop (fulls w d * rate w) o
      → u ≡ after_part w l body_mark s d → y ≡ take (length (left w d)) (rate_of w u)
      → put out (fulls w d * rate w) y (length out - fulls w d * rate w) ≡ ciphertext w l s d
  text_last o ho hu hy =
      let le = blocks_le (length d) (rate w) (rate_pos w) in
      let p = cipher_blocks w l s d (fulls w d) in
      let q = drop (fulls w d * rate w) o in
      let y = take (length (left w d)) (rate_of w (after_part w l body_mark s d)) in
      let len : length p ≡ fulls w d * rate w = length-cipher_blocks (fulls w d) le in
      let n : length (p ++ q) - fulls w d * rate w ≡ length q = simp length-append (omega arith) in
      (λ k. put (ho k) (fulls w d * rate w) ((hy ∙ ap (λ (u : State). take (length (left w d)) (rate_of w u)) hu) k) (length (ho k) - fulls w d * rate w))
      ∙ put_next p q y (fulls w d * rate w) (length (p ++ q) - fulls w d * rate w) len
      ∙ ap (λ (t : List ℕ). (p ++ y) ++ t) (ap (λ (k : ℕ). drop k q) n ∙ drop-length q) ∙ append-nil (p ++ y) ∙ sym ciphertext_is
