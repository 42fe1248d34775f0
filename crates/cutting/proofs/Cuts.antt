-- The numbers of a cut: places by quotients, and the number in a nonce.
-- Assumes nothing.
use mathlib.Core.Path.{◌≡◌, refl, sym, ap, ◌∙◌}
use mathlib.Core.List.{◌∷◌}
use mathlib.Core.Logic.{◌⊎◌, inl, inr, ⊎_elim}
use mathlib.Core.Bool.{true, false, ◌&&◌, ◌||◌, cond}
use Prim.Native.Nat.{ℕ, zero, suc, ◌+◌, ◌*◌, ◌/◌, ◌%◌, ◌≤◌, ◌<◌}
use native.Mathlib.Omega.{arith}
use native.Mathlib.Nat.{mul_assoc}
use borrow.Author.Tests.{le-leb, lt-leb, leb-true, lt-ltb, ltb-true, eq-eqb, eqb-true}
use lib.Dec.{leb, ltb, eqb}
use Rattle.norx.specs.Norx.{bytes_of}
use Rattle.norx.specs.Front.{eight_bytes}
use Rattle.rules.specs.Rules.{segment_bytes, most_segments}
use Rattle.answers.proofs.Tests.{either, cond_true, cond_false}
use Rattle.answers.proofs.Chain.{both, and_true, one_of, or_true}
use Rattle.cutting.specs.Cutting.{count_of, begin_of, end_of, segment_ok}

-- i segments are in n bytes or not
pub full_within : (n i : ℕ) → i * segment_bytes ≤ n → cond (leb (i * segment_bytes) n) (i * segment_bytes) n ≡ i * segment_bytes
full_within n i h = cond_true _ _ _ (le-leb _ _ h)

pub full_beyond : (n i : ℕ) → n < i * segment_bytes → cond (leb (i * segment_bytes) n) (i * segment_bytes) n ≡ n
full_beyond n i h = cond_false _ _ _ (lt-leb _ _ h)

-- k bytes have no more of a number than what is below 256 to the k
unfoldable above : ℕ → ℕ
above zero = 1
above (suc k) = above k * 256

bytes_below : (k q r : ℕ) → bytes_of k (r + q * above k) ≡ bytes_of k r
unfolding bytes_of above
bytes_below zero q r = refl
bytes_below (suc k) q r =
    let p : ℕ = q * above k in
    let e : r + q * (above k * 256) ≡ r + p * 256 = ap (λ (n : ℕ). r + n) (sym (mul_assoc q (above k) 256)) in
    let first : (r + q * (above k * 256)) % 256 ≡ r % 256 = ap (λ (n : ℕ). n % 256) e ∙ omega arith in
    let rest : (r + q * (above k * 256)) / 256 ≡ r / 256 + p = ap (λ (n : ℕ). n / 256) e ∙ omega arith in
    λ j. first j ∷ (ap (bytes_of k) rest ∙ bytes_below k q (r / 256)) j

-- so eight have no more of it than 64 bits
pub eight_of : (x : ℕ) → bytes_of 8 (x % 18446744073709551616) ≡ eight_bytes x
unfolding eight_bytes above
eight_of x =
    let parts : x % 18446744073709551616 + x / 18446744073709551616 * 18446744073709551616 ≡ x = omega arith in
    sym (bytes_below 8 (x / 18446744073709551616) (x % 18446744073709551616)) ∙ ap (bytes_of 8) parts

-- ---- the segments of a body of n bytes

module _ (n k : ℕ) where
  pub begin_within : k < count_of n → begin_of n k ≡ k * segment_bytes
  unfolding count_of begin_of
  begin_within h = full_within n k (omega arith)

  pub end_within : k + 1 < count_of n → end_of n k ≡ (k + 1) * segment_bytes
  unfolding count_of end_of
  end_within h = full_within n (k + 1) (omega arith)

  -- the last ends where the body does
  pub end_last : k + 1 ≡ count_of n → end_of n k ≡ n
  unfolding count_of end_of
  end_last h =
      ⊎_elim (λ (e : leb ((k + 1) * segment_bytes) n ≡ true). cond_true _ _ _ e ∙ (let le : (k + 1) * segment_bytes ≤ n = leb-true _ _ e in omega arith))
      (λ (e : leb ((k + 1) * segment_bytes) n ≡ false). cond_false _ _ _ e) (either (leb ((k + 1) * segment_bytes) n))

  -- and none ends behind it
  pub end_most : end_of n k ≤ n
  unfolding end_of
  end_most =
      ⊎_elim (λ (e : leb ((k + 1) * segment_bytes) n ≡ true). rw (cond_true (leb ((k + 1) * segment_bytes) n) ((k + 1) * segment_bytes) n e) (leb-true _ _ e))
      (λ (e : leb ((k + 1) * segment_bytes) n ≡ false). rw (cond_false (leb ((k + 1) * segment_bytes) n) ((k + 1) * segment_bytes) n e) (omega arith)) (either (leb ((k + 1) * segment_bytes) n))

-- ---- the length of a segment that may be the last

pub last_rule : (i n : ℕ) → segment_ok i true n ≡ true → (n ≤ segment_bytes) × (((1 ≤ n) ⊎ (i ≡ 0)) × (i < most_segments))
unfolding segment_ok
last_rule i n e =
    let a = both (leb n segment_bytes && (ltb 0 n || eqb i 0)) (ltb i most_segments) e in
    let b = both (leb n segment_bytes) (ltb 0 n || eqb i 0) a.0 in
    (leb-true n segment_bytes b.0, (some (one_of (ltb 0 n) (eqb i 0) b.1), ltb-true i most_segments a.1))
  where
    some : (ltb 0 n ≡ true) ⊎ (eqb i 0 ≡ true) → (1 ≤ n) ⊎ (i ≡ 0)
    some (inl h) = inl (ltb-true 0 n h)
    some (inr h) = inr (eqb-true i 0 h)

pub last_ok : (i n : ℕ) → n ≤ segment_bytes → (1 ≤ n) ⊎ (i ≡ 0) → i < most_segments → segment_ok i true n ≡ true
unfolding segment_ok
last_ok i n most one few =
    and_true (leb n segment_bytes && (ltb 0 n || eqb i 0)) (ltb i most_segments)
    (and_true (leb n segment_bytes) (ltb 0 n || eqb i 0) (le-leb n segment_bytes most) (or_true (ltb 0 n) (eqb i 0) (some one))) (lt-ltb i most_segments few)
  where
    some : (1 ≤ n) ⊎ (i ≡ 0) → (ltb 0 n ≡ true) ⊎ (eqb i 0 ≡ true)
    some (inl h) = inl (lt-ltb 0 n h)
    some (inr h) = inr (eq-eqb i 0 h)
