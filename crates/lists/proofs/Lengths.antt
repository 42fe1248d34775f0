-- The numbers of a cut as a list has them: how many lines, and which length each says.
-- Assumes nothing.
use mathlib.Core.Path.{◌≡◌, sym, ap₂, ◌∙◌}
use mathlib.Core.Logic.{⊎_elim}
use Prim.Native.Nat.{ℕ, ◌+◌, ◌-◌, ◌*◌, ◌/◌, ◌<◌, ◌≤◌}
use native.Mathlib.Omega.{arith}
use native.Mathlib.Nat.{eq-or-lt_of_le}
use Rattle.std.proofs.lemmas.Bool.{cases_lt}
use Rattle.rules.specs.Rules.{segment_bytes, most_segments, longest_job}
use Rattle.cutting.specs.Cutting.{count_of, begin_of, end_of}
use Rattle.cutting.proofs.Cuts.{full_within as cut-within, full_beyond as cut-beyond, begin_within, end_within, end_last}
use Rattle.lists.specs.Lists.{segment_length}

pub count_some : (n : ℕ) → 1 ≤ count_of n
unfolding count_of
count_some n = omega arith

pub count_most : (n : ℕ) → n ≤ longest_job → count_of n ≤ most_segments
unfolding count_of
count_most n h = omega arith

-- a segment ends no earlier than it begins
pub begin_end : (n i : ℕ) → begin_of n i ≤ end_of n i
unfolding begin_of end_of
begin_end n i =
    ⊎_elim (λ (l : n < i * segment_bytes). omega (arith, cut-beyond n i l, cut-beyond n (i + 1) (omega arith)))
    (λ (g : i * segment_bytes ≤ n).
    ⊎_elim (λ (l : n < (i + 1) * segment_bytes). omega (arith, cut-within n i g, cut-beyond n (i + 1) l)) (λ (h : (i + 1) * segment_bytes ≤ n). omega (arith, cut-within n i g, cut-within n (i + 1) h)) (cases_lt n ((i + 1) * segment_bytes)))
    (cases_lt n (i * segment_bytes))

-- a length between k and k + 1 segments
pub count_at : (n k : ℕ) → n ≤ (k + 1) * segment_bytes → (1 ≤ k → k * segment_bytes < n) → count_of n ≡ k + 1
unfolding count_of
count_at n k h p = ⊎_elim (λ (z : k < 1). omega arith) (λ (g : 1 ≤ k). omega (arith, p g)) (cases_lt k 1)

-- all but the last are full, and the last has what they leave
pub length_full : (n i : ℕ) → i + 1 < count_of n → segment_length n i ≡ segment_bytes
unfolding segment_length
length_full n i h = ap₂ (λ (a b : ℕ). a - b) (end_within n i h) (begin_within n i (omega arith)) ∙ omega arith

pub length_last : (n i : ℕ) → i + 1 ≡ count_of n → segment_length n i ≡ n - i * segment_bytes
unfolding segment_length
length_last n i h = ap₂ (λ (a b : ℕ). a - b) (end_last n i h) (begin_within n i (omega arith))

-- none has more than a segment, and only the first can be empty
pub length_most : (n i : ℕ) → i < count_of n → segment_length n i ≤ segment_bytes
unfolding count_of
length_most n i h =
    ⊎_elim (λ (e : i + 1 ≡ (n - 1) / segment_bytes + 1). omega (arith, length_last n i e)) (λ (l : i + 1 < (n - 1) / segment_bytes + 1). omega (arith, length_full n i l)) (eq-or-lt_of_le (omega arith))

pub length_some : (n i : ℕ) → i < count_of n → 1 ≤ i → 1 ≤ segment_length n i
unfolding count_of
length_some n i h p =
    ⊎_elim (λ (e : i + 1 ≡ (n - 1) / segment_bytes + 1). omega (arith, length_last n i e)) (λ (l : i + 1 < (n - 1) / segment_bytes + 1). omega (arith, length_full n i l)) (eq-or-lt_of_le (omega arith))

-- the body's length, from how many segments it has and the length of the last
pub length_from : (n : ℕ) → n ≡ (count_of n - 1) * segment_bytes + segment_length n (count_of n - 1)
unfolding count_of
length_from n = omega (arith, length_last n ((n - 1) / segment_bytes + 1 - 1) (omega arith))

-- k full segments
pub full_count : (k : ℕ) → 1 ≤ k → count_of (k * segment_bytes) ≡ k
unfolding count_of
full_count k p = omega arith

pub full_length : (k i : ℕ) → i < k → segment_length (k * segment_bytes) i ≡ segment_bytes
full_length k i h =
    let c = full_count k (omega arith) in
    ⊎_elim (λ (e : i + 1 ≡ k). length_last (k * segment_bytes) i (e ∙ sym c) ∙ omega arith) (λ (l : i + 1 < k). length_full (k * segment_bytes) i (omega arith)) (eq-or-lt_of_le h')
  where
    h' : i + 1 ≤ k
    h' = omega arith

pub full_within : (n m : ℕ) → m < count_of n → m * segment_bytes ≤ n
unfolding count_of
full_within n m h = omega arith
