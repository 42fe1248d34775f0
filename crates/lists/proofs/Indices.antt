-- The digits of all indices below n: each has one, those from 10 on one more, those from 100 on another, and so on.
-- Assumes nothing.
use mathlib.Core.Path.{◌≡◌, refl, ap₂, ◌∙◌}
use mathlib.Core.Bool.{cond}
use mathlib.Core.Logic.{⊎_elim}
use Prim.Native.Nat.{ℕ, zero, suc, ◌+◌, ◌-◌, ◌*◌, ◌<◌, ◌≤◌, ◌^◌}
use native.Mathlib.Omega.{arith}
use native.Mathlib.Nat.{lt_of_lt_of_le}
use borrow.Author.Tests.{le-leb, lt-leb}
use lib.Dec.{leb, lit≤}
use lib.ListN.{length}
use Rattle.std.proofs.lemmas.Bool.{cases_lt}
use Rattle.rules.specs.Rules.{most_segments}
use Rattle.answers.proofs.Tests.{cond_true, cond_false}
use Rattle.decimal.specs.Decimal.{num_text}
use Rattle.decimal.proofs.Digits.{length_pos, length_below, length_from_power}
use Rattle.lists.specs.Pieces.{index_digits}

-- the digits of n, at most k of them
unfoldable pub capped : ℕ → ℕ → ℕ
capped k n = cond (leb (length (num_text n)) k) (length (num_text n)) k

capped_few : (k n : ℕ) → length (num_text n) ≤ k → capped k n ≡ length (num_text n)
unfolding capped
capped_few k n h = cond_true (leb (length (num_text n)) k) (length (num_text n)) k (le-leb (length (num_text n)) k h)

capped_many : (k n : ℕ) → k < length (num_text n) → capped k n ≡ k
unfolding capped
capped_many k n h = cond_false (leb (length (num_text n)) k) (length (num_text n)) k (lt-leb (length (num_text n)) k h)

-- these of all numbers below n
unfoldable pub counted : ℕ → ℕ → ℕ
counted k zero = 0
counted k (suc n) = counted k n + capped k n

-- one of each
pub counted_one : (n : ℕ) → counted 1 n ≡ n
unfolding counted
counted_one zero = refl
counted_one (suc n) =
    let one : capped 1 n ≡ 1 =
    ⊎_elim (λ (l : 1 < length (num_text n)). capped_many 1 n l) (λ (g : length (num_text n) ≤ 1). capped_few 1 n g ∙ omega (arith, length_pos n)) (cases_lt 1 (length (num_text n))) in
    omega (arith, counted_one n)

-- one more of those from 10 to the k + 1 on
pub counted_more : (k n : ℕ) → counted (suc (suc k)) n ≡ counted (suc k) n + (n - 10 ^ suc k)
unfolding counted
counted_more k zero = omega arith
counted_more k (suc n) =
    ⊎_elim
    (λ (l : n < 10 ^ suc k).
    let few = length_below k n l in
    omega (arith, counted_more k n, capped_few (suc (suc k)) n (omega arith), capped_few (suc k) n few))
    (λ (g : 10 ^ suc k ≤ n).
    let many = length_from_power (suc k) n g in
    let more : capped (suc (suc k)) n ≡ suc (suc k) =
    ⊎_elim (λ (l : suc (suc k) < length (num_text n)). capped_many (suc (suc k)) n l) (λ (h : length (num_text n) ≤ suc (suc k)). capped_few (suc (suc k)) n h ∙ omega arith) (cases_lt (suc (suc k)) (length (num_text n))) in
    omega (arith, counted_more k n, capped_many (suc k) n many)) (cases_lt n (10 ^ suc k))

-- and all of them where no number below n has more
pub counted_all : (k n : ℕ) → n ≤ 10 ^ suc k → counted (suc k) n ≡ index_digits n
unfolding counted index_digits
counted_all k zero h = refl
counted_all k (suc n) h = ap₂ (λ (a b : ℕ). a + b) (counted_all k n (omega arith)) (capped_few (suc k) n (length_below k n (omega arith)))

-- a bound of what is counted
pub counted_most : (k n : ℕ) → n ≤ most_segments → counted k n ≤ 20 * n
unfolding counted
counted_most k zero h = omega arith
counted_most k (suc n) h =
    let small : n < most_segments = omega arith in
    let twenty : length (num_text n) ≤ 20 = length_below 19 n (lt_of_lt_of_le small (lit≤ tt)) in
    let most : capped k n ≤ 20 =
    ⊎_elim (λ (l : k < length (num_text n)). omega (arith, capped_many k n l)) (λ (g : length (num_text n) ≤ k). omega (arith, capped_few k n g)) (cases_lt k (length (num_text n))) in
    omega (arith, counted_most k n (omega arith))
