-- The text of a number, digit by digit: two numbers have two texts, and what begins a number's text is a number's text too.
-- Assumes nothing.
use mathlib.Core.Path.{◌≡◌, refl, sym, ap, ◌∙◌}
use mathlib.Core.Logic.{⊎_elim}
use mathlib.Core.List.{List, [], ◌∷◌, ◌++◌, head-eq_of_cons-eq, tail-eq_of_cons-eq}
use Prim.Native.Nat.{ℕ, zero, suc, ◌+◌, ◌-◌, ◌*◌, ◌/◌, ◌%◌, ◌<◌, ◌≤◌, ◌^◌}
use native.Mathlib.Omega.{arith}
use native.Mathlib.Nat.{not-suc-le-zero, le_refl, pow-suc, div-lt_iff_lt-mul}
use lib.Dec.{lit<}
use lib.ListN.{length, take, length-append}
use lib.Seq.{take-append-le, take_all}
use borrow.Author.Tests.{lt-ltb, le-ltb}
use Rattle.std.proofs.lemmas.Bool.{cases_lt}
use Rattle.std.specs.List.{All}
use Rattle.std.proofs.lemmas.List.Elements.{All-nil, All-cons, All-push}
use Rattle.decimal.specs.Decimal.{digit, digits, num_text}

-- ---- One digit, and one digit more

digits_small : (k n : ℕ) → n < 10 → digits k n ≡ digit n ∷ []
unfolding digits
digits_small zero n h = refl
digits_small (suc k) n h = rw (lt-ltb n 10 h)

digits_step : (k n : ℕ) → 10 ≤ n → digits (suc k) n ≡ digits k (n / 10) ++ (digit (n % 10) ∷ [])
unfolding digits
digits_step k n h = rw (le-ltb n 10 h)

-- a larger bound than the number needs changes nothing
digits_same : (k j n : ℕ) → n ≤ k → n ≤ j → digits k n ≡ digits j n
digits_same zero j n hk hj = digits_small zero n (omega arith) ∙ sym (digits_small j n (omega arith))
digits_same (suc k) zero n hk hj = digits_small (suc k) n (omega arith) ∙ sym (digits_small zero n (omega arith))
digits_same (suc k) (suc j) n hk hj =
    ⊎_elim (λ h. digits_small (suc k) n h ∙ sym (digits_small (suc j) n h))
    (λ h.
    digits_step k n h ∙ ap (λ (l : List ℕ). l ++ (digit (n % 10) ∷ [])) (digits_same k j (n / 10) (omega arith) (omega arith))
    ∙ sym (digits_step j n h)) (cases_lt n 10)

pub num_small : (n : ℕ) → n < 10 → num_text n ≡ digit n ∷ []
unfolding num_text
num_small n h = digits_small n n h

pub num_more : (n : ℕ) → 10 ≤ n → num_text n ≡ num_text (n / 10) ++ (digit (n % 10) ∷ [])
unfolding num_text
num_more zero h = absurd (not-suc-le-zero h)
num_more (suc k) h =
    digits_step k (suc k) h
    ∙ ap (λ (l : List ℕ). l ++ (digit (suc k % 10) ∷ [])) (digits_same k (suc k / 10) (suc k / 10) (omega arith) (le_refl (suc k / 10)))

-- what holds of one digit, and of n where it holds of n / 10, holds of every number
pub num_ind : (P : ℕ → Type 0) → ((n : ℕ) → n < 10 → P n) → ((n : ℕ) → 10 ≤ n → P (n / 10) → P n) → (n : ℕ) → P n
num_ind P one more n = go n n (le_refl n)
  where
    go : (k n : ℕ) → n ≤ k → P n
    go zero n h = one n (omega arith)
    go (suc k) n h = ⊎_elim (one n) (λ g. more n g (go k (n / 10) (omega arith))) (cases_lt n 10)

-- ---- How many digits

pub length_small : (n : ℕ) → n < 10 → length (num_text n) ≡ 1
length_small n h = ap length (num_small n h)

pub length_more : (n : ℕ) → 10 ≤ n → length (num_text n) ≡ length (num_text (n / 10)) + 1
length_more n h = ap length (num_more n h) ∙ length-append (num_text (n / 10)) (digit (n % 10) ∷ [])

pub length_pos : (n : ℕ) → 1 ≤ length (num_text n)
length_pos = num_ind (λ n. 1 ≤ length (num_text n)) (λ n h. omega (arith, length_small n h)) (λ n h ih. omega (arith, length_more n h))

-- a number below 10 to the k has at most k digits
pub length_below : (k n : ℕ) → n < 10 ^ suc k → length (num_text n) ≤ suc k
length_below zero n h = omega (arith, length_small n h)
length_below (suc k) n h =
    ⊎_elim (λ s. omega (arith, length_small n s))
    (λ g.
    let q : n / 10 < 10 ^ suc k = (div-lt_iff_lt-mul (lit< tt)).1 (rw (pow-suc 10 (suc k)) at h) in
    omega (arith, length_more n g, length_below k (n / 10) q)) (cases_lt n 10)

-- and one from 10 to the k on has more than k digits
pub length_from_power : (k n : ℕ) → 10 ^ k ≤ n → suc k ≤ length (num_text n)
length_from_power zero n h = length_pos n
length_from_power (suc k) n h =
    let e : 10 ^ suc k ≡ 10 ^ k * 10 = pow-suc 10 k in
    let some : 1 ≤ 10 ^ k = power_some k in
    omega (arith, e, length_more n (omega (arith, e)), length_from_power k (n / 10) (omega (arith, e)))
  where
    power_some : (k : ℕ) → 1 ≤ 10 ^ k
    power_some zero = omega arith
    power_some (suc k) = omega (arith, pow-suc 10 k, power_some k)

-- so the logarithm says how many
pub length_log : (k n : ℕ) → 10 ^ k ≤ n → n < 10 * 10 ^ k → length (num_text n) ≡ k + 1
length_log k n from to = omega (arith, length_from_power k n from, length_below k n (omega (arith, pow-suc 10 k)))

-- every byte is a digit's
abbrev pub Digit : ℕ → Type 0
Digit b = (48 ≤ b) × (b ≤ 57)

pub num_digits : (n : ℕ) → All Digit (num_text n)
num_digits =
    num_ind (λ n. All Digit (num_text n)) (λ n h. rw (num_small n h) (All-cons Digit (digit n) [] (omega arith, omega arith) (All-nil Digit)))
    (λ n h ih. rw (num_more n h) (All-push Digit (num_text (n / 10)) (digit (n % 10)) ih (omega arith, omega arith)))

-- ---- Two numbers have two texts

-- the number that some digits say behind those of v
value_of : ℕ → List ℕ → ℕ
value_of v [] = v
value_of v (b ∷ d) = value_of (v * 10 + (b - 48)) d

value_append : (v : ℕ) (x y : List ℕ) → value_of v (x ++ y) ≡ value_of (value_of v x) y
unfolding value_of
value_append v [] y = refl
value_append v (b ∷ x) y = value_append (v * 10 + (b - 48)) x y

value_num : (n : ℕ) → value_of 0 (num_text n) ≡ n
unfolding value_of
value_num =
    num_ind (λ n. value_of 0 (num_text n) ≡ n) (λ n h. rw (num_small n h) (omega arith))
    (λ n h ih.
    ap (value_of 0) (num_more n h) ∙ value_append 0 (num_text (n / 10)) (digit (n % 10) ∷ [])
    ∙ ap (λ (v : ℕ). v * 10 + (digit (n % 10) - 48)) ih ∙ omega arith)

pub num_inj : (m n : ℕ) → num_text m ≡ num_text n → m ≡ n
num_inj m n e = sym (value_num m) ∙ ap (value_of 0) e ∙ value_num n

-- ---- What begins a number's text

-- two texts that are one with a byte more behind each
snoc_inj : (x y : List ℕ) (a b : ℕ) → x ++ (a ∷ []) ≡ y ++ (b ∷ []) → (x ≡ y) × (a ≡ b)
snoc_inj [] [] a b e = (refl, head-eq_of_cons-eq e)
snoc_inj [] (c ∷ y) a b e = absurd (omega (arith, ap length e, length-append y (b ∷ [])))
snoc_inj (c ∷ x) [] a b e = absurd (omega (arith, ap length e, length-append x (a ∷ [])))
snoc_inj (c ∷ x) (d ∷ y) a b e =
    let r = snoc_inj x y a b (tail-eq_of_cons-eq e) in
    ((λ i. head-eq_of_cons-eq e i ∷ r.0 i), r.1)

-- a number's text that is v's and a byte more
pub num_snoc : (v b n : ℕ) → num_text v ++ (b ∷ []) ≡ num_text n → (v ≡ n / 10) × (b ≡ digit (n % 10)) × (10 ≤ n)
num_snoc v b n e =
    ⊎_elim
    (λ h. absurd (omega (arith, length_pos v, length_small n h, simp length-append at (ap length e))))
    (λ h.
    let r = snoc_inj (num_text v) (num_text (n / 10)) b (digit (n % 10)) (e ∙ num_more n h) in
    (num_inj v (n / 10) r.0, r.1, h)) (cases_lt n 10)

-- the first digits of a number are the text of a number that is no greater
pub num_take : (n i : ℕ) → 1 ≤ i → i ≤ length (num_text n) → (m : ℕ) × (m ≤ n) × (take i (num_text n) ≡ num_text m)
num_take n i p =
    num_ind (λ n. i ≤ length (num_text n) → (m : ℕ) × (m ≤ n) × (take i (num_text n) ≡ num_text m))
    (λ n h le. (n, le_refl n, take_all i (num_text n) (omega (arith, length_small n h))))
    (λ n h ih le.
    ⊎_elim
    (λ s.
    let k : i ≤ length (num_text (n / 10)) = omega (arith, length_more n h) in
    let r = ih k in
    (r.0, omega arith, ap (take i) (num_more n h) ∙ take-append-le i (num_text (n / 10)) (digit (n % 10) ∷ []) k ∙ r.2))
    (λ g. (n, le_refl n, take_all i (num_text n) g)) (cases_lt i (length (num_text n)))) n
