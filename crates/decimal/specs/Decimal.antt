-- The text of a number: its decimal digits as bytes, without leading zeros; and what a text is read as.
-- Assumes nothing.
use Rattle.std.specs.Prelude.{◌≡◌, Bool, ◌&&◌, cond, List, [], ◌∷◌, ◌++◌, ℕ, zero, suc, ◌+◌, ◌/◌, ◌%◌, ◌<◌, ◌^◌, ltb, leb, length, drop, Option, Some, None}

-- the byte of a digit: 0 is 48, and 9 is 57
abbrev pub digit : ℕ → ℕ
digit n = 48 + n

-- the digits of n: one where n is below 10, else those of n / 10 and the last; k bounds how often n is divided, and a bound of n is enough
unfoldable pub digits : ℕ → ℕ → List ℕ
digits zero n = digit n ∷ []
digits (suc k) n = cond (ltb n 10) (digit n ∷ []) (digits k (n / 10) ++ (digit (n % 10) ∷ []))

-- the text of n
unfoldable pub num_text : ℕ → List ℕ
num_text n = digits n n

-- what a text is read as: n, where n has 64 bits and it is the text of n; nothing, where it is the text of no such number
abbrev pub NumberIs : List ℕ → Option ℕ → Type 0
NumberIs d (Some n) = (n < 2 ^ 64) × (d ≡ num_text n)
NumberIs d None = (n : ℕ) → n < 2 ^ 64 → d ≡ num_text n → ⊥

-- ---- At a place of a text

unfoldable pub is_digit : ℕ → Bool
is_digit b = leb (digit 0) b && leb b (digit 9)

-- the digits that a text begins with, up to the first byte that is none
unfoldable pub digits_of : List ℕ → List ℕ
digits_of [] = []
digits_of (b ∷ t) = cond (is_digit b) (b ∷ digits_of t) []

-- what the digits at a place are read as, and the place behind them
abbrev pub FoundIs : List ℕ → ℕ → Option (ℕ × ℕ) → Type 0
FoundIs t at (Some (n, end)) = NumberIs (digits_of (drop at t)) (Some n) × (end ≡ at + length (digits_of (drop at t)))
FoundIs t at None = NumberIs (digits_of (drop at t)) None
