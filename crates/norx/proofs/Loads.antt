-- Words as code adds them up from bytes, and bytes as code divides them out of words.
-- Assumes nothing.
use mathlib.Core.Path.{◌≡◌, refl, ap, ap₂, ◌∙◌}
use mathlib.Core.List.{List, [], ◌∷◌, ◌++◌}
use Prim.Native.Nat.{ℕ, ◌+◌, ◌*◌, ◌/◌, ◌%◌, ◌^◌, ◌<◌, ◌≤◌}
use native.Mathlib.Omega.{arith}
use Rattle.std.specs.Int.{w32, w64, from_le_bytes, to_le_bytes}
use lib.ListN.{length, get_or, take, drop}
use Rattle.norx.specs.Norx.{word_of, bytes_of}
use Rattle.norx.proofs.Slices.{list4}

pub word4 : (l : List ℕ) → length l ≡ 4 → get_or l 0 0 + get_or l 1 0 * 0x100 + get_or l 2 0 * 0x1_0000 + get_or l 3 0 * 0x100_0000 ≡ word_of l
unfolding word_of
word4 [] h = omega arith
word4 (a ∷ []) h = omega arith
word4 (a ∷ b ∷ []) h = omega arith
word4 (a ∷ b ∷ c ∷ []) h = omega arith
word4 (a ∷ b ∷ c ∷ d ∷ []) h = omega arith
word4 (a ∷ b ∷ c ∷ d ∷ e ∷ l) h = omega arith

-- from the first four bytes and the rest
word_halves : (l : List ℕ) → 4 ≤ length l → word_of (take 4 l) + word_of (drop 4 l) * 0x1_0000_0000 ≡ word_of l
unfolding word_of
word_halves [] h = omega arith
word_halves (a ∷ []) h = omega arith
word_halves (a ∷ b ∷ []) h = omega arith
word_halves (a ∷ b ∷ c ∷ []) h = omega arith
word_halves (a ∷ b ∷ c ∷ d ∷ l) h = omega arith

-- a list of four, and of eight, by its elements
pub four_is : (l : List ℕ) → length l ≡ 4 → get_or l 0 0 ∷ get_or l 1 0 ∷ get_or l 2 0 ∷ get_or l 3 0 ∷ [] ≡ l
four_is [] h = absurd (omega arith)
four_is (a ∷ []) h = absurd (omega arith)
four_is (a ∷ b ∷ []) h = absurd (omega arith)
four_is (a ∷ b ∷ c ∷ []) h = absurd (omega arith)
four_is (a ∷ b ∷ c ∷ d ∷ []) h = refl
four_is (a ∷ b ∷ c ∷ d ∷ e ∷ l) h = absurd (omega arith)

pub eight_is : (l : List ℕ) → length l ≡ 8
    → get_or l 0 0 ∷ get_or l 1 0 ∷ get_or l 2 0 ∷ get_or l 3 0 ∷ get_or l 4 0 ∷ get_or l 5 0 ∷ get_or l 6 0 ∷ get_or l 7 0 ∷ [] ≡ l
eight_is [] h = absurd (omega arith)
eight_is (a ∷ []) h = absurd (omega arith)
eight_is (a ∷ b ∷ []) h = absurd (omega arith)
eight_is (a ∷ b ∷ c ∷ []) h = absurd (omega arith)
eight_is (a ∷ b ∷ c ∷ d ∷ l) h = ap (λ (m : List ℕ). a ∷ b ∷ c ∷ d ∷ m) (four_is l (omega arith))

-- from eight bytes, four by four
pub word8 : (l : List ℕ) → length l ≡ 8
    → word_of (get_or l 0 0 ∷ get_or l 1 0 ∷ get_or l 2 0 ∷ get_or l 3 0 ∷ []) + word_of (get_or l 4 0 ∷ get_or l 5 0 ∷ get_or l 6 0 ∷ get_or l 7 0 ∷ []) * 0x1_0000_0000 ≡ word_of l
word8 [] h = absurd (omega arith)
word8 (a ∷ []) h = absurd (omega arith)
word8 (a ∷ b ∷ []) h = absurd (omega arith)
word8 (a ∷ b ∷ c ∷ []) h = absurd (omega arith)
word8 (a ∷ b ∷ c ∷ d ∷ l) h =
    ap (λ (m : List ℕ). word_of (a ∷ b ∷ c ∷ d ∷ []) + word_of m * 0x1_0000_0000) (four_is l (omega arith)) ∙ word_halves (a ∷ b ∷ c ∷ d ∷ l) (omega arith)

pub bytes4 : (x : ℕ) → x < 2 ^ 32 → x % 256 ∷ x / 0x100 % 256 ∷ x / 0x1_0000 % 256 ∷ x / 0x100_0000 ∷ [] ≡ bytes_of 4 x
unfolding bytes_of
bytes4 x h = list4 refl refl (omega arith) (omega arith)

pub bytes_halves : (x : ℕ) → bytes_of 4 (x % 2 ^ 32) ++ bytes_of 4 (x / 2 ^ 32) ≡ bytes_of 8 x
unfolding bytes_of
bytes_halves x =
    ap₂ (λ (a b : List ℕ). a ++ b) (list4 (omega arith) (omega arith) (omega arith) (omega arith)) (list4 (omega arith) (omega arith) (omega arith) (omega arith))

-- the machine's own way, at both widths
pub load4 : (l : List ℕ) → length l ≡ 4 → from_le_bytes w32 (get_or l 0 0 ∷ get_or l 1 0 ∷ get_or l 2 0 ∷ get_or l 3 0 ∷ []) ≡ word_of l
load4 l h = omega (arith, word4 l h)

pub load8 : (l : List ℕ) → length l ≡ 8
    → from_le_bytes w64 (get_or l 0 0 ∷ get_or l 1 0 ∷ get_or l 2 0 ∷ get_or l 3 0 ∷ get_or l 4 0 ∷ get_or l 5 0 ∷ get_or l 6 0 ∷ get_or l 7 0 ∷ []) ≡ word_of l
load8 l h =
    let low = word4 (get_or l 0 0 ∷ get_or l 1 0 ∷ get_or l 2 0 ∷ get_or l 3 0 ∷ []) refl in
    let high = word4 (get_or l 4 0 ∷ get_or l 5 0 ∷ get_or l 6 0 ∷ get_or l 7 0 ∷ []) refl in
    omega (arith, word8 l h, low, high)

pub store4 : (x : ℕ) → to_le_bytes w32 x ≡ bytes_of 4 x
unfolding bytes_of
store4 x = list4 refl (omega arith) (omega arith) (omega arith)

pub store8 : (x : ℕ) → to_le_bytes w64 x ≡ bytes_of 8 x
unfolding bytes_of
store8 x = ap₂ (λ (a b : List ℕ). a ++ b) (list4 refl (omega arith) (omega arith) (omega arith)) (list4 (omega arith) (omega arith) (omega arith) (omega arith))
