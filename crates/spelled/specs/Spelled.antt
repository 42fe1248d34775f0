-- Bytes spelled as a word of text: the words that spell some bytes, and what reading a word and writing bytes give, on all inputs.
-- Assumes nothing.
use Rattle.std.specs.Prelude.{◌≡◌, ◌⊎◌, Bool, true, false, cond, List, [], ◌∷◌, ◌++◌, ℕ, ◌+◌, ◌/◌, ◌%◌, ◌<◌, ◌≤◌, ltb, leb, length, get_or, drop, replicate, Option, Some, None}
use Rattle.norx.specs.Texts.{Bytes}
use Rattle.decimal.specs.Decimal.{num_text}

-- the byte of a hexadecimal digit: 0 is 48, 9 is 57, a is 97, and f is 102
unfoldable pub hex_digit : ℕ → ℕ
hex_digit d = cond (ltb d 10) (48 + d) (87 + d)

-- a pair of digits for each byte
unfoldable pub hex_text : List ℕ → List ℕ
hex_text [] = []
hex_text (b ∷ l) = hex_digit (b / 16) ∷ hex_digit (b % 16) ∷ hex_text l

-- ---- The words that spell l

-- `-`: no bytes
abbrev pub AsNone : List ℕ → List ℕ → Type 0
AsNone word l = (word ≡ 45 ∷ []) × (l ≡ [])

-- `0f20`: each byte in its turn, at least one
abbrev pub AsPairs : List ℕ → List ℕ → Type 0
AsPairs word l = Bytes l × (1 ≤ length l) × (word ≡ hex_text l)

-- `a5*300`: one byte so many times, at least once
abbrev pub AsTimes : List ℕ → List ℕ → Type 0
AsTimes word l = (b : ℕ) × (n : ℕ) × (b < 256) × (1 ≤ n) × (word ≡ hex_text (b ∷ []) ++ (42 ∷ num_text n)) × (l ≡ replicate n b)

abbrev pub Spells : List ℕ → List ℕ → Type 0
Spells word l = AsNone word l ⊎ (AsPairs word l ⊎ AsTimes word l)

-- ---- What reading gives

-- bytes that are S, and how many, at the front of a buffer that has room for them; nothing, and the buffer as it was, where no such bytes have room in it
abbrev pub ReadIs : (List ℕ → Type 0) → List ℕ → List ℕ → Option ℕ → Type 0
ReadIs S out after (Some n) = (l : List ℕ) × S l × (length l ≡ n) × (n ≤ length out) × (after ≡ l ++ drop n out)
ReadIs S out after None = ((l : List ℕ) → S l → length l ≤ length out → ⊥) × (after ≡ out)

-- ---- What writing gives

-- the word of l without a repeat
unfoldable pub plain_word : List ℕ → List ℕ
plain_word [] = 45 ∷ []
plain_word (b ∷ l) = hex_text (b ∷ l)

-- a word at the front of a buffer that has room for it, else the buffer as it was; and the word's length, or 0
unfoldable pub put_front : List ℕ → List ℕ → List ℕ
put_front word out = cond (leb (length word) (length out)) (word ++ drop (length word) out) out

unfoldable pub put_length : List ℕ → List ℕ → ℕ
put_length word out = cond (leb (length word) (length out)) (length word) 0

-- ---- One digit, and a word of digits

abbrev pub IsDigit : ℕ → Type 0
IsDigit b = (d : ℕ) × (d < 16) × (b ≡ hex_digit d)

-- what a byte is read as: the digit that it is, or nothing where it is none
abbrev pub DigitIs : ℕ → Option ℕ → Type 0
DigitIs b (Some d) = (d < 16) × (b ≡ hex_digit d)
DigitIs b None = IsDigit b → ⊥

-- what two bytes are read as: the byte whose digits they are, or nothing where one is no digit
abbrev pub PairIs : ℕ → ℕ → Option ℕ → Type 0
PairIs high low (Some b) = (b < 256) × (hex_text (b ∷ []) ≡ high ∷ low ∷ [])
PairIs high low None = IsDigit high → IsDigit low → ⊥

abbrev pub AllDigits : List ℕ → Type 0
AllDigits word = (i : ℕ) → i < length word → IsDigit (get_or word i 0)

-- a word whose third byte is `*`, and that goes on
abbrev pub Starred : List ℕ → Type 0
Starred word = (3 < length word) × (get_or word 2 0 ≡ 42)

-- yes where P, no where not
abbrev pub Says : Type 0 → Bool → Type 0
Says P true = P
Says P false = P → ⊥
