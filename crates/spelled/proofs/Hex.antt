-- Hexadecimal digits, and texts of them.
-- Assumes nothing.
use mathlib.Core.Path.{◌≡◌, refl, sym, ap, ap₂, ◌∙◌}
use mathlib.Core.Logic.{◌⊎◌, ⊎_elim}
use mathlib.Core.List.{List, [], ◌∷◌, ◌++◌, head-eq_of_cons-eq, tail-eq_of_cons-eq, append_assoc}
use Prim.Native.Nat.{ℕ, zero, suc, ◌+◌, ◌*◌, ◌/◌, ◌%◌, ◌<◌, ◌≤◌}
use native.Mathlib.Omega.{arith}
use lib.ListN.{length, get_or, set, take}
use lib.Seq.{take-suc, take-suc-set}
use borrow.Author.Tests.{lt-ltb, le-ltb}
use Rattle.std.proofs.lemmas.Bool.{cases_lt}
use Rattle.norx.specs.Texts.{Bytes}
use Rattle.spelled.specs.Spelled.{hex_digit, hex_text, IsDigit, AllDigits}

-- ---- One digit

pub digit_low : (d : ℕ) → d < 10 → hex_digit d ≡ 48 + d
unfolding hex_digit
digit_low d h = rw (lt-ltb d 10 h)

pub digit_high : (d : ℕ) → 10 ≤ d → hex_digit d ≡ 87 + d
unfolding hex_digit
digit_high d h = rw (le-ltb d 10 h)

digit_inj : (a b : ℕ) → hex_digit a ≡ hex_digit b → a ≡ b
digit_inj a b e =
    ⊎_elim
    (λ la. ⊎_elim (λ lb. omega (arith, digit_low a la, digit_low b lb)) (λ gb. omega (arith, digit_low a la, digit_high b gb)) (cases_lt b 10))
    (λ ga. ⊎_elim (λ lb. omega (arith, digit_high a ga, digit_low b lb)) (λ gb. omega (arith, digit_high a ga, digit_high b gb)) (cases_lt b 10)) (cases_lt a 10)

-- a byte that is no digit's
pub no_digit : (b : ℕ) → (b < 48) ⊎ (((57 < b) × (b < 97)) ⊎ (102 < b)) → IsDigit b → ⊥
no_digit b out (d, h, e) =
    ⊎_elim (λ l. ⊎_elim (λ o. omega (arith, digit_low d l)) (λ o. ⊎_elim (λ p. omega (arith, digit_low d l, p.0)) (λ p. omega (arith, digit_low d l)) o) out)
    (λ g. ⊎_elim (λ o. omega (arith, digit_high d g)) (λ o. ⊎_elim (λ p. omega (arith, digit_high d g, p.1)) (λ p. omega (arith, digit_high d g)) o) out) (cases_lt d 10)

-- ---- Texts

pub length_hex : (l : List ℕ) → length (hex_text l) ≡ 2 * length l
unfolding hex_text
length_hex [] = refl
length_hex (b ∷ l) = omega (arith, length_hex l)

pub hex_append : (x y : List ℕ) → hex_text (x ++ y) ≡ hex_text x ++ hex_text y
unfolding hex_text
hex_append [] y = refl
hex_append (b ∷ x) y = ap (λ (t : List ℕ). hex_digit (b / 16) ∷ hex_digit (b % 16) ∷ t) (hex_append x y)

-- two lists have two texts
pub hex_inj : (x y : List ℕ) → hex_text x ≡ hex_text y → x ≡ y
unfolding hex_text
hex_inj [] [] e = refl
hex_inj [] (b ∷ y) e = absurd (omega (arith, ap length e))
hex_inj (a ∷ x) [] e = absurd (omega (arith, ap length e))
hex_inj (a ∷ x) (b ∷ y) e =
    let q : a / 16 ≡ b / 16 = digit_inj (a / 16) (b / 16) (head-eq_of_cons-eq e) in
    let r : a % 16 ≡ b % 16 = digit_inj (a % 16) (b % 16) (head-eq_of_cons-eq (tail-eq_of_cons-eq e)) in
    let ab : a ≡ b = omega arith in
    ap₂ (λ (c : ℕ) (l : List ℕ). c ∷ l) ab (hex_inj x y (tail-eq_of_cons-eq (tail-eq_of_cons-eq e)))

-- the text of bytes is digits
pub hex_digits : (l : List ℕ) → Bytes l → AllDigits (hex_text l)
unfolding hex_text
hex_digits [] h i lt = absurd (omega arith)
hex_digits (b ∷ l) h zero lt = (b / 16, omega (arith, h 0), refl)
hex_digits (b ∷ l) h (suc zero) lt = (b % 16, omega arith, refl)
hex_digits (b ∷ l) h (suc (suc i)) lt = hex_digits l (λ k. h (suc k)) i (omega arith)

-- ---- One byte more

pair_more : (w : List ℕ) (i : ℕ) → 2 * i + 1 < length w → take (2 * (i + 1)) w ≡ take (2 * i) w ++ (get_or w (2 * i) 0 ∷ get_or w (2 * i + 1) 0 ∷ [])
pair_more w i h =
    let e : 2 * (i + 1) ≡ suc (suc (2 * i)) = omega arith in
    let f : suc (2 * i) ≡ 2 * i + 1 = omega arith in
    ap (λ (k : ℕ). take k w) e ∙ take-suc w (suc (2 * i)) 0 (omega arith)
    ∙ ap₂ (λ (t : List ℕ) (k : ℕ). t ++ (get_or w k 0 ∷ [])) (take-suc w (2 * i) 0 (omega arith)) f
    ∙ append_assoc (take (2 * i) w) (get_or w (2 * i) 0 ∷ []) (get_or w (2 * i + 1) 0 ∷ [])

pub hex_pair : (a b : ℕ) → a < 16 → b < 16 → hex_text ((a * 16 + b) ∷ []) ≡ hex_digit a ∷ hex_digit b ∷ []
unfolding hex_text
hex_pair a b ha hb =
    let q : (a * 16 + b) / 16 ≡ a = omega arith in
    let r : (a * 16 + b) % 16 ≡ b = omega arith in
    ap₂ (λ (x y : ℕ). hex_digit x ∷ hex_digit y ∷ []) q r

-- a byte laid behind those whose text the first digits are
pub laid_next : (w out : List ℕ) (i b : ℕ) → 2 * i + 1 < length w → i < length out → hex_text (b ∷ []) ≡ get_or w (2 * i) 0 ∷ get_or w (2 * i + 1) 0 ∷ []
    → hex_text (take i out) ≡ take (2 * i) w → hex_text (take (i + 1) (set out i b)) ≡ take (2 * (i + 1)) w
laid_next w out i b hw ho pair e =
    let s : i + 1 ≡ suc i = omega arith in
    ap (λ (k : ℕ). hex_text (take k (set out i b))) s ∙ ap hex_text (take-suc-set out i b ho) ∙ hex_append (take i out) (b ∷ [])
    ∙ ap₂ (λ (x y : List ℕ). x ++ y) e pair ∙ sym (pair_more w i hw)
