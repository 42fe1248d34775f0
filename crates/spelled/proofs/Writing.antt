-- Words written to the front of a buffer.
-- Assumes nothing.
use mathlib.Core.Path.{◌≡◌, refl, sym, ap, ap₂, ◌∙◌}
use mathlib.Core.Logic.{inl, inr}
use mathlib.Core.List.{List, [], ◌∷◌, ◌++◌, append_assoc}
use Prim.Native.Nat.{ℕ, suc, ◌+◌, ◌*◌, ◌/◌, ◌%◌, ◌<◌, ◌≤◌}
use native.Mathlib.Omega.{arith}
use lib.ListN.{length, get_or, set, take, drop}
use lib.Seq.{take-suc, drop-cons, length-take-le}
use borrow.Author.Tests.{le-leb, lt-leb}
use Rattle.norx.specs.Texts.{Bytes}
use Rattle.answers.proofs.Tests.{cond_true, cond_false}
use Rattle.spelled.specs.Spelled.{hex_digit, hex_text, Spells, plain_word, put_front, put_length}
use Rattle.spelled.proofs.Hex.{length_hex, hex_append}

-- ---- Room or none

pub put_room : (w o : List ℕ) → length w ≤ length o → (put_length w o ≡ length w) × (put_front w o ≡ w ++ drop (length w) o)
unfolding put_length put_front
put_room w o h = (cond_true _ _ _ (le-leb (length w) (length o) h), cond_true _ _ _ (le-leb (length w) (length o) h))

pub put_none : (w o : List ℕ) → length o < length w → (put_length w o ≡ 0) × (put_front w o ≡ o)
unfolding put_length put_front
put_none w o h = (cond_false _ _ _ (lt-leb (length w) (length o) h), cond_false _ _ _ (lt-leb (length w) (length o) h))

pub plain_none : (l : List ℕ) → length l ≡ 0 → plain_word l ≡ 45 ∷ []
unfolding plain_word
plain_none [] h = refl
plain_none (b ∷ l) h = absurd (omega arith)

pub plain_some : (l : List ℕ) → (length l ≡ 0 → ⊥) → plain_word l ≡ hex_text l
unfolding plain_word
plain_some [] h = absurd (h refl)
plain_some (b ∷ l) h = refl

-- ---- One byte more

two_set : (h : List ℕ) (x y : ℕ) (t : List ℕ) (a b : ℕ) → set (set (h ++ (x ∷ y ∷ t)) (length h) a) (suc (length h)) b ≡ h ++ (a ∷ b ∷ t)
two_set [] x y t a b = refl
two_set (c ∷ h) x y t a b = ap (λ (r : List ℕ). c ∷ r) (two_set h x y t a b)

two_more : (h o : List ℕ) (k a b : ℕ) → length h ≡ k → k + 1 < length o → set (set (h ++ drop k o) k a) (k + 1) b ≡ h ++ (a ∷ b ∷ drop (k + 2) o)
two_more h o k a b e room =
    let p : suc k ≡ k + 1 = omega arith in
    let q : suc (suc k) ≡ k + 2 = omega arith in
    let r : length h ≡ k = e in
    let s : suc (length h) ≡ k + 1 = omega arith in
    ap (λ (t : List ℕ). set (set (h ++ t) k a) (k + 1) b)
    (drop-cons o k 0 (omega arith) ∙ ap (λ (t : List ℕ). get_or o k 0 ∷ t) (drop-cons o (suc k) 0 (omega arith)))
    ∙ ap₂ (λ (i j : ℕ). set (set (h ++ (get_or o k 0 ∷ get_or o (suc k) 0 ∷ drop (suc (suc k)) o)) i a) j b) (sym r) (sym s)
    ∙ two_set h (get_or o k 0) (get_or o (suc k) 0) (drop (suc (suc k)) o) a b ∙ ap (λ (i : ℕ). h ++ (a ∷ b ∷ drop i o)) q

hex_more : (d : List ℕ) (i : ℕ) → i < length d → hex_text (take (i + 1) d) ≡ hex_text (take i d) ++ (hex_digit (get_or d i 0 / 16) ∷ hex_digit (get_or d i 0 % 16) ∷ [])
unfolding hex_text
hex_more d i h =
    let s : i + 1 ≡ suc i = omega arith in
    ap (λ (k : ℕ). hex_text (take k d)) s ∙ ap hex_text (take-suc d i 0 h) ∙ hex_append (take i d) (get_or d i 0 ∷ [])

pub wrote_next : (d o out : List ℕ) (i a b : ℕ) → i < length d → 2 * length d ≤ length o → a ≡ hex_digit (get_or d i 0 / 16) → b ≡ hex_digit (get_or d i 0 % 16)
    → out ≡ hex_text (take i d) ++ drop (2 * i) o → set (set out (2 * i) a) (2 * i + 1) b ≡ hex_text (take (i + 1) d) ++ drop (2 * (i + 1)) o
wrote_next d o out i a b h room ea eb e =
    let n : length (hex_text (take i d)) ≡ 2 * i = omega (arith, length_hex (take i d), length-take-le i d (omega arith)) in
    let j : 2 * i + 2 ≡ 2 * (i + 1) = omega arith in
    ap (λ (t : List ℕ). set (set t (2 * i) a) (2 * i + 1) b) e ∙ two_more (hex_text (take i d)) o (2 * i) a b n (omega arith)
    ∙ ap₂ (λ (x y : ℕ). hex_text (take i d) ++ (x ∷ y ∷ drop (2 * i + 2) o)) ea eb
    ∙ sym (append_assoc (hex_text (take i d)) (hex_digit (get_or d i 0 / 16) ∷ hex_digit (get_or d i 0 % 16) ∷ []) (drop (2 * i + 2) o))
    ∙ ap₂ (λ (t : List ℕ) (k : ℕ). t ++ drop k o) (sym (hex_more d i h)) j

-- ---- What is written is read again

pub plain_spells : (l : List ℕ) → Bytes l → Spells (plain_word l) l
unfolding plain_word
plain_spells [] h = inl (refl, refl)
plain_spells (b ∷ l) h = inr (inl (h, omega arith, refl))
