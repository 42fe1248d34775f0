-- A text laid over bytes: one text behind another, one as long as the bytes, and a number's digits from the last to the first.
-- Assumes nothing.
use mathlib.Core.Path.{◌≡◌, sym, ap, ap₂, ◌∙◌}
use mathlib.Core.List.{List, [], ◌∷◌, ◌++◌, append_assoc, append-nil}
use mathlib.Core.Logic.{⊎_elim}
use Prim.Native.Nat.{ℕ, suc, ◌+◌, ◌-◌, ◌/◌, ◌%◌, ◌≤◌, ◌<◌}
use native.Mathlib.Omega.{arith}
use native.Mathlib.Nat.{add_assoc, add-zero}
use native.Mathlib.Numerals.{add-one}
use lib.ListN.{length, take, drop, set, length-append, length-drop, drop_of_length-le, take-append-drop}
use lib.Seq.{length-take-le, take_at, drop_at, drop-drop, set_split}
use borrow.Author.Tests.{le-leb, lt-leb}
use Rattle.std.proofs.lemmas.Bool.{cases_lt}
use Rattle.decimal.specs.Decimal.{digit, num_text}
use Rattle.decimal.proofs.Digits.{num_small, num_more, length_small, length_more, length_pos}
use Rattle.decimal.specs.Laid.{laid, put_at, put_end}

pub length_laid : (l : List ℕ) (at : ℕ) (x : List ℕ) → at + length x ≤ length l → length (laid l at x) ≡ length l
unfolding laid
length_laid l at x h = simp (length-append, length-drop) (omega (arith, length-take-le at l (omega arith)))

pub laid_one : (l : List ℕ) (at b : ℕ) → at < length l → set l at b ≡ laid l at (b ∷ [])
unfolding laid
laid_one l at b h = set_split l at b h ∙ ap (λ (n : ℕ). take at l ++ (b ∷ drop n l)) (sym (add-one at))

-- x, and y behind it
pub laid_next : (l : List ℕ) (at : ℕ) (x y : List ℕ) → at + length x ≤ length l → laid (laid l at x) (at + length x) y ≡ laid l at (x ++ y)
unfolding laid
laid_next l at x y h =
    let p : List ℕ = take at l ++ x in
    let n : ℕ = at + length x in
    let q : List ℕ = drop (at + length x) l in
    let len : length (take at l ++ x) ≡ at + length x = length-append (take at l) x ∙ ap (λ (k : ℕ). k + length x) (length-take-le at l (omega arith)) in
    let e : take at l ++ (x ++ q) ≡ p ++ q = sym (append_assoc (take at l) x q) in
    let t : take n (take at l ++ (x ++ q)) ≡ p = ap (take n) e ∙ take_at p q n len in
    let d : drop (n + length y) (take at l ++ (x ++ q)) ≡ drop (at + length (x ++ y)) l =
    ap (drop (n + length y)) e ∙ sym (drop-drop (length y) n (p ++ q)) ∙ ap (drop (length y)) (drop_at p q n len)
    ∙ drop-drop (length y) n l
    ∙ ap (λ (k : ℕ). drop k l) (add_assoc at (length x) (length y) ∙ ap (λ (k : ℕ). at + k) (sym (length-append x y))) in
    ap₂ (λ (a b : List ℕ). a ++ (y ++ b)) t d ∙ append_assoc (take at l) x (y ++ drop (at + length (x ++ y)) l)
    ∙ ap (λ (a : List ℕ). take at l ++ a) (sym (append_assoc x y (drop (at + length (x ++ y)) l)))

-- x, as the code cuts out the bytes that it is laid over
pub laid_cut : (l x : List ℕ) (at k : ℕ) → k ≡ length x → take at l ++ (x ++ drop k (drop at l)) ≡ laid l at x
unfolding laid
laid_cut l x at k e = ap (λ (r : List ℕ). take at l ++ (x ++ r)) (drop-drop k at l ∙ ap (λ (m : ℕ). drop (at + m) l) e)

-- a text as long as the bytes takes their place, and none changes nothing
pub laid_all : (l x : List ℕ) → length x ≡ length l → laid l 0 x ≡ x
unfolding laid
laid_all l x e = ap (λ (a : List ℕ). x ++ a) (drop_of_length-le l {i = 0 + length x} (omega arith)) ∙ append-nil x

pub laid_none : (l : List ℕ) (at : ℕ) → laid l at [] ≡ l
unfolding laid
laid_none l at = rw add-zero (take-append-drop at l)

-- with room for it, and without
pub put_room : (x : List ℕ) (at : ℕ) (l : List ℕ) → at + length x ≤ length l → (put_end x at l ≡ at + length x) × (put_at x at l ≡ laid l at x)
unfolding put_at put_end
put_room x at l h = (rw (le-leb (at + length x) (length l) h), rw (le-leb (at + length x) (length l) h))

pub put_full : (x : List ℕ) (at : ℕ) (l : List ℕ) → length l < at + length x → (put_end x at l ≡ at) × (put_at x at l ≡ l)
unfolding put_at put_end
put_full x at l h = (rw (lt-leb (at + length x) (length l) h), rw (lt-leb (at + length x) (length l) h))

-- ---- A number's digits, from the last to the first

-- the first i bytes are for the text of v, and with that they are n's
pub record Left (n v i : ℕ) (out : List ℕ) : Type 0 where
  pub long : length (num_text v) ≡ i
  pub text : num_text v ++ drop i out ≡ num_text n

pub one_less : (n v i : ℕ) (out : List ℕ) → Left n v i out → 1 < i → i ≤ length out → Left n (v / 10) (i - 1) (set out (i - 1) (digit (v % 10)))
one_less n v i out left h within =
    let b : ℕ = digit (v % 10) in
    let s : set out (i - 1) (digit (v % 10)) ≡ take (i - 1) out ++ (digit (v % 10) ∷ drop (suc (i - 1)) out) = set_split out (i - 1) b (omega arith) in
    let next : suc (i - 1) ≡ i = omega arith in
    let d : drop (i - 1) (set out (i - 1) (digit (v % 10))) ≡ digit (v % 10) ∷ drop i out =
    ap (drop (i - 1)) s ∙ drop_at (take (i - 1) out) (b ∷ drop (suc (i - 1)) out) (i - 1) (length-take-le (i - 1) out (omega arith)) ∙ ap (λ (k : ℕ). digit (v % 10) ∷ drop k out) next in
    ⊎_elim (λ (one : v < 10). absurd (omega (arith, left.long, length_small v one)))
    (λ (more : 10 ≤ v).
    record {
      long = omega (arith, left.long, length_more v more);
      text = ap (λ (l : List ℕ). num_text (v / 10) ++ l) d ∙ sym (append_assoc (num_text (v / 10)) (b ∷ []) (drop i out)) ∙ ap (λ (l : List ℕ). l ++ drop i out) (sym (num_more v more)) ∙ left.text;
    }) (cases_lt v 10)

-- the first digit, which is all that is left
pub last_small : (n v i : ℕ) (out : List ℕ) → Left n v i out → i ≤ 1 → v < 10
last_small n v i out left h =
    ⊎_elim (λ (one : v < 10). one) (λ (more : 10 ≤ v). absurd (omega (arith, left.long, length_more v more, length_pos (v / 10)))) (cases_lt v 10)

pub last_laid : (n v i : ℕ) (out : List ℕ) → Left n v i out → i ≤ 1 → 0 < length out → set out 0 (digit v) ≡ num_text n
last_laid n v i out left h some =
    let small : v < 10 = last_small n v i out left h in
    let one : 1 ≡ i = omega (arith, left.long, length_small v small) in
    set_split out 0 (digit v) some ∙ ap (λ (m : ℕ). digit v ∷ drop m out) one ∙ ap (λ (l : List ℕ). l ++ drop i out) (sym (num_small v small)) ∙ left.text
