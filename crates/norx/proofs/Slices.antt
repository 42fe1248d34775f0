-- Parts of a slice as code cuts them, and what a slice is once a part of it was lent and came back.
-- Assumes nothing.
use mathlib.Core.Path.{◌≡◌, refl, sym, ap, ap₂, ◌∙◌}
use mathlib.Core.List.{List, [], ◌∷◌, ◌++◌, append-nil, append_assoc}
use Prim.Native.Nat.{ℕ, zero, suc, ◌+◌, ◌-◌, ◌*◌, ◌/◌, ◌<◌, ◌≤◌}
use native.Mathlib.Nat.{suc-mul, mul-le-mul_right, div-mul-le_self, zero-sub, sub-zero, suc-sub-suc, le_of_eq, div-add-mod', mod-lt, not-suc-le-zero, le_of_suc-le-suc}
use native.Mathlib.Omega.{arith}
use lib.ListN.{length, take, drop, replicate, length-append, length-drop, drop_of_length-le}
use Rattle.norx.specs.Norx.{run}
use Rattle.norx.specs.Turns.{put}
use lib.Seq.{take_at, drop_at, drop-drop, take_all}

-- `&l[a..a + n]`
pub span : (a n : ℕ) → a + n - a ≡ n
span a n = omega arith

pub cut : (n a : ℕ) (l : List ℕ) → take (a + n - a) (drop a l) ≡ take n (drop a l)
cut n a l = rw span

-- `&l[a..]`
pub tail : (a : ℕ) (l : List ℕ) → take (length l - a) (drop a l) ≡ drop a l
tail a l = take_all (length l - a) (drop a l) (le_of_eq (length-drop a l))

pub empty : (l : List ℕ) → length l ≡ 0 → l ≡ []
empty [] h = refl
empty (x ∷ l) h = let z : ⊥ = omega arith in absurd z

pub list4 : {A : Type 0} {a b c d a' b' c' d' : A} → a ≡ a' → b ≡ b' → c ≡ c' → d ≡ d' → ◌≡◌ {A = List A} (a ∷ b ∷ c ∷ d ∷ []) (a' ∷ b' ∷ c' ∷ d' ∷ [])
list4 p q r s = λ k. p k ∷ q k ∷ r k ∷ s k ∷ []

-- all of a slice written by a copy
pub copied : (s d : List ℕ) → length s ≡ length d → s ++ drop (length s) d ≡ s
copied s d h = ap (λ (y : List ℕ). s ++ y) (drop_of_length-le d {i = length s} (omega arith)) ∙ append-nil s

pub drop-replicate : (n R a : ℕ) → drop n (replicate R a) ≡ replicate (R - n) a
drop-replicate zero R a = rw sub-zero
drop-replicate (suc n) zero a = rw zero-sub
drop-replicate (suc n) (suc R) a = rw suc-sub-suc (drop-replicate n R a)

pub take-replicate : (n R a : ℕ) → n ≤ R → take n (replicate R a) ≡ replicate n a
take-replicate zero R a h = refl
take-replicate (suc n) zero a h = absurd (not-suc-le-zero h)
take-replicate (suc n) (suc R) a h = ap (λ (l : List ℕ). a ∷ l) (take-replicate n R a (le_of_suc-le-suc h))

-- how a length divides into blocks
pub blocks_le : (n R : ℕ) → 0 < R → n / R * R ≤ n
blocks_le n R h = omega (arith, div-add-mod' n R)

pub left_lt : (n R : ℕ) → 0 < R → n - n / R * R < R
left_lt n R h = omega (arith, div-add-mod' n R, mod-lt n h)

pub put_next : (p q ys : List ℕ) (a n : ℕ) → length p ≡ a → put (p ++ q) a ys n ≡ (p ++ ys) ++ drop n q
put_next p q ys a n h =
    ap₂ (λ (u v : List ℕ). u ++ (ys ++ drop n v)) (take_at p q a h) (drop_at p q a h) ∙ sym (append_assoc p ys (drop n q))

length_two : (p q : List ℕ) (a b : ℕ) → length p ≡ a → length q ≡ b → length (p ++ q) ≡ a + b
length_two p q a b h k = length-append p q ∙ ap₂ (λ (x y : ℕ). x + y) h k

-- three and four parts of n elements, lent one after the other
module _ (n : ℕ) (l a b : List ℕ) (ha : length a ≡ n) (hb : length b ≡ n) where
  two_parts : put (put l 0 a n) n b n ≡ (a ++ b) ++ drop (n + n) l
  two_parts = put_next a (drop n l) b n n ha ∙ ap (λ (t : List ℕ). (a ++ b) ++ t) (drop-drop n n l)

  module _ (c : List ℕ) (hc : length c ≡ n) where
    three_parts : put (put (put l 0 a n) n b n) (n + n) c n ≡ ((a ++ b) ++ c) ++ drop (n + n + n) l
    three_parts =
        ap (λ (t : List ℕ). put t (n + n) c n) two_parts
        ∙ put_next (a ++ b) (drop (n + n) l) c (n + n) n (length_two a b n n ha hb)
        ∙ ap (λ (t : List ℕ). ((a ++ b) ++ c) ++ t) (drop-drop n (n + n) l)

    thirds : length l ≡ n + n + n → put (put (put l 0 a n) n b n) (n + n) c n ≡ a ++ (b ++ c)
    thirds hl =
        three_parts ∙ ap (λ (t : List ℕ). ((a ++ b) ++ c) ++ t) (drop_of_length-le l {i = n + n + n} (omega arith))
        ∙ append-nil ((a ++ b) ++ c) ∙ append_assoc a b c

    quarters : (d : List ℕ) → length l ≡ n + n + n + n → put (put (put (put l 0 a n) n b n) (n + n) c n) (n + n + n) d n ≡ a ++ (b ++ (c ++ d))
    quarters d hl =
        ap (λ (t : List ℕ). put t (n + n + n) d n) three_parts
        ∙ put_next ((a ++ b) ++ c) (drop (n + n + n) l) d (n + n + n) n (length_two (a ++ b) c (n + n) n (length_two a b n n ha hb) hc)
        ∙ ap (λ (t : List ℕ). (((a ++ b) ++ c) ++ d) ++ t) (drop-drop n (n + n + n) l ∙ drop_of_length-le l {i = n + n + n + n} (omega arith))
        ∙ append-nil (((a ++ b) ++ c) ++ d) ∙ simp append_assoc

-- the same, of what calls left in the parts
pub thirds_of : (n : ℕ) (l : List ℕ) {x y z a b c : List ℕ} → x ≡ a → y ≡ b → z ≡ c → length a ≡ n → length b ≡ n → length c ≡ n → length l ≡ n + n + n
    → put (put (put l 0 x n) n y n) (n + n) z n ≡ a ++ (b ++ c)
thirds_of n l {a = a} {b = b} {c = c} e f g ha hb hc hl =
    (λ k. put (put (put l 0 (e k) n) n (f k) n) (n + n) (g k) n) ∙ thirds n l a b ha hb c hc hl

pub quarters_of : (n : ℕ) (l : List ℕ) {w x y z a b c d : List ℕ} → w ≡ a → x ≡ b → y ≡ c → z ≡ d → length a ≡ n → length b ≡ n → length c ≡ n → length l ≡ n + n + n + n
    → put (put (put (put l 0 w n) n x n) (n + n) y n) (n + n + n) z n ≡ a ++ (b ++ (c ++ d))
quarters_of n l {a = a} {b = b} {c = c} {d = d} e f g h ha hb hc hl =
    (λ k. put (put (put (put l 0 (e k) n) n (f k) n) (n + n) (g k) n) (n + n + n) (h k) n) ∙ quarters n l a b ha hb c hc d hl

-- the same with the places as code counts them
pub thirds_at : (n : ℕ) (l : List ℕ) {x y z a b c : List ℕ} → x ≡ a → y ≡ b → z ≡ c → length a ≡ n → length b ≡ n → length c ≡ n → length l ≡ n + n + n
    → put (put (put l 0 x n) n y n) (2 * n) z n ≡ a ++ (b ++ c)
thirds_at n l e f g ha hb hc hl =
    let two : 2 * n ≡ n + n = omega arith in
    rw two (thirds_of n l e f g ha hb hc hl)

pub quarters_at : (n : ℕ) (l : List ℕ) {w x y z a b c d : List ℕ} → w ≡ a → x ≡ b → y ≡ c → z ≡ d → length a ≡ n → length b ≡ n → length c ≡ n → length l ≡ n + n + n + n
    → put (put (put (put l 0 w n) n x n) (2 * n) y n) (3 * n) z n ≡ a ++ (b ++ (c ++ d))
quarters_at n l e f g h ha hb hc hl =
    let two : 2 * n ≡ n + n = omega arith in
    let three : 3 * n ≡ n + n + n = omega arith in
    rw (two, three) (quarters_of n l e f g h ha hb hc hl)

-- the i'th run of n elements, at the place where code reads it
pub run_at : (n a i : ℕ) (l : List ℕ) → a ≡ i * n → take n (drop a l) ≡ run n i l
run_at n a i l e = ap (λ (k : ℕ). take n (drop k l)) e

-- block i is within a length that has more blocks
pub block_fits : (i n R : ℕ) → i < n / R → i * R + R ≤ n
block_fits i n R h =
    let upto : suc i * R ≤ n / R * R = mul-le-mul_right R (omega arith) in
    let one : suc i * R ≡ i * R + R = suc-mul i R in
    omega (arith, upto, one, div-mul-le_self n R)
