-- Xor of numbers and of lists of them.
-- Assumes nothing.
use mathlib.Core.Path.{◌≡◌, refl, sym, ap, ap₂, ◌∙◌}
use mathlib.Core.List.{List, [], ◌∷◌, ◌++◌}
use Prim.Native.Nat.{ℕ, zero, suc, ◌+◌, ◌-◌, ◌*◌, ◌/◌, ◌%◌, ◌<◌, ◌≤◌}
use native.Mathlib.Nat.{not-suc-le-zero, le_of_suc-le-suc, mod-lt, zero-lt-suc, suc_inj, sub-zero, suc-sub-suc}
use native.Mathlib.Omega.{arith}
use lib.Arith.{bin_ind}
use lib.Bits.{bit_xor, differ, xor_step, xor_shr, xor_mod, xor_self, xor_zero_r}
use lib.ListN.{length, get_or, take, drop, replicate, take-append-drop}
use lib.Seq.{length-take-le}
use Rattle.norx.specs.Norx.{run, xors, xor_at}

-- ---- numbers

by_two : (Q : ℕ → Type 0) → Q 0 → Q 1 → (x : ℕ) → x < 2 → Q x
by_two Q p q zero h = p
by_two Q p q (suc zero) h = q
by_two Q p q (suc (suc x)) h = absurd (not-suc-le-zero (le_of_suc-le-suc (le_of_suc-le-suc h)))

abbrev Digit : ℕ → ℕ → ℕ → Type 0
Digit x y z = differ (bit_xor x y) z ≡ differ x (bit_xor y z)

digit : (x y z : ℕ) → x < 2 → y < 2 → z < 2 → Digit x y z
digit x y z hx hy hz =
    by_two (λ (x : ℕ). Digit x y z)
    (by_two (λ (y : ℕ). Digit 0 y z) refl (by_two (λ (z : ℕ). Digit 0 1 z) refl refl z hz) y hy)
    (by_two (λ (y : ℕ). Digit 1 y z) (by_two (λ (z : ℕ). Digit 1 0 z) refl refl z hz) (by_two (λ (z : ℕ). Digit 1 1 z) refl refl z hz) y hy)
    x hx

two_pos : 0 < 2
two_pos = zero-lt-suc 1

pub xor_assoc : (a b c : ℕ) → bit_xor (bit_xor a b) c ≡ bit_xor a (bit_xor b c)
xor_assoc =
    bin_ind (λ (n : ℕ). (b c : ℕ) → bit_xor (bit_xor n b) c ≡ bit_xor n (bit_xor b c)) (λ b c. refl)
    (λ n ih b c.
    xor_step (bit_xor n b) c
    ∙ ap₂ (λ (x y : ℕ). x * 2 + y)
    (ap (λ (t : ℕ). bit_xor t (c / 2)) (xor_shr n b 1) ∙ ih (b / 2) (c / 2) ∙ ap (bit_xor (n / 2)) (sym (xor_shr b c 1)))
    (ap (λ (t : ℕ). differ t (c % 2)) (xor_mod n b 1) ∙ digit (n % 2) (b % 2) (c % 2) (mod-lt n two_pos) (mod-lt b two_pos) (mod-lt c two_pos)
    ∙ ap (differ (n % 2)) (sym (xor_mod b c 1)))
    ∙ sym (xor_step n (bit_xor b c)))

-- what is xored in twice is gone
pub twice_xor : (a b : ℕ) → bit_xor a (bit_xor a b) ≡ b
twice_xor a b = sym (xor_assoc a a b) ∙ ap (λ (x : ℕ). bit_xor x b) (xor_self a)

-- ---- lists

pub xors-nil : (a : List ℕ) → xors a [] ≡ a
unfolding xors
xors-nil [] = refl
xors-nil (x ∷ a) = refl

pub length-xors : (a b : List ℕ) → length a ≡ length b → length (xors a b) ≡ length b
unfolding xors
length-xors [] b h = refl
length-xors (x ∷ a) [] h = let z : ⊥ = omega arith in absurd z
length-xors (x ∷ a) (y ∷ b) h = ap suc (length-xors a b (suc_inj h))

pub get_or-xors : (a b : List ℕ) (i : ℕ) → get_or (xors a b) i 0 ≡ bit_xor (get_or a i 0) (get_or b i 0)
unfolding xors
get_or-xors [] b i = refl
get_or-xors (x ∷ a) [] i = sym (xor_zero_r (get_or (x ∷ a) i 0))
get_or-xors (x ∷ a) (y ∷ b) zero = refl
get_or-xors (x ∷ a) (y ∷ b) (suc i) = get_or-xors a b i

pub take-xors : (n : ℕ) (a b : List ℕ) → take n (xors a b) ≡ xors (take n a) (take n b)
unfolding xors
take-xors zero a b = refl
take-xors (suc n) [] b = refl
take-xors (suc n) (x ∷ a) [] = refl
take-xors (suc n) (x ∷ a) (y ∷ b) = ap (λ (l : List ℕ). bit_xor x y ∷ l) (take-xors n a b)

pub drop-xors : (n : ℕ) (a b : List ℕ) → drop n (xors a b) ≡ xors (drop n a) (drop n b)
unfolding xors
drop-xors zero a b = refl
drop-xors (suc n) [] b = refl
drop-xors (suc n) (x ∷ a) [] = sym (xors-nil (drop n a))
drop-xors (suc n) (x ∷ a) (y ∷ b) = drop-xors n a b

pub run_xors : (n i : ℕ) (a b : List ℕ) → run n i (xors a b) ≡ xors (run n i a) (run n i b)
run_xors n i a b = ap (take n) (drop-xors (i * n) a b) ∙ take-xors n (drop (i * n) a) (drop (i * n) b)

pub xors-append : (a b c d : List ℕ) → length a ≡ length c → xors (a ++ b) (c ++ d) ≡ xors a c ++ xors b d
unfolding xors
xors-append [] b [] d h = refl
xors-append [] b (y ∷ c) d h = let z : ⊥ = omega arith in absurd z
xors-append (x ∷ a) b [] d h = let z : ⊥ = omega arith in absurd z
xors-append (x ∷ a) b (y ∷ c) d h = ap (λ (l : List ℕ). bit_xor x y ∷ l) (xors-append a b c d (suc_inj h))

pub xors_cut : (n : ℕ) (a b l : List ℕ) → length a ≡ n → n ≤ length l → xors (a ++ b) l ≡ xors a (take n l) ++ xors b (drop n l)
xors_cut n a b l e h =
    ap (xors (a ++ b)) (sym (take-append-drop n l)) ∙ xors-append a b (take n l) (drop n l) (e ∙ sym (length-take-le n l h))

pub xors-zeros : (l : List ℕ) (n : ℕ) → length l ≤ n → xors l (replicate n 0) ≡ l ++ replicate (n - length l) 0
unfolding xors
xors-zeros [] n h = rw sub-zero
xors-zeros (x ∷ l) zero h = absurd (not-suc-le-zero h)
xors-zeros (x ∷ l) (suc n) h = (λ k. xor_zero_r x k ∷ xors-zeros l n (le_of_suc-le-suc h) k) ∙ rw suc-sub-suc

pub xor_at-xors : (a b : List ℕ) (i v : ℕ) → i < length b → xor_at (xors a b) i v ≡ xors a (xor_at b i v)
unfolding xors
xor_at-xors [] b i v h = refl
xor_at-xors (x ∷ a) [] i v h = absurd (not-suc-le-zero h)
xor_at-xors (x ∷ a) (y ∷ b) zero v h = ap (λ (t : ℕ). t ∷ xors a b) (xor_assoc x y v)
xor_at-xors (x ∷ a) (y ∷ b) (suc i) v h = ap (λ (t : List ℕ). bit_xor x y ∷ t) (xor_at-xors a b i v (le_of_suc-le-suc h))
