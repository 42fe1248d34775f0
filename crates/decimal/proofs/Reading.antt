-- What one byte, and one byte behind a number, are read as; and that a text is one number or none.
-- Assumes nothing.
use mathlib.Core.Path.{◌≡◌, refl, sym, ap, ap₂, ◌∙◌}
use mathlib.Core.Logic.{⊎_elim}
use mathlib.Core.List.{List, [], ◌∷◌, ◌++◌, head-eq_of_cons-eq}
use Prim.Native.Nat.{ℕ, ◌+◌, ◌-◌, ◌*◌, ◌/◌, ◌%◌, ◌<◌, ◌≤◌, ◌^◌}
use native.Mathlib.Omega.{arith}
use lib.ListN.{length}
use Rattle.std.specs.Prelude.{Option, Some, None}
use Rattle.std.specs.Char.{IsAsciiDigit, IsNotAsciiDigit}
use Rattle.std.specs.Option.{SomeIff}
use Rattle.std.proofs.lemmas.Bool.{cases_lt}
use Rattle.decimal.specs.Decimal.{digit, num_text, NumberIs}
use Rattle.decimal.proofs.Digits.{num_small, num_more, length_more, length_pos, num_inj, num_snoc}

-- a number's text of one byte
pub one_inv : (b n : ℕ) → b ∷ [] ≡ num_text n → (b ≡ digit n) × (n < 10)
one_inv b n e =
    ⊎_elim (λ h. (head-eq_of_cons-eq (e ∙ num_small n h), h))
    (λ h. absurd (omega (arith, ap length e, length_more n h, length_pos (n / 10)))) (cases_lt n 10)

pub one_is : (b : ℕ) → 48 ≤ b → b ≤ 57 → b ∷ [] ≡ num_text (b - 48)
one_is b lo hi =
    let e : b ≡ digit (b - 48) = omega arith in
    ap (λ (k : ℕ). k ∷ []) e ∙ sym (num_small (b - 48) (omega arith))

-- a byte that is a digit by the library's test of it, and one that is not
pub digit_byte : (b d : ℕ) → IsAsciiDigit b → d ≡ b - 48 → NumberIs (b ∷ []) (Some d)
digit_byte b d h e = (omega arith, one_is b (omega arith) (omega arith) ∙ ap num_text (sym e))

pub other_byte : (b : ℕ) → IsNotAsciiDigit b → NumberIs (b ∷ []) None
other_byte b h n lt e = omega (arith, one_inv b n e)

-- v's text and a digit more: that of v * 10 + d, and of no number where v is 0
pub more_is : (v d : ℕ) → 1 ≤ v → d < 10 → num_text v ++ (digit d ∷ []) ≡ num_text (v * 10 + d)
more_is v d p h =
    let q : v ≡ (v * 10 + d) / 10 = omega arith in
    let r : digit d ≡ digit ((v * 10 + d) % 10) = omega arith in
    ap₂ (λ (m k : ℕ). num_text m ++ (k ∷ [])) q r ∙ sym (num_more (v * 10 + d) (omega arith))

pub more_inv : (v d m : ℕ) → d < 10 → num_text v ++ (digit d ∷ []) ≡ num_text m → (m ≡ v * 10 + d) × (1 ≤ v)
more_inv v d m h e = let s = num_snoc v (digit d) m e in (omega (arith, s), omega (arith, s))

-- the sum where it has 64 bits, and else no number
pub more_number : (v d : ℕ) (r : Option ℕ) → 1 ≤ v → d < 10 → SomeIff r (v * 10 + d < 2 ^ 64) (v * 10 + d) → NumberIs (num_text v ++ (digit d ∷ [])) r
more_number v d (Some n) p h is = (omega (arith, is), more_is v d p h ∙ ap num_text (sym is.1))
more_number v d None p h is = λ n lt e. is (omega (arith, (more_inv v d n h e).0))

-- a text is one number, or none
pub number_unique : (d : List ℕ) (a b : Option ℕ) → NumberIs d a → NumberIs d b → a ≡ b
number_unique d (Some m) (Some n) p q = ap Some (num_inj m n (sym p.1 ∙ q.1))
number_unique d (Some m) None p q = absurd (q m p.0 p.1)
number_unique d None (Some n) p q = absurd (p n q.0 q.1)
number_unique d None None p q = refl
