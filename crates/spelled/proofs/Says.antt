-- Whether each byte of a word is a digit: what was read of each, and a test that says so.
-- Assumes nothing.
use mathlib.Core.Path.{◌≡◌}
use mathlib.Core.Bool.{Bool, true, false, true≢false, false≢true}
use mathlib.Core.List.{List}
use Prim.Native.Nat.{ℕ, ◌<◌}
use native.Mathlib.Omega.{arith}
use lib.ListN.{length}
use Rattle.std.specs.Prelude.{Option, Some, None, is_some}
use Rattle.std.specs.Bool.{MatchBool}
use Rattle.std.specs.List.{AllWithin, HoldsAt}
use Rattle.spelled.specs.Spelled.{IsDigit, DigitIs, AllDigits, Says}

-- what is read as a digit is one, and what is read as none is not
pub read_some : (b : ℕ) (r : Option ℕ) → DigitIs b r → is_some r ≡ true → IsDigit b
read_some b (Some d) p e = (d, p.0, p.1)
read_some b None none e = absurd (false≢true e)

pub read_none : (b : ℕ) (r : Option ℕ) → DigitIs b r → is_some r ≡ false → IsDigit b → ⊥
read_none b (Some d) p e = absurd (true≢false e)
read_none b None none e = none

-- each byte of a word is a digit, or one is none
pub says_all : (w : List ℕ) (t : Bool) → MatchBool t (AllWithin IsDigit w 0 (length w)) ((k : ℕ) × (k < length w) × HoldsAt (λ b. IsDigit b → ⊥) w k) → Says (AllDigits w) t
says_all w true all = λ i h. all i 0 (omega arith) h
says_all w false (k, h, none) = λ all. none 0 (all k h)

-- a test that says so, turned round by the code
pub says_no : (P : Type 0) (t : Bool) → t ≡ false → Says P t → P → ⊥
says_no P true e said = absurd (true≢false e)
says_no P false e said = said
