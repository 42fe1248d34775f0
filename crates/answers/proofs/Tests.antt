-- A test is true or false, and what a choice by it then is: the library's lemmas under short names, and a choice by two numbers.
-- Assumes nothing.
use mathlib.Core.Path.{◌≡◌, ◌∙◌}
use mathlib.Core.Bool.{cond}
use Prim.Native.Nat.{ℕ}
use borrow.Author.Tests.{eq-eqb}
use lib.Dec.{eqb}
pub use Rattle.std.proofs.lemmas.Bool.{cases_Bool as either, cond-true as cond_true, cond-false as cond_false}

-- a choice by two numbers that are known to be equal
pub cond_equal : {A : Type 0} {z : A} (x y : A) (m n : ℕ) → m ≡ n → z ≡ cond (eqb m n) x y → z ≡ x
cond_equal x y m n h e = e ∙ cond_true (eqb m n) x y (eq-eqb m n h)
