-- The lines of a text, each with its newline, the last perhaps without; and the first bad one of a text that is no list.
-- Assumes nothing.
use Rattle.std.specs.Prelude.{cond, List, [], ◌∷◌, ◌++◌, ℕ, zero, suc, ◌<◌, ◌≤◌, eqb}
use Rattle.fields.specs.Fields.{newline}
use Rattle.lists.specs.Lists.{IsList}

-- a text up to and with its first newline, all of it where there is none; and what stands behind that
unfoldable pub first_line : List ℕ → List ℕ
first_line [] = []
first_line (b ∷ t) = b ∷ cond (eqb b newline) [] (first_line t)

unfoldable pub after_line : List ℕ → List ℕ
after_line [] = []
after_line (b ∷ t) = cond (eqb b newline) t (after_line t)

-- what stands behind the first n lines; and the first n lines, all of a text that has fewer
unfoldable pub after_lines : ℕ → List ℕ → List ℕ
after_lines zero t = t
after_lines (suc n) t = after_line (after_lines n t)

unfoldable pub first_lines : ℕ → List ℕ → List ℕ
first_lines zero t = []
first_lines (suc n) t = first_lines n t ++ first_line (after_lines n t)

-- n is the number, from 1, of the first bad line: the earliest whose first n lines are not themselves a list
pub record FirstBad (t : List ℕ) (n : ℕ) : Type 0 where
  pub from : 1 ≤ n
  pub bad : IsList (first_lines n t) → ⊥
  pub good : (m : ℕ) → 1 ≤ m → m < n → IsList (first_lines m t)
