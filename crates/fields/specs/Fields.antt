-- Fields of a text: the bytes of the one at a place, and where it stands.
-- Assumes nothing.
use Rattle.std.specs.Prelude.{Bool, cond, ◌||◌, List, [], ◌∷◌, ℕ, ◌+◌, ltb, eqb, length, drop}
use Rattle.fields.specs.declared.Field.{Field}

abbrev pub tab : ℕ
tab = 9

abbrev pub newline : ℕ
newline = 10

-- a byte that ends a field
abbrev pub ends : ℕ → Bool
ends b = eqb b tab || eqb b newline

-- the bytes up to the next tab, newline or end
unfoldable pub field_of : List ℕ → List ℕ
field_of [] = []
field_of (b ∷ t) = cond (ends b) [] (b ∷ field_of t)

-- a place past the end of a text is its end
abbrev pub within : List ℕ → ℕ → ℕ
within t at = cond (ltb at (length t)) at (length t)

-- where the field at a place ends
abbrev pub field_end : List ℕ → ℕ → ℕ
field_end t at = within t at + length (field_of (drop at t))

-- the field at a place: where it begins and ends, and the place behind what ended it
unfoldable pub field_at : List ℕ → ℕ → Field
field_at t at = record { from = within t at; to = field_end t at; next = within t (field_end t at + 1) }
