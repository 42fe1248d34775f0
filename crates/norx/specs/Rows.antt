-- The steps of G in four columns at once, whose words stand in rows; the laws in proofs/Steps.antt say that they are G on the columns.
-- Assumes nothing.
use Rattle.std.specs.Prelude.{List, [], ◌∷◌, ℕ}
use Rattle.norx.specs.Norx.{Width, State, ror, h_of, row, word_at, xor_row}

-- H of the words of two rows
unfoldable pub h_row : Width → List ℕ → List ℕ → List ℕ
h_row w x y = row (h_of w (word_at x 0) (word_at y 0)) (h_of w (word_at x 1) (word_at y 1)) (h_of w (word_at x 2) (word_at y 2)) (h_of w (word_at x 3) (word_at y 3))

-- the words of a row, each rotated right by r
unfoldable pub ror_row : Width → ℕ → List ℕ → List ℕ
ror_row w r x = row (ror w r (word_at x 0)) (ror w r (word_at x 1)) (ror w r (word_at x 2)) (ror w r (word_at x 3))

-- one step of G: H of two rows, and a third row xored with that and rotated right by r
abbrev pub stepped : Width → ℕ → List ℕ → List ℕ → List ℕ → State
stepped w r x y z = h_row w x y ∷ ror_row w r (xor_row (h_row w x y) z) ∷ []
