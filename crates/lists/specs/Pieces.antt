-- A list in the pieces that the code writes and compares. Nothing of a list is defined here: proofs/OneLine.antt and Writing.antt show that these are pieces of it.
-- Assumes nothing.
use Rattle.std.specs.Prelude.{List, [], ◌∷◌, ◌++◌, ℕ, zero, suc, ◌+◌, length}
use Rattle.cutting.specs.Cutting.{count_of}
use Rattle.decimal.specs.Decimal.{num_text}
use Rattle.fields.specs.Fields.{tab}
use Rattle.lists.specs.Lists.{line_of, segment_length, lines_of}

-- a line is its front, the same in each line of a list, and then the index and the body length
unfoldable pub front_text : ℕ → ℕ → List ℕ
front_text job revision = num_text job ++ (tab ∷ (num_text revision ++ (tab ∷ [])))

unfoldable pub rest_text : ℕ → ℕ → List ℕ
rest_text index body = line_of (num_text index ∷ num_text body ∷ [])

-- the lines of a list from the front that they have
unfoldable pub lines_behind : List ℕ → ℕ → List ℕ
lines_behind front n = lines_of (λ i. front ++ rest_text i (segment_length n i)) (count_of n)

-- how many digits the indices below k have together
unfoldable pub index_digits : ℕ → ℕ
index_digits zero = 0
index_digits (suc k) = index_digits k + length (num_text k)
