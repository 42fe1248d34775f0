-- The requirements' own example, and an empty job, computed from the definition.
-- Assumes nothing.
use mathlib.Core.Path.{◌≡◌, refl}
use mathlib.Core.List.{[], ◌∷◌}
use Rattle.cutting.specs.Cutting.{count_of, begin_of, end_of}
use Rattle.decimal.specs.Decimal.{num_text, digits}
use Rattle.lists.specs.Lists.{line_of, line_text, segment_length, lines_of, list_text}

-- job 7, revision 3, of 65,636 bytes: `7 3 0 65536` and `7 3 1 100`, with tabs for the blanks
two_lines : list_text 7 3 65636 ≡ 55 ∷ 9 ∷ 51 ∷ 9 ∷ 48 ∷ 9 ∷ 54 ∷ 53 ∷ 53 ∷ 51 ∷ 54 ∷ 10 ∷ 55 ∷ 9 ∷ 51 ∷ 9 ∷ 49 ∷ 9 ∷ 49 ∷ 48 ∷ 48 ∷ 10 ∷ []
unfolding list_text lines_of line_text line_of segment_length count_of begin_of end_of num_text digits
two_lines = refl

-- an empty job has one empty segment
empty_job : list_text 7 3 0 ≡ 55 ∷ 9 ∷ 51 ∷ 9 ∷ 48 ∷ 9 ∷ 48 ∷ 10 ∷ []
unfolding list_text lines_of line_text line_of segment_length count_of begin_of end_of num_text digits
empty_job = refl
