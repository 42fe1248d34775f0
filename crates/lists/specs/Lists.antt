-- A list of segments as text.
-- Assumes nothing.
use Rattle.std.specs.Prelude.{◌≡◌, List, [], ◌∷◌, ◌++◌, ℕ, zero, suc, ◌-◌, ◌<◌, ◌≤◌, ◌^◌}
use Rattle.rules.specs.Rules.{longest_job}
use Rattle.cutting.specs.Cutting.{count_of, begin_of, end_of}
use Rattle.decimal.specs.Decimal.{num_text}
use Rattle.fields.specs.Fields.{tab, newline}

-- a line: its fields parted by tabs, and a newline at the end
unfoldable pub line_of : List (List ℕ) → List ℕ
line_of [] = newline ∷ []
line_of (f ∷ []) = f ++ (newline ∷ [])
line_of (f ∷ g ∷ fields) = f ++ (tab ∷ line_of (g ∷ fields))

-- one segment: job, revision, index, body length
unfoldable pub line_text : ℕ → ℕ → ℕ → ℕ → List ℕ
line_text job revision index body = line_of (num_text job ∷ num_text revision ∷ num_text index ∷ num_text body ∷ [])

-- the bytes of segment i of a body of n bytes
unfoldable pub segment_length : ℕ → ℕ → ℕ
segment_length n i = end_of n i - begin_of n i

-- the first k of some lines
unfoldable pub lines_of : (ℕ → List ℕ) → ℕ → List ℕ
lines_of line zero = []
lines_of line (suc k) = lines_of line k ++ line k

-- line i of a job with a body of n bytes; and its list, a line for each segment
abbrev pub line_at : ℕ → ℕ → ℕ → ℕ → List ℕ
line_at job revision n i = line_text job revision i (segment_length n i)

unfoldable pub list_text : ℕ → ℕ → ℕ → List ℕ
list_text job revision n = lines_of (line_at job revision n) (count_of n)

-- t is the list of this job, revision and body length: numbers of 64 bits, and a body that segments can have
pub record ListOf (t : List ℕ) (job revision n : ℕ) : Type 0 where
  pub job_fits : job < 2 ^ 64
  pub revision_fits : revision < 2 ^ 64
  pub within : n ≤ longest_job
  pub text : t ≡ list_text job revision n

abbrev pub IsList : List ℕ → Type 0
IsList t = (job : ℕ) × (revision : ℕ) × (n : ℕ) × ListOf t job revision n
