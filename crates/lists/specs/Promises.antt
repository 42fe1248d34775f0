-- What is promised of lists, of any text and whatever reading gives for it. Proved in proofs/Exact.antt and LineFields.antt.
-- Assumes nothing.
use Rattle.std.specs.Prelude.{◌≡◌, ◌↔◌, List, [], ◌++◌, ℕ, ◌-◌, ◌<◌, ◌≤◌, ◌^◌, take, drop, Ok, Err}
use Rattle.rules.specs.Rules.{longest_job}
use Rattle.cutting.specs.Cutting.{count_of}
use Rattle.decimal.specs.Decimal.{num_text}
use Rattle.fields.specs.Fields.{field_at}
use Rattle.lists.specs.Lists.{line_text, list_text}
use Rattle.lists.specs.Written.{CanWrite}
use Rattle.lists.specs.Readings.{Reading, ReadAs, IsTaken}

-- reading takes exactly the texts that the writer can write
abbrev pub TakesExactly : Type 0
TakesExactly = (t : List ℕ) (a : Reading) → ReadAs t a → IsTaken a ↔ CanWrite t

-- and gives back what they were written from
abbrev pub ReadsBack : Type 0
ReadsBack = (job revision n : ℕ) (a : Reading) → job < 2 ^ 64 → revision < 2 ^ 64 → n ≤ longest_job → ReadAs (list_text job revision n) a → a ≡ Ok (record { job = job; revision = revision; segments = count_of n; body = n })

-- a text is read in one way: it has one job, revision and length, or one first bad line
abbrev pub ReadsOneWay : Type 0
ReadsOneWay = (t : List ℕ) (a b : Reading) → ReadAs t a → ReadAs t b → a ≡ b

-- an empty file is refused at line 1
abbrev pub RefusesEmpty : Type 0
RefusesEmpty = (a : Reading) → ReadAs [] a → a ≡ Err (record { line = 1 })

-- ---- A reader of fields on a list

-- the bytes of the field at a place, and the place to which the reader steps
abbrev pub bytes_at : List ℕ → ℕ → List ℕ
bytes_at t at = take ((field_at t at).to - (field_at t at).from) (drop (field_at t at).from t)

abbrev pub next_at : List ℕ → ℕ → ℕ
next_at t at = (field_at t at).next

-- four fields from a place are the texts of these numbers, and behind them stands the rest
pub record FourFields (t : List ℕ) (at job revision index n : ℕ) (rest : List ℕ) : Type 0 where
  pub first : bytes_at t at ≡ num_text job
  pub second : bytes_at t (next_at t at) ≡ num_text revision
  pub third : bytes_at t (next_at t (next_at t at)) ≡ num_text index
  pub fourth : bytes_at t (next_at t (next_at t (next_at t at))) ≡ num_text n
  pub behind : drop (next_at t (next_at t (next_at t (next_at t at)))) t ≡ rest

-- where a line stands
abbrev pub GivesFields : Type 0
GivesFields = (t : List ℕ) (at job revision index n : ℕ) (rest : List ℕ) → drop at t ≡ line_text job revision index n ++ rest → FourFields t at job revision index n rest
