-- What stands at a place of a text: a number and what ends it, a line, and the line of an awaited segment.
-- Assumes nothing.
use Rattle.std.specs.Prelude.{◌≡◌, Bool, true, ◌&&◌, List, ◌∷◌, ◌++◌, ℕ, ◌<◌, ◌≤◌, ◌^◌, ltb, eqb, length, get_or, take, drop, Option, Some, None}
use Rattle.cutting.specs.Cutting.{segment_ok}
use Rattle.decimal.specs.Decimal.{num_text}
use Rattle.lists.specs.Lists.{line_text}
use Rattle.lists.specs.Pieces.{rest_text}
use Rattle.lists.specs.declared.line.Line.{Line}

-- whether the byte stop stands at a place; at the text's end none does
unfoldable pub ended_by : List ℕ → ℕ → ℕ → Bool
ended_by t at stop = ltb at (length t) && eqb (get_or t at 0) stop

-- the number at a place that the byte stop ends, and the place behind that byte
abbrev pub PartIs : List ℕ → ℕ → ℕ → Option (ℕ × ℕ) → Type 0
PartIs t at stop (Some (v, next)) = (v < 2 ^ 64) × (at < next) × (next ≤ length t) × (drop at t ≡ num_text v ++ (stop ∷ drop next t))
PartIs t at stop None = (v : ℕ) (rest : List ℕ) → v < 2 ^ 64 → drop at t ≡ num_text v ++ (stop ∷ rest) → ⊥

-- a line stands at a place, and ends at the other
pub record Stands (t : List ℕ) (at : ℕ) (line : List ℕ) (next : ℕ) : Type 0 where
  pub forward : at < next
  pub inside : next ≤ length t
  pub text : drop at t ≡ line ++ drop next t

-- the line of four numbers at a place
abbrev pub LineIs : List ℕ → ℕ → Option Line → Type 0
LineIs t at (Some l) = (l.job < 2 ^ 64) × (l.revision < 2 ^ 64) × (l.index < 2 ^ 64) × (l.body < 2 ^ 64) × Stands t at (line_text l.job l.revision l.index l.body) l.next
LineIs t at None = (j r i n : ℕ) (rest : List ℕ) → j < 2 ^ 64 → r < 2 ^ 64 → i < 2 ^ 64 → n < 2 ^ 64 → drop at t ≡ line_text j r i n ++ rest → ⊥

-- whether a first line can say this index and body length
unfoldable pub is_first : ℕ → ℕ → Bool
is_first index n = eqb index 0 && segment_ok 0 true n

-- index i at a place, and a body length that segment i can have as the last
abbrev pub RestIs : List ℕ → ℕ → ℕ → Option (ℕ × ℕ) → Type 0
RestIs t at i (Some (n, next)) = (segment_ok i true n ≡ true) × Stands t at (rest_text i n) next
RestIs t at i None = (n : ℕ) (rest : List ℕ) → segment_ok i true n ≡ true → drop at t ≡ rest_text i n ++ rest → ⊥

-- the same behind a front that is the text's first bytes
abbrev pub SegmentIs : List ℕ → ℕ → ℕ → ℕ → Option (ℕ × ℕ) → Type 0
SegmentIs t at front i (Some (n, next)) = (segment_ok i true n ≡ true) × Stands t at (take front t ++ rest_text i n) next
SegmentIs t at front i None = (n : ℕ) (rest : List ℕ) → segment_ok i true n ≡ true → drop at t ≡ (take front t ++ rest_text i n) ++ rest → ⊥
