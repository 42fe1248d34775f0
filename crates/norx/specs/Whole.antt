-- What code can hold at a width: four rows of four of its words.
-- Assumes nothing.
use Rattle.std.specs.Prelude.{List, ℕ, ◌^◌, ◌<◌}
use Rattle.norx.specs.Norx.{Width, bits, State, row, rows}

-- x is a word
abbrev pub Word : Width → ℕ → Type 0
Word w x = x < 2 ^ bits w

pub data Words (w : Width) : List ℕ → Type 0 where
  four : {a b c d : ℕ} → Word w a → Word w b → Word w c → Word w d → Words w (row a b c d)

pub data Whole (w : Width) : State → Type 0 where
  four_rows : {a b c d : List ℕ} → Words w a → Words w b → Words w c → Words w d → Whole w (rows a b c d)
