-- A text laid over bytes at a place, where there is room for it.
-- Assumes nothing.
use Rattle.std.specs.Prelude.{cond, List, ◌++◌, ℕ, ◌+◌, leb, length, take, drop}

-- x over l, from a place on
unfoldable pub laid : List ℕ → ℕ → List ℕ → List ℕ
laid l at x = take at l ++ (x ++ drop (at + length x) l)

-- the same where x has room, else l as it was; and the place behind x, or the same place
unfoldable pub put_at : List ℕ → ℕ → List ℕ → List ℕ
put_at x at l = cond (leb (at + length x) (length l)) (laid l at x) l

unfoldable pub put_end : List ℕ → ℕ → List ℕ → ℕ
put_end x at l = cond (leb (at + length x) (length l)) (at + length x) at
