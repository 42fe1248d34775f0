-- No two segments of a job have one nonce: index and flag can be read back from it.
-- Assumes nothing.
use Rattle.std.specs.Prelude.{ℕ, ◌<◌, ◌≡◌, Bool, List}
use Rattle.segments.specs.Segments.{segment_nonce}

abbrev pub OneNonceEach : Type 0
OneNonceEach =
    (nonce : List ℕ) (i j : ℕ) (a b : Bool) → i < 1048576 → j < 1048576 → segment_nonce nonce i a ≡ segment_nonce nonce j b → (i ≡ j) × (a ≡ b)
