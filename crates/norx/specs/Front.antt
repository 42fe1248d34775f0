-- What stands in front of the note in the header of a session.
-- Assumes nothing.
use Rattle.std.specs.Prelude.{List, ◌++◌, ℕ}
use Rattle.norx.specs.Norx.{bytes_of}

-- a number as eight bytes, least first
unfoldable pub eight_bytes : ℕ → List ℕ
eight_bytes n = bytes_of 8 n

-- the job number, then the revision
unfoldable pub front : ℕ → ℕ → List ℕ
front job revision = eight_bytes job ++ eight_bytes revision

abbrev pub front_bytes : ℕ
front_bytes = 16
