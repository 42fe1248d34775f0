-- What a list is read as, in the numbers of a C caller.
-- Assumes nothing.
use Rattle.std.specs.Prelude.{◌≡◌, ◌↔◌, List, ℕ, Ok, Err}
use Rattle.lists.specs.Written.{CanWrite}
use Rattle.lists.specs.Readings.{Reading, ReadAs}
use Rattle.jeczmilot.specs.declared.ListNumbers.{ListNumbers}

-- no bad line and what the list says, or the bad line and zeros
abbrev pub numbers_of : Reading → ListNumbers
numbers_of (Ok says) = record { bad = 0; job = says.job; revision = says.revision; segments = says.segments; length = says.body }
numbers_of (Err bad) = record { bad = bad.line; job = 0; revision = 0; segments = 0; length = 0 }

-- the numbers of what the text is read as
abbrev pub ReadAsNumbers : List ℕ → ListNumbers → Type 0
ReadAsNumbers t r = (reading : Reading) × ReadAs t reading × (r ≡ numbers_of reading)

-- promised of a C caller's numbers: 0 says that the text is one that the writer can write, and nothing else does
abbrev pub ZeroExactly : Type 0
ZeroExactly = (t : List ℕ) (r : ListNumbers) → ReadAsNumbers t r → (r.bad ≡ 0) ↔ CanWrite t
