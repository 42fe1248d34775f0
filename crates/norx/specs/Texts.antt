-- Texts of bytes, and the messages that seal to one: the words that promises are said in.
-- Assumes nothing.
use Rattle.std.specs.Prelude.{◌≡◌, List, ℕ, ◌<◌, get_or}
use Rattle.norx.specs.Norx.{Width, sealed}

-- each element is a byte
abbrev pub Bytes : List ℕ → Type 0
Bytes l = (i : ℕ) → get_or l i 0 < 256

-- M is a message, which is bytes, and seals to the text
abbrev pub SealsTo : Width → ℕ → ℕ → List ℕ → List ℕ → List ℕ → List ℕ → List ℕ → List ℕ → Type 0
SealsTo w l t key nonce header trailer text M = Bytes M × (sealed w l t key nonce header M trailer ≡ text)
