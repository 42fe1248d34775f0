-- What the limits ask of a call, in the requirements' own numbers and apart from the checks that code makes. Every number but the rounds is a length in bytes.
-- Assumes nothing.
use Rattle.std.specs.Prelude.{◌≡◌, ◌⊎◌, ℕ, ◌+◌, ◌-◌, ◌≤◌}
use Rattle.norx.specs.Norx.{Width, word32, word64}

-- the width's length: of a key, of a nonce and of a tag
abbrev pub widths_length : Width → ℕ
widths_length word32 = 16
widths_length word64 = 32

-- what a start asks, and every call first: rounds are 4 or 6, and key and nonce have the width's length
pub record StartLimits (w : Width) (l key nonce : ℕ) : Type 0 where
  pub rounds : (l ≡ 4) ⊎ (l ≡ 6)
  pub key_long : key ≡ widths_length w
  pub nonce_long : nonce ≡ widths_length w

-- header and trailer 0 to 65,536 bytes each; body 0 to 16,777,216
pub record PartLimits (header body trailer : ℕ) : Type 0 where
  pub header_within : header ≤ 65536
  pub body_within : body ≤ 16777216
  pub trailer_within : trailer ≤ 65536

-- a sealing: the output has the exact length of body and tag
pub record SealLimits (w : Width) (l key nonce header body trailer out : ℕ) : Type 0 where
  pub begins : StartLimits w l key nonce
  pub parts : PartLimits header body trailer
  pub exact : out ≡ body + widths_length w

-- an opening: the text is at least a tag long, and the output has the exact length of the text less its tag
pub record OpenLimits (w : Width) (l key nonce header text trailer out : ℕ) : Type 0 where
  pub begins : StartLimits w l key nonce
  pub tagged : widths_length w ≤ text
  pub parts : PartLimits header (text - widths_length w) trailer
  pub exact : out ≡ text - widths_length w
