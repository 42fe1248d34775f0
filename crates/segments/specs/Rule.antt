-- What the rule and the limits ask of a segment, in the requirement's own numbers and apart from the checks that code makes.
-- Assumes nothing.
use Rattle.std.specs.Prelude.{ℕ, ◌-◌, ◌≤◌, ◌≡◌, ◌⊎◌, Bool, true, false}
use Rattle.norx.specs.Norx.{Width, word32, word64}
use Rattle.rules.specs.Limits.{widths_length}

-- segment i may have n bytes: the last 1 to 65,536, or none at index 0, and any other 65,536; index 1,048,575 is for a last one, and none is higher
abbrev pub Rule : ℕ → Bool → ℕ → Type 0
Rule i true n = (n ≤ 65536) × (((1 ≤ n) ⊎ (i ≡ 0)) × (i ≤ 1048575))
Rule i false n = (n ≡ 65536) × (i ≤ 1048574)

-- a job's nonce is 8 bytes at 32 bits, and 24 at 64
abbrev pub job_nonce_length : Width → ℕ
job_nonce_length word32 = 8
job_nonce_length word64 = 24

-- what a call on a segment asks of all but the segment itself; every number but the rounds is a length
pub record JobLimits (w : Width) (l key nonce note : ℕ) : Type 0 where
  pub rounds : (l ≡ 4) ⊎ (l ≡ 6)
  pub key_long : key ≡ widths_length w
  pub nonce_long : nonce ≡ job_nonce_length w
  pub note_within : note ≤ 65520

-- a sealed segment of n bytes has a length that the rule allows
abbrev pub SealedRule : Width → ℕ → Bool → ℕ → Type 0
SealedRule w i last n = (widths_length w ≤ n) × Rule i last (n - widths_length w)
