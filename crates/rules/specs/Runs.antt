-- How many times P runs in one call, and what a call reports of it; and the largest number within the limits.
-- Assumes nothing.
use Rattle.std.specs.Prelude.{◌≡◌, cond, ◌⊎◌, ◌≢◌, List, ℕ, ◌-◌, ◌≤◌, length}
use Rattle.norx.specs.Norx.{Width, word32, word64}
use Rattle.norx.specs.Runs.{sealing_runs}
use Rattle.answers.specs.Answers.{number_of, runs_with}
use Rattle.rules.specs.Rules.{within, tag_bytes}
use Rattle.rules.specs.OneCall.{seal_answer, open_answer}
use Rattle.rules.specs.Limits.{PartLimits}

-- the number for parts of these lengths; 0 where one is over its limit
abbrev pub runs_within : Width → ℕ → ℕ → ℕ → ℕ
runs_within w header body trailer = cond (within header body trailer) (sealing_runs w header body trailer) 0

-- what a sealing and an opening report with their answers; `text` is the body in sealing, and the sealed text in opening
module _ (w : Width) (l : ℕ) (key nonce header text trailer out : List ℕ) where
  unfoldable pub seal_runs : ℕ
  seal_runs = runs_with (seal_answer w l key nonce header text trailer out) (sealing_runs w (length header) (length text) (length trailer))

  unfoldable pub open_runs : ℕ
  open_runs = runs_with (open_answer w l key nonce header text trailer out) (sealing_runs w (length header) (length text - tag_bytes w) (length trailer))

-- ---- The largest number within the limits

abbrev pub most_runs : Width → ℕ
most_runs word32 = 352261
most_runs word64 = 176132

-- a sealing that is answered 0 and reports so many
pub record SealingOf (w : Width) (l runs : ℕ) : Type 0 where
  pub key : List ℕ
  pub nonce : List ℕ
  pub header : List ℕ
  pub body : List ℕ
  pub trailer : List ℕ
  pub out : List ℕ
  pub answered : number_of (seal_answer w l key nonce header body trailer out) ≡ 0
  pub reports : seal_runs w l key nonce header body trailer out ≡ runs

-- some sealing reaches it, at either number of rounds, and no lengths within the limits pass it
pub record LargestRuns (w : Width) : Type 0 where
  pub reached : (l : ℕ) → (l ≡ 4) ⊎ (l ≡ 6) → SealingOf w l (most_runs w)
  pub never_more : (header body trailer : ℕ) → PartLimits header body trailer → sealing_runs w header body trailer ≤ most_runs w

-- ---- What is promised of a number that is reported

-- `full` is the number in the definition, and header, body and trailer are the lengths that the formula asks for
pub record ReportsRuns (w : Width) (full header body trailer answer runs : ℕ) : Type 0 where
  -- 0 and 10 report the full number
  pub in_full : (answer ≡ 0) ⊎ (answer ≡ 10) → (runs ≡ full) × (runs ≡ sealing_runs w header body trailer)
  -- and every other refusal 0
  pub else_none : answer ≢ 0 → answer ≢ 10 → runs ≡ 0
  pub at_most : runs ≤ most_runs w
