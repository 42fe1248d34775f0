-- Demands 1 and 2 of sealing and opening in one call, in numbers and bytes, and what is reported of the runs of P: what a caller may rely on, of a call as it was made.
-- `text` is the body in sealing and the sealed text in opening; `before` and `after` are what the output held when the call came and when it ended.
-- Assumes nothing.
use Rattle.std.specs.Prelude.{◌≡◌, ◌⊎◌, ◌↔◌, ◌≢◌, List, ℕ, ◌-◌, length, replicate}
use Rattle.norx.specs.Norx.{Width, bits, tag_bits, sealed, recovered}
use Rattle.norx.specs.Runs.{counted_runs}
use Rattle.norx.specs.Texts.{SealsTo}
use Rattle.rules.specs.Limits.{widths_length, SealLimits, OpenLimits}
use Rattle.rules.specs.Runs.{ReportsRuns}

-- ---- Demand 1

-- an answer that is neither 0 nor 10 leaves every byte as it was, and 10 leaves zeros
pub record LeavesBytes (before : List ℕ) (answer : ℕ) (after : List ℕ) : Type 0 where
  pub kept : answer ≢ 0 → answer ≢ 10 → after ≡ before
  pub zeroed : answer ≡ 10 → after ≡ replicate (length before) 0

-- ---- Demand 2

module _ (w : Width) (l : ℕ) (key nonce header text trailer before : List ℕ) where
  abbrev pub MaySeal : Type 0
  MaySeal = SealLimits w l (length key) (length nonce) (length header) (length text) (length trailer) (length before)

  abbrev pub MayOpen : Type 0
  MayOpen = OpenLimits w l (length key) (length nonce) (length header) (length text) (length trailer) (length before)

module _ (w : Width) (l : ℕ) (key nonce header text trailer before : List ℕ) (answer runs : ℕ) (after : List ℕ) where
  pub record Seals : Type 0 where
    -- where the limits are kept the answer is 0, and the output is what NORX 3.0 defines
    pub as_defined : MaySeal w l key nonce header text trailer before → (answer ≡ 0) × (after ≡ sealed w l (tag_bits w) key nonce header text trailer)
    -- 0 is answered nowhere else
    pub only_there : answer ≡ 0 → MaySeal w l key nonce header text trailer before
    -- and 10 nowhere: no tag is compared
    pub never_10 : answer ≢ 10
    pub leaves : LeavesBytes before answer after
    -- P ran as often as in the definition
    pub reports : ReportsRuns w (counted_runs w l (tag_bits w) key nonce header text trailer) (length header) (length text) (length trailer) answer runs

  pub record Opens : Type 0 where
    -- where the limits are kept a message is handed out, with 0, exactly when it seals to the text
    pub handed_out : MayOpen w l key nonce header text trailer before
        → (M : List ℕ) → ((answer ≡ 0) × (after ≡ M)) ↔ SealsTo w l (tag_bits w) key nonce header trailer text M
    -- and the text is refused, with 10 and zeros, exactly when no message does
    pub refused : MayOpen w l key nonce header text trailer before
        → ((answer ≡ 10) × (after ≡ replicate (length before) 0)) ↔ ((M : List ℕ) → SealsTo w l (tag_bits w) key nonce header trailer text M → ⊥)
    -- one of the two is answered exactly where the limits are kept
    pub looked_at : ((answer ≡ 0) ⊎ (answer ≡ 10)) ↔ MayOpen w l key nonce header text trailer before
    pub leaves : LeavesBytes before answer after
    -- P ran as often as in sealing the message that the text would be of
    pub reports :
        ReportsRuns w (counted_runs w l (tag_bits w) key nonce header (recovered w l (tag_bits w) key nonce header text) trailer)
        (length header) (length text - widths_length w) (length trailer) answer runs

-- ---- The same where the width is given as a number

pub record AtWidth (Promise : Width → Type 0) (width : ℕ) (before : List ℕ) (answer runs : ℕ) (after : List ℕ) : Type 0 where
  -- what is promised at the width that the number means
  pub at_width : (w : Width) → width ≡ bits w → Promise w
  -- 11 exactly where it means none, and no run of P
  pub no_width : (answer ≡ 11) ↔ ((width ≢ 32) × (width ≢ 64))
  pub no_run : answer ≡ 11 → runs ≡ 0
  pub leaves : LeavesBytes before answer after

module _ (width l : ℕ) (key nonce header text trailer before : List ℕ) (answer runs : ℕ) (after : List ℕ) where
  abbrev pub SealsAt : Type 0
  SealsAt = AtWidth (λ w. Seals w l key nonce header text trailer before answer runs after) width before answer runs after

  abbrev pub OpensAt : Type 0
  OpensAt = AtWidth (λ w. Opens w l key nonce header text trailer before answer runs after) width before answer runs after
