-- The largest number of runs of P for one segment, per width.
-- Assumes nothing.
use Rattle.std.specs.Prelude.{ℕ, ◌+◌, ◌≤◌, ◌≡◌, Bool, ◌⊎◌, List}
use Rattle.norx.specs.Norx.{Width, word32, word64}
use Rattle.norx.specs.Runs.{sealing_runs}
use Rattle.answers.specs.Answers.{number_of}
use Rattle.places.specs.declared.terms.Terms.{Terms}
use Rattle.segments.specs.Rule.{Rule}
use Rattle.segments.specs.Segments.{segment_answer, segment_runs}

abbrev pub most_segment_runs : Width → ℕ
most_segment_runs word32 = 2735
most_segment_runs word64 = 1369

-- a segment whose sealing is answered 0 and reports so many
pub record SegmentOf (w : Width) (T : Terms) (runs : ℕ) : Type 0 where
  pub key : List ℕ
  pub nonce : List ℕ
  pub note : List ℕ
  pub index : ℕ
  pub last : Bool
  pub body : List ℕ
  pub out : List ℕ
  pub answered : number_of (segment_answer w key nonce T note index last body out) ≡ 0
  pub reports : segment_runs w key nonce T note index last body out ≡ runs

-- some segment of any job reaches it, at either number of rounds, and no lengths that rule and limits allow pass it; 16 bytes stand in front of the note
pub record LargestSegmentRuns (w : Width) : Type 0 where
  pub reached : (T : Terms) → (T.rounds ≡ 4) ⊎ (T.rounds ≡ 6) → SegmentOf w T (most_segment_runs w)
  pub never_more : (i : ℕ) (last : Bool) (n note : ℕ) → Rule i last n → note ≤ 65520 → sealing_runs w (16 + note) n 0 ≤ most_segment_runs w
