-- What is promised of sealing one segment, of starting a receiver and of taking one segment, in numbers and bytes, over the width.
-- Assumes nothing.
use Rattle.std.specs.Prelude.{ℕ, ◌+◌, ◌-◌, ◌≤◌, ◌≡◌, ◌↔◌, ◌≢◌, Bool, true, false, List, [], length, replicate}
use Rattle.norx.specs.Norx.{Width, tag_bits, sealed, recovered}
use Rattle.norx.specs.Runs.{counted_runs}
use Rattle.norx.specs.Texts.{Bytes}
use Rattle.answers.specs.Answers.{number_of}
use Rattle.rules.specs.Limits.{widths_length}
use Rattle.rules.specs.Runs.{ReportsRuns}
use Rattle.places.specs.declared.terms.Terms.{Terms}
use Rattle.cutting.specs.Cutting.{waiting_first}
use Rattle.sealing.specs.Promises.{LeavesBytes}
use Rattle.segments.specs.Rule.{Rule, JobLimits, SealedRule}
use Rattle.segments.specs.Runs.{most_segment_runs}
use Rattle.segments.specs.Segments.{segment_nonce, segment_header, segment_answer, segment_runs, segment_out}
use Rattle.segments.specs.Receivers.{Receiving, no_receiving, starts_answer, starts_with, taking_answer, taking_runs, taking_out, after_taking}

module _ (w : Width) (key nonce : List ℕ) (T : Terms) (note : List ℕ) (i : ℕ) (last : Bool) where
  abbrev pub InLimits : Type 0
  InLimits = JobLimits w T.rounds (length key) (length nonce) (length note)

  -- sealing, answered 0, gives the text for the message M, whatever output of the text's length is lent to it
  abbrev pub GivenBySealing : List ℕ → List ℕ → Type 0
  GivenBySealing M text =
      Bytes M
      × ((out : List ℕ) → length out ≡ length text
      → (number_of (segment_answer w key nonce T note i last M out) ≡ 0) × (segment_out w key nonce T note i last M out ≡ text))

  -- ---- Sealing a segment

  pub record SealsSegment (text out : List ℕ) : Type 0 where
    -- where rule and limits are kept the answer is 0, and the output is what NORX 3.0 defines, with the segment's nonce, the job's header and no trailer
    pub as_defined : Rule i last (length text) → InLimits → length out ≡ length text + widths_length w
        → (number_of (segment_answer w key nonce T note i last text out) ≡ 0)
        × (segment_out w key nonce T note i last text out ≡ sealed w T.rounds (tag_bits w) key (segment_nonce nonce i last) (segment_header T note) text [])
    -- 0 is answered nowhere else
    pub only_there : number_of (segment_answer w key nonce T note i last text out) ≡ 0
        → Rule i last (length text) × (InLimits × (length out ≡ length text + widths_length w))
    -- and 13 exactly where the rule is not kept
    pub wrong_length : (number_of (segment_answer w key nonce T note i last text out) ≡ 13) ↔ (Rule i last (length text) → ⊥)
    pub kept : number_of (segment_answer w key nonce T note i last text out) ≢ 0 → segment_out w key nonce T note i last text out ≡ out
    -- P ran as often as in the definition, with the 16 bytes in front of the note, and never more often than the largest segment asks
    pub reports :
        ReportsRuns w (counted_runs w T.rounds (tag_bits w) key (segment_nonce nonce i last) (segment_header T note) text []) (16 + length note) (length text) 0
        (number_of (segment_answer w key nonce T note i last text out)) (segment_runs w key nonce T note i last text out)
    pub at_most : segment_runs w key nonce T note i last text out ≤ most_segment_runs w

-- ---- Starting a receiver

module _ (w : Width) (key nonce : List ℕ) (T : Terms) where
  pub record StartsReceiver : Type 0 where
    -- a start is answered 0 exactly where the limits are kept (there is no note yet), and waits for the first segment
    pub within_limits : (number_of (starts_answer w key nonce T) ≡ 0) ↔ JobLimits w T.rounds (length key) (length nonce) 0
    pub begins : number_of (starts_answer w key nonce T) ≡ 0 → starts_with w key nonce T ≡ record { key = key; nonce = nonce; terms = T; waiting = waiting_first }
    -- and else every number is zero
    pub refused : number_of (starts_answer w key nonce T) ≢ 0 → starts_with w key nonce T ≡ no_receiving w

-- ---- Taking a segment

module _ (w : Width) (R : Receiving) (note : List ℕ) (last : Bool) (text out : List ℕ) where
  -- what sealing gives for the index that the receiver waits for, under its key, nonce and terms
  abbrev pub GivenFor : List ℕ → Type 0
  GivenFor M = GivenBySealing w R.key R.nonce R.terms note R.waiting.index last M text

  abbrev pub taking_number : ℕ
  taking_number = number_of (taking_answer w R note last text out)

  pub record TakesSegment : Type 0 where
    -- with an output of the message's length, a receiver that is not complete hands out M exactly when sealing gives the text for M
    pub accepted : R.waiting.complete ≡ false → length text ≡ length out + widths_length w
        → (M : List ℕ) → ((taking_number ≡ 0) × (taking_out w R note last text out ≡ M)) ↔ GivenFor M
    -- and where rule and limits are kept and sealing gives it for no message, it is answered 10, with zeros
    pub refused : R.waiting.complete ≡ false → length text ≡ length out + widths_length w → Rule R.waiting.index last (length out)
        → JobLimits w R.terms.rounds (length R.key) (length R.nonce) (length note)
        → ((M : List ℕ) → GivenFor M → ⊥) → (taking_number ≡ 10) × (taking_out w R note last text out ≡ replicate (length out) 0)
    -- 14 exactly after the last, and 13 exactly where the length is not the rule's; 3 never
    pub after_last : (taking_number ≡ 14) ↔ (R.waiting.complete ≡ true)
    pub wrong_length : (taking_number ≡ 13) ↔ ((R.waiting.complete ≡ false) × (SealedRule w R.waiting.index last (length text) → ⊥))
    pub never_3 : taking_number ≢ 3
    -- an answer that is neither 0 nor 10 leaves every byte as it was, and 10 leaves zeros
    pub leaves : LeavesBytes out taking_number (taking_out w R note last text out)
    -- P ran as often as in sealing the message that the text would be of, with the 16 bytes in front of the note
    pub reports :
        ReportsRuns w
        (counted_runs w R.terms.rounds (tag_bits w) R.key (segment_nonce R.nonce R.waiting.index last) (segment_header R.terms note)
        (recovered w R.terms.rounds (tag_bits w) R.key (segment_nonce R.nonce R.waiting.index last) (segment_header R.terms note) text) [])
        (16 + length note) (length text - widths_length w) 0 taking_number (taking_runs w R note last text out)
    pub at_most : taking_runs w R note last text out ≤ most_segment_runs w
    -- only 0 moves the receiver: to the next index, and complete exactly if the segment was flagged last
    pub goes_on : taking_number ≡ 0
        → after_taking w R note last text out ≡ record { key = R.key; nonce = R.nonce; terms = R.terms; waiting = record { index = R.waiting.index + 1; complete = last } }
    pub stays : taking_number ≢ 0 → after_taking w R note last text out ≡ R
