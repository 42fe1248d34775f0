-- Demand 1 of a session, of any session at all and any call on it, in numbers: when it is not sound, when a call is of another job, what a refusal leaves, what a close leaves, and what it reports.
-- Assumes nothing.
use Rattle.std.specs.Prelude.{ℕ, ◌+◌, ◌≤◌, ◌≡◌, ◌⊎◌, ◌↔◌, ◌≢◌, List}
use Rattle.norx.specs.Runs.{sealing_runs}
use Rattle.rules.specs.Runs.{ReportsRuns}
use Rattle.places.specs.declared.terms.Edition.{Edition}
use Rattle.places.specs.declared.Part.{Part}
use Rattle.places.specs.declared.Part.TheVariants.{Note, Body, Trailer}
use Rattle.places.specs.declared.Standing.TheVariants.{Closed, Open}
use Rattle.places.specs.declared.Label.{Label}
use Rattle.places.specs.declared.Place.{Place}
use Rattle.session.specs.Sessions.{Kind, closed_of, piece_of, piece_out, close_of, close_runs, close_tag}
use Rattle.session.specs.Offered.{piece_number, close_number}

-- the most bytes of a part in a session
abbrev pub most : Part → ℕ
most Note = 65520
most Body = 16777216
most Trailer = 65536

-- the counts of the parts behind one are 0
abbrev pub Unreached : Part → Place → Type 0
Unreached Note p = (p.body ≡ 0) × (p.trailer ≡ 0)
Unreached Body p = p.trailer ≡ 0
Unreached Trailer p = Unit {0}

-- sound: open, rounds 4 or 6, no count over its limit, counts of parts not yet reached 0
pub record Sound (p : Place) : Type 0 where
  pub part : Part
  pub is_open : p.standing ≡ Open part
  pub rounds : (p.terms.rounds ≡ 4) ⊎ (p.terms.rounds ≡ 6)
  pub note_within : p.note ≤ most Note
  pub body_within : p.body ≤ most Body
  pub trailer_within : p.trailer ≤ most Trailer
  pub unreached : Unreached part p

module _ (K : Kind) where
  -- 9 exactly where a session is not sound
  pub record RefusesUnsound : Type 0 where
    pub pieces : (s : K.Session) (label : Label) (x out : List ℕ) → (piece_number K s label x out ≡ 9) ↔ (Sound (K.place s) → ⊥)
    pub closes : (s : K.Session) (edition : Edition) (tag : List ℕ) → (close_number K s edition tag ≡ 9) ↔ (Sound (K.place s) → ⊥)

  -- 12 exactly where a sound session is offered a piece of another job, or is to be closed under one, whatever else is wrong with the call
  pub record RefusesOtherJobs : Type 0 where
    pub pieces : (s : K.Session) (label : Label) (x out : List ℕ)
        → (piece_number K s label x out ≡ 12) ↔ (Sound (K.place s) × (label.edition.job ≢ (K.place s).terms.edition.job))
    pub closes : (s : K.Session) (edition : Edition) (tag : List ℕ)
        → (close_number K s edition tag ≡ 12) ↔ (Sound (K.place s) × (edition.job ≢ (K.place s).terms.edition.job))

  -- a piece that is not answered 0, and a close that is answered neither 0 nor 10, give back the session and the buffer as they were
  -- (a checking session is lent nothing that it could write to)
  pub record RefusalChangesNothing : Type 0 where
    pub pieces : (s : K.Session) (label : Label) (x out : List ℕ) → piece_number K s label x out ≢ 0
        → (K.next (piece_of K s label x out) ≡ s) × (piece_out K s label x out ≡ out)
    pub closes : (s : K.Session) (edition : Edition) (tag : List ℕ) → close_number K s edition tag ≢ 0 → close_number K s edition tag ≢ 10
        → (K.next (close_of K s edition tag) ≡ s) × (close_tag K s edition tag ≡ tag)

  -- a close that is answered 0 or 10 gives back the closed session
  abbrev pub CloseEnds : Type 0
  CloseEnds =
      (s : K.Session) (edition : Edition) (tag : List ℕ) → (close_number K s edition tag ≡ 0) ⊎ (close_number K s edition tag ≡ 10)
      → K.next (close_of K s edition tag) ≡ closed_of K

  -- a close of any session at all reports the runs of P in the whole sealing, by the counts that the session holds and the 16 bytes in front of its note
  abbrev pub ReportsCloses : Type 0
  ReportsCloses =
      (s : K.Session) (edition : Edition) (tag : List ℕ)
      → ReportsRuns K.width (sealing_runs K.width (16 + (K.place s).note) (K.place s).body (K.place s).trailer) (16 + (K.place s).note) (K.place s).body
      (K.place s).trailer (close_number K s edition tag) (close_runs K s edition tag)

  -- the session that a close gives back is closed, and a closed session refuses every call with 9
  pub record ClosedRefuses : Type 0 where
    pub is_closed : (K.place (closed_of K)).standing ≡ Closed
    pub pieces : (s : K.Session) → (K.place s).standing ≡ Closed → (label : Label) (x out : List ℕ) → piece_number K s label x out ≡ 9
    pub closes : (s : K.Session) → (K.place s).standing ≡ Closed → (edition : Edition) (tag : List ℕ) → close_number K s edition tag ≡ 9

  -- a piece has no tag to compare, and the close of a sealing session compares none
  abbrev pub NoPieceAnswers10 : Type 0
  NoPieceAnswers10 = (s : K.Session) (label : Label) (x out : List ℕ) → piece_number K s label x out ≢ 10

  abbrev pub NoCloseAnswers10 : Type 0
  NoCloseAnswers10 = (s : K.Session) (edition : Edition) (tag : List ℕ) → close_number K s edition tag ≢ 10
