-- Demand 3 over a kind of session, in numbers and bytes, of any list of calls after a start that is answered 0, pieces and closes in any order; and all that is promised
-- of every kind.
-- Assumes nothing.
use Rattle.std.specs.Prelude.{ℕ, ◌+◌, ◌≤◌, ◌≡◌, ◌⊎◌, ◌↔◌, ◌≢◌, List, [], ◌∷◌, ◌++◌, map, length}
use Rattle.norx.specs.Norx.{sealed, recovered}
use Rattle.norx.specs.Runs.{counted_runs}
use Rattle.norx.specs.Texts.{SealsTo}
use Rattle.answers.specs.Answers.{number_of}
use Rattle.rules.specs.Limits.{widths_length, StartLimits, PartLimits}
use Rattle.rules.specs.OneCall.{seal_answer, seal_out, open_answer}
use Rattle.rules.specs.Runs.{seal_runs, open_runs}
use Rattle.places.specs.declared.terms.Terms.{Terms}
use Rattle.places.specs.declared.Part.{Part}
use Rattle.places.specs.declared.Part.TheVariants.{Note, Body, Trailer}
use Rattle.places.specs.declared.Standing.TheVariants.{Closed, Open}
use Rattle.places.specs.Places.{rank_of}
use Rattle.session.specs.Sessions.{Way, sealing, checking, Kind, closed_of, start_of, close_runs, close_tag}
use Rattle.session.specs.Offered.{Piece, Close, Call, piece, close, number_to, after_call, after_calls, accepted_in, wrote_in, joined, last_part, header_of, held_by}
use Rattle.session.specs.Refusals.{most, RefusesUnsound, RefusesOtherJobs, RefusalChangesNothing, CloseEnds, ReportsCloses, ClosedRefuses, NoPieceAnswers10}

-- ---- A start

module _ (K : Kind) (key nonce : List ℕ) (T : Terms) where
  abbrev pub Started : Type 0
  Started = number_of (K.answer (start_of K key nonce T)) ≡ 0

  -- the session that a start gives
  abbrev pub begun : K.Session
  begun = K.next (start_of K key nonce T)

module _ (K : Kind) where
  -- a start is answered 0 exactly where the limits are kept, and gives back the closed session where it is refused
  abbrev pub StartsWithinLimits : Type 0
  StartsWithinLimits =
      (key nonce : List ℕ) (T : Terms)
      → (Started K key nonce T ↔ StartLimits K.width T.rounds (length key) (length nonce)) × ((Started K key nonce T → ⊥) → begun K key nonce T ≡ closed_of K)

-- ---- Demand 3

module _ (K : Kind) where
  abbrev pub StillOpen : K.Session → Type 0
  StillOpen s = (K.place s).standing ≢ Closed

  -- no close among these calls is answered 0 or 10
  abbrev pub Unclosed : K.Session → List Call → Type 0
  Unclosed s [] = Unit {0}
  Unclosed s (piece q ∷ cs) = Unclosed (after_call K s (piece q)) cs
  Unclosed s (close c ∷ cs) = (number_to K s (close c) ≢ 0) × (number_to K s (close c) ≢ 10) × Unclosed (after_call K s (close c)) cs

module _ (K : Kind) (key nonce : List ℕ) (T : Terms) (cs : List Call) where
  -- the session that a start gave, once these calls were made on it
  abbrev pub session_after : K.Session
  session_after = after_calls K (begun K key nonce T) cs

  -- the pieces that it accepted, and their bytes of one part, joined
  abbrev pub accepted_pieces : List Piece
  accepted_pieces = accepted_in K (begun K key nonce T) cs

  abbrev pub joined_part : Part → List ℕ
  joined_part part = joined part accepted_pieces

  -- the header of one sealing of them: the front, and the joined note
  abbrev pub joined_header : List ℕ
  joined_header = header_of T (joined_part Note)

-- the exact length of an output: ciphertext is as long as the piece, and else nothing is written; a checking session takes no output
abbrev pub ExactOutput : Way → Part → ℕ → ℕ → Type 0
ExactOutput sealing Note n out = out ≡ 0
ExactOutput sealing Body n out = out ≡ n
ExactOutput sealing Trailer n out = out ≡ 0
ExactOutput checking part n out = Unit {0}

-- a piece goes on where the pieces that were accepted ended
pub record GoesOn (way : Way) (T : Terms) (before : List Piece) (q : Piece) : Type 0 where
  pub own_edition : q.label.edition ≡ T.edition
  -- its part is not before the present one
  pub onward : rank_of (last_part Note before) ≤ rank_of q.label.part
  -- its offset is the number of bytes of that part accepted so far
  pub at_count : q.label.offset ≡ length (joined q.label.part before)
  pub room : length (joined q.label.part before) + length q.bytes ≤ most q.label.part
  pub exact_output : ExactOutput way q.label.part (length q.bytes) (length q.out)

module _ (K : Kind) (key nonce : List ℕ) (T : Terms) (header body trailer : List ℕ) where
  -- a close completes one sealing: its answer, the runs that it reports, and `text`, which is the ciphertext that was written and the tag
  pub record CompletesOneSealing (answer runs : ℕ) (text : List ℕ) : Type 0 where
    pub answered : answer ≡ 0
    -- the text is what NORX 3.0 defines
    pub as_defined : text ≡ sealed K.width T.rounds K.tag_bits key nonce header body trailer
    -- and the number of runs is that in the definition
    pub counted : runs ≡ counted_runs K.width T.rounds K.tag_bits key nonce header body trailer
    -- which `seal` writes and reports in one call, answered 0, to an output of the exact length
    pub as_one_call : (out : List ℕ) → length out ≡ length body + widths_length K.width
        → (number_of (seal_answer K.width T.rounds key nonce header body trailer out) ≡ 0)
        × ((seal_out K.width T.rounds key nonce header body trailer out ≡ text) × (seal_runs K.width T.rounds key nonce header body trailer out ≡ runs))

  -- M is a message that seals to the ciphertext `body` and a tag
  abbrev pub MessageOf : List ℕ → List ℕ → Type 0
  MessageOf tag M = SealsTo K.width T.rounds K.tag_bits key nonce header trailer (body ++ tag) M

  -- a close says what one opening says: its answer, the runs that it reports, and the tag that it was given
  pub record AnswersOneOpening (answer runs : ℕ) (tag : List ℕ) : Type 0 where
    -- yes exactly when there is such a message, and no exactly when there is none
    pub yes : (answer ≡ 0) ↔ ((M : List ℕ) × MessageOf tag M)
    pub no : (answer ≡ 10) ↔ ((M : List ℕ) → MessageOf tag M → ⊥)
    -- the number of runs is that in sealing the message that the text would be of
    pub counted : runs
        ≡ counted_runs K.width T.rounds K.tag_bits key nonce header (recovered K.width T.rounds K.tag_bits key nonce header (body ++ tag)) trailer
    -- which is what `open` answers and reports in one call with an output of the exact length
    pub as_one_call : (out : List ℕ) → length out ≡ length body
        → (answer ≡ number_of (open_answer K.width T.rounds key nonce header (body ++ tag) trailer out))
        × (runs ≡ open_runs K.width T.rounds key nonce header (body ++ tag) trailer out)

module _ (K : Kind) where
  -- a session is open from its start until a close is answered 0 or 10
  abbrev pub OpenUntilClosed : Type 0
  OpenUntilClosed =
      (key nonce : List ℕ) (T : Terms) → Started K key nonce T → (cs : List Call)
      → StillOpen K (session_after K key nonce T cs) ↔ Unclosed K (begun K key nonce T) cs

  -- the session is the one of the accepted pieces joined part by part
  abbrev pub OneSession : Type 0
  OneSession =
      (key nonce : List ℕ) (T : Terms) → Started K key nonce T → (cs : List Call) → StillOpen K (session_after K key nonce T cs)
      → session_after K key nonce T cs ≡ held_by K key nonce T (accepted_pieces K key nonce T cs)

  -- two sessions begun alike, still open, in the same part, with the same joined pieces, are equal
  abbrev pub Alike : Type 0
  Alike =
      (key nonce : List ℕ) (T : Terms) → Started K key nonce T → (cs cs' : List Call) (part : Part)
      → (K.place (session_after K key nonce T cs)).standing ≡ Open part → (K.place (session_after K key nonce T cs')).standing ≡ Open part
      → ((k : Part) → joined_part K key nonce T cs k ≡ joined_part K key nonce T cs' k)
      → session_after K key nonce T cs ≡ session_after K key nonce T cs'

  -- the joined parts are within the limits of one call
  abbrev pub WithinOneCall : Type 0
  WithinOneCall =
      (key nonce : List ℕ) (T : Terms) → Started K key nonce T → (cs : List Call) → StillOpen K (session_after K key nonce T cs)
      → PartLimits (length (joined_header K key nonce T cs)) (length (joined_part K key nonce T cs Body)) (length (joined_part K key nonce T cs Trailer))

  -- a piece is accepted exactly when it goes on where the accepted ones ended
  abbrev pub TakesPieces : Type 0
  TakesPieces =
      (key nonce : List ℕ) (T : Terms) → Started K key nonce T → (cs : List Call) → StillOpen K (session_after K key nonce T cs) → (q : Piece)
      → (number_to K (session_after K key nonce T cs) (piece q) ≡ 0) ↔ GoesOn K.way T (accepted_pieces K key nonce T cs) q

  -- refused calls between them change nothing: the accepted pieces alone give the same
  abbrev pub WithoutRefused : Type 0
  WithoutRefused =
      (s : K.Session) (cs : List Call) → StillOpen K (after_calls K s cs)
      → (after_calls K s cs ≡ after_calls K s (map piece (accepted_in K s cs))) × (wrote_in K s cs ≡ wrote_in K s (map piece (accepted_in K s cs)))

  -- a close of a session still open, under its own edition and with a tag of the right length
  abbrev pub OwnClose : (key nonce : List ℕ) (T : Terms) → List Call → Close → Type 0
  OwnClose key nonce T cs c = StillOpen K (session_after K key nonce T cs) × (c.edition ≡ T.edition) × (length c.tag ≡ widths_length K.width)

  -- exactly such a close is answered 0 or 10
  abbrev pub ClosesUnderItsOwn : Type 0
  ClosesUnderItsOwn =
      (key nonce : List ℕ) (T : Terms) → Started K key nonce T → (cs : List Call) (c : Close)
      → ((number_to K (session_after K key nonce T cs) (close c) ≡ 0) ⊎ (number_to K (session_after K key nonce T cs) (close c) ≡ 10)) ↔ OwnClose key nonce T cs c

  -- the close of a sealing session completes one sealing of the joined pieces
  abbrev pub OneSealing : Type 0
  OneSealing =
      (key nonce : List ℕ) (T : Terms) → Started K key nonce T → (cs : List Call) (c : Close) → OwnClose key nonce T cs c
      → CompletesOneSealing K key nonce T (joined_header K key nonce T cs) (joined_part K key nonce T cs Body) (joined_part K key nonce T cs Trailer)
      (number_to K (session_after K key nonce T cs) (close c)) (close_runs K (session_after K key nonce T cs) c.edition c.tag)
      (wrote_in K (begun K key nonce T) cs ++ close_tag K (session_after K key nonce T cs) c.edition c.tag)

  -- the close of a checking session says what one opening of the joined pieces and the tag says
  abbrev pub OneOpening : Type 0
  OneOpening =
      (key nonce : List ℕ) (T : Terms) → Started K key nonce T → (cs : List Call) (c : Close) → OwnClose key nonce T cs c
      → AnswersOneOpening K key nonce T (joined_header K key nonce T cs) (joined_part K key nonce T cs Body) (joined_part K key nonce T cs Trailer)
      (number_to K (session_after K key nonce T cs) (close c)) (close_runs K (session_after K key nonce T cs) c.edition c.tag) c.tag

-- what is promised of every kind
pub record Promised (K : Kind) : Type 0 where
  pub starts : StartsWithinLimits K
  pub unsound : RefusesUnsound K
  pub other_jobs : RefusesOtherJobs K
  pub refusals : RefusalChangesNothing K
  pub no_piece_10 : NoPieceAnswers10 K
  pub close_ends : CloseEnds K
  pub reports : ReportsCloses K
  pub closed_refuses : ClosedRefuses K
  pub open_until_closed : OpenUntilClosed K
  pub one_session : OneSession K
  pub alike : Alike K
  pub takes : TakesPieces K
  pub within : WithinOneCall K
  pub closes : ClosesUnderItsOwn K
  pub without_refused : WithoutRefused K
