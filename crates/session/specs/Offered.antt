-- Calls on a session one after another, pieces and closes in any order, each by what `piece_of` and `close_of` give: which pieces are accepted, what they join to, and what
-- a session that took them in holds.
-- Assumes nothing.
use Rattle.std.specs.Prelude.{ℕ, Bool, cond, List, [], ◌∷◌, ◌++◌, eqb, length}
use Rattle.norx.specs.Norx.{State, row_of, header_mark, body_mark, trailer_mark, start}
use Rattle.norx.specs.Stream.{fed, ended}
use Rattle.norx.specs.Texts.{Bytes}
use Rattle.answers.specs.Answers.{number_of}
use Rattle.places.specs.declared.terms.Edition.{Edition}
use Rattle.places.specs.declared.terms.Terms.{Terms}
use Rattle.places.specs.declared.Part.{Part}
use Rattle.places.specs.declared.Part.TheVariants.{Note, Body, Trailer}
use Rattle.places.specs.declared.Standing.TheVariants.{Open}
use Rattle.places.specs.declared.Label.{Label}
use Rattle.places.specs.declared.Place.{Place}
use Rattle.places.specs.Terms.{front_of}
use Rattle.session.specs.Sessions.{taken, Kind, piece_of, piece_out, close_of}

-- a piece as it is offered, with the output lent to it, which a checking session does not take
pub record Piece : Type 0 where
  pub label : Label
  pub bytes : List ℕ
  pub out : List ℕ
  pub are_bytes : Bytes bytes

-- a close as it is offered, with the tag lent to it: one to be compared, or a buffer for one
pub record Close : Type 0 where
  pub edition : Edition
  pub tag : List ℕ
  pub are_bytes : Bytes tag

pub data Call : Type 0 where
  piece : Piece → Call
  close : Close → Call

-- ---- One call

module _ (K : Kind) where
  -- the number that a piece is answered, and a close
  abbrev pub piece_number : K.Session → Label → List ℕ → List ℕ → ℕ
  piece_number s label x out = number_of (K.answer (piece_of K s label x out))

  abbrev pub close_number : K.Session → Edition → List ℕ → ℕ
  close_number s edition tag = number_of (K.answer (close_of K s edition tag))

  -- the number that a call is answered, and the session to go on with
  abbrev pub number_to : K.Session → Call → ℕ
  number_to s (piece q) = piece_number s q.label q.bytes q.out
  number_to s (close c) = close_number s c.edition c.tag

  abbrev pub after_call : K.Session → Call → K.Session
  after_call s (piece q) = K.next (piece_of K s q.label q.bytes q.out)
  after_call s (close c) = K.next (close_of K s c.edition c.tag)

  -- whether a piece is answered 0
  abbrev pub is_accepted : K.Session → Piece → Bool
  is_accepted s q = eqb (number_to s (piece q)) 0

  -- what the output of an accepted piece holds; of a refused one, nothing
  abbrev pub wrote : K.Session → Piece → List ℕ
  wrote s q = cond (is_accepted s q) (piece_out K s q.label q.bytes q.out) []

  -- ---- Any list of calls

  abbrev pub after_calls : K.Session → List Call → K.Session
  after_calls s [] = s
  after_calls s (c ∷ cs) = after_calls (after_call s c) cs

  -- the pieces that are accepted
  abbrev pub accepted_in : K.Session → List Call → List Piece
  accepted_in s [] = []
  accepted_in s (piece q ∷ cs) = cond (is_accepted s q) (q ∷ accepted_in (after_call s (piece q)) cs) (accepted_in (after_call s (piece q)) cs)
  accepted_in s (close c ∷ cs) = accepted_in (after_call s (close c)) cs

  -- what their outputs hold, joined
  abbrev pub wrote_in : K.Session → List Call → List ℕ
  wrote_in s [] = []
  wrote_in s (piece q ∷ cs) = wrote s q ++ wrote_in (after_call s (piece q)) cs
  wrote_in s (close c ∷ cs) = wrote_in (after_call s (close c)) cs

-- ---- Pieces joined part by part

-- some bytes where two parts are one, else none
abbrev pub only : Part → Part → List ℕ → List ℕ
only Note Note x = x
only Note Body x = []
only Note Trailer x = []
only Body Note x = []
only Body Body x = x
only Body Trailer x = []
only Trailer Note x = []
only Trailer Body x = []
only Trailer Trailer x = x

-- the bytes of a part in a list of pieces
abbrev pub joined : Part → List Piece → List ℕ
joined part [] = []
joined part (q ∷ qs) = only part q.label.part q.bytes ++ joined part qs

-- the part that a session in the part k comes to
abbrev pub last_part : Part → List Piece → Part
last_part k [] = k
last_part k (q ∷ qs) = last_part q.label.part qs

-- ---- What a session holds, by what it began with and its joined parts

abbrev pub place_in : Terms → Part → List ℕ → List ℕ → List ℕ → Place
place_in T part note body trailer = record { standing = Open part; note = length note; body = length body; trailer = length trailer; terms = T }

-- the header of a session: the front, and the joined note
abbrev pub header_of : Terms → List ℕ → List ℕ
header_of T note = front_of T.edition ++ note

module _ (K : Kind) (key nonce : List ℕ) (T : Terms) where
  abbrev pub start_state : State
  start_state = start K.width T.rounds K.tag_bits (row_of K.width key) (row_of K.width nonce)

  abbrev pub in_note : List ℕ → State
  in_note note = fed K.width T.rounds header_mark start_state 0 (header_of T note)

  abbrev pub after_note : List ℕ → State
  after_note note = ended K.width T.rounds header_mark (in_note note) (length (header_of T note))

  abbrev pub in_body : List ℕ → List ℕ → State
  in_body note body = taken K.width T.rounds K.way Body (after_note note) 0 body

  abbrev pub after_body : List ℕ → List ℕ → State
  after_body note body = ended K.width T.rounds body_mark (in_body note body) (length body)

  abbrev pub in_trailer : List ℕ → List ℕ → List ℕ → State
  in_trailer note body trailer = fed K.width T.rounds trailer_mark (after_body note body) 0 trailer

  abbrev pub state_in : Part → List ℕ → List ℕ → List ℕ → State
  state_in Note note body trailer = in_note note
  state_in Body note body trailer = in_body note body
  state_in Trailer note body trailer = in_trailer note body trailer

  -- the one session that is in a part with these bytes joined
  abbrev pub held : Part → List ℕ → List ℕ → List ℕ → K.Session
  held part note body trailer = K.make (place_in T part note body trailer) (state_in part note body trailer) (row_of K.width key)

  -- the same of a list of accepted pieces
  abbrev pub held_by : List Piece → K.Session
  held_by qs = held (last_part Note qs) (joined Note qs) (joined Body qs) (joined Trailer qs)
