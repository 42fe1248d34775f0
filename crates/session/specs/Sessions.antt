-- What each call on a session gives, on all inputs, over the session's kind.
-- Assumes nothing.
use Rattle.std.specs.Prelude.{ℕ, ◌/◌, Bool, true, cond, List, [], ◌∷◌, leb, length, replicate, Ok}
use Rattle.norx.specs.Norx.{Width, row_bytes, State, row, rows, word_at, row_at, row_of, header_mark, body_mark, trailer_mark, start, tag_of, same}
use Rattle.norx.specs.Stream.{fed, ended, fed_text, unfed}
use Rattle.norx.specs.Runs.{sealing_runs}
use Rattle.answers.specs.declared.Refusal.TheVariants.{TagDiffers}
use Rattle.answers.specs.Answers.{Answer, done_of, need_of, runs_with}
use Rattle.rules.specs.Runs.{runs_within}
use Rattle.places.specs.declared.terms.Edition.{Edition}
use Rattle.places.specs.declared.terms.Terms.{Terms}
use Rattle.places.specs.declared.Part.{Part}
use Rattle.places.specs.declared.Part.TheVariants.{Note, Body, Trailer}
use Rattle.places.specs.declared.Label.{Label}
use Rattle.places.specs.declared.Place.{Place}
use Rattle.places.specs.Terms.{front_of}
use Rattle.places.specs.Places.{rank_of, behind_all, limit_of, mark_of, ends_of, fed_of, fresh_place, closed_place, moved, start_answer, piece_answer, seal_exact, close_answer}

-- a session seals messages, or checks ciphertext against a tag
pub data Way : Type 0 where
  sealing checking : Way

-- ---- What pieces and ends do to the state

-- the state that a session starts with, from the words of its key and its nonce: the front is taken in ahead of the note
abbrev pub fresh_state : Width → ℕ → Terms → List ℕ → List ℕ → State
fresh_state w t T key nonce = fed w T.rounds header_mark (start w T.rounds t key nonce) 0 (front_of T.edition)

module _ (w : Width) (l : ℕ) where
  -- the message that a piece brings, after n bytes of its part: the piece itself, or what it is the ciphertext of
  abbrev pub brought : Part → Way → State → ℕ → List ℕ → List ℕ
  brought Note way s n x = x
  brought Body sealing s n x = x
  brought Body checking s n x = unfed w l s n x
  brought Trailer way s n x = x

  -- a piece taken in with the mark of its part
  unfoldable pub taken : Way → Part → State → ℕ → List ℕ → State
  taken way part s n x = fed w l (mark_of part) s n (brought part way s n x)

  -- a part of n bytes ended, where that is due
  unfoldable pub end_if : ℕ → Bool → State → ℕ → State
  end_if m due s n = cond due (ended w l m s n) s

module _ (w : Width) (p : Place) where
  -- the parts from the present one on are ended, up to the one of rank `next` and without it
  unfoldable pub readied : ℕ → State → State
  readied next s =
      let l = p.terms.rounds in
      end_if w l trailer_mark (ends_of Trailer p.standing next)
      (end_if w l body_mark (ends_of Body p.standing next)
      (end_if w l header_mark (ends_of Note p.standing next) s (fed_of p Note))
      (fed_of p Body))
      (fed_of p Trailer)

  -- a piece at a place: the parts before it are ended, and it is taken in
  unfoldable pub taken_at : Way → Part → List ℕ → State → State
  taken_at way part x s = taken w p.terms.rounds way part (readied (rank_of part) s) (fed_of p part) x

  -- what the output then holds: the ciphertext of a body piece that is sealed
  abbrev pub written_at : Way → Part → List ℕ → State → List ℕ → List ℕ
  written_at sealing Note x s out = out
  written_at sealing Body x s out = fed_text w p.terms.rounds (readied (rank_of Body) s) (fed_of p Body) x
  written_at sealing Trailer x s out = out
  written_at checking part x s out = out

-- how many times P runs in a sealing of as many bytes as the state took in of each part, the front included
abbrev pub place_runs : Width → Place → ℕ
place_runs w p = sealing_runs w (fed_of p Note) (fed_of p Body) (fed_of p Trailer)

-- the same where no count is over its limit, and else 0
abbrev pub place_runs_within : Width → Place → ℕ
place_runs_within w p = cond (leb p.note (limit_of Note)) (runs_within w (fed_of p Note) (fed_of p Body) (fed_of p Trailer)) 0

-- whether an output has the exact length for a piece of n bytes; a checking session takes none
abbrev pub exact_of : Way → Part → ℕ → ℕ → Bool
exact_of sealing part n out = seal_exact part n out
exact_of checking part n out = true

-- what the close answers by the tag that it is given: sealing writes its own, checking compares
abbrev pub verdict_of : Way → List ℕ → List ℕ → Answer
verdict_of sealing given own = Ok tt
verdict_of checking given own = need_of (same given own) TagDiffers (Ok tt)

-- ---- The calls

-- a kind of session: its struct and its step's, put together and taken apart; which way it goes, its width and its tag bits
pub record Kind : Type 1 where
  pub Session : Type 0
  pub Step : Type 0
  pub place : Session → Place
  pub state : Session → State
  pub key : Session → List ℕ
  pub make : Place → State → List ℕ → Session
  pub step : Answer → Session → Step
  pub answer : Step → Answer
  pub next : Step → Session
  pub way : Way
  pub width : Width
  pub tag_bits : ℕ

module _ (K : Kind) where
  -- the one closed session, in which every number is zero
  abbrev pub closed_of : K.Session
  closed_of = K.make closed_place (replicate 4 (replicate 4 0)) (replicate 4 0)

  -- the state that a session holds
  abbrev pub state_of : K.Session → State
  state_of s = K.state s

  -- the bytes of a tag
  abbrev pub tag_length : ℕ
  tag_length = K.tag_bits / 8

  -- ---- start

  unfoldable pub fresh_of : List ℕ → List ℕ → Terms → K.Session
  fresh_of key nonce T =
      let k = row_of K.width key in
      K.make (fresh_place T) (fresh_state K.width K.tag_bits T k (row_of K.width nonce)) k

  unfoldable pub start_of : List ℕ → List ℕ → Terms → K.Step
  start_of key nonce T =
      let a = start_answer (row_bytes K.width) T (length key) (length nonce) in
      K.step a (cond (done_of a) (fresh_of key nonce T) closed_of)

  -- ---- piece

  unfoldable pub piece_answer_of : K.Session → Label → List ℕ → List ℕ → Answer
  piece_answer_of s label x out = piece_answer (K.place s) label (length x) (exact_of K.way label.part (length x) (length out))

  unfoldable pub taken_of : K.Session → Part → List ℕ → K.Session
  taken_of s part x =
      K.make (moved (K.place s) part (length x)) (taken_at K.width (K.place s) K.way part x (state_of s)) (K.key s)

  -- the answer and the next session: the piece taken in, or the session as it was
  unfoldable pub piece_of : K.Session → Label → List ℕ → List ℕ → K.Step
  piece_of s label x out =
      let a = piece_answer_of s label x out in
      K.step a (cond (done_of a) (taken_of s label.part x) s)

  unfoldable pub piece_out : K.Session → Label → List ℕ → List ℕ → List ℕ
  piece_out s label x out =
      cond (done_of (piece_answer_of s label x out)) (written_at K.width (K.place s) K.way label.part x (state_of s) out) out

  -- ---- close

  -- the tag at a place, under a key as words: once every part is ended
  abbrev pub tag_at : Place → List ℕ → State → List ℕ
  tag_at p key s = tag_of K.width p.terms.rounds K.tag_bits key (readied K.width p behind_all s)

  -- the tag of all that a session took in
  unfoldable pub own_tag : K.Session → List ℕ
  own_tag s = tag_at (K.place s) (K.key s) (state_of s)

  unfoldable pub close_answer_of : K.Session → Edition → List ℕ → Answer
  close_answer_of s edition tag = close_answer (K.place s) edition tag_length (length tag)

  -- the closed session with what the tag comes to, or the refusal with the session as it was
  unfoldable pub close_of : K.Session → Edition → List ℕ → K.Step
  close_of s edition tag =
      let a = close_answer_of s edition tag in
      cond (done_of a) (K.step (verdict_of K.way tag (own_tag s)) closed_of) (K.step a s)

  -- the runs of P that are reported with the answer: those of the whole sealing, by the counts that the session holds
  unfoldable pub close_runs : K.Session → Edition → List ℕ → ℕ
  close_runs s edition tag = runs_with (K.answer (close_of s edition tag)) (place_runs K.width (K.place s))

  -- what the tag buffer of a sealing session then holds
  unfoldable pub close_tag : K.Session → Edition → List ℕ → List ℕ
  close_tag s edition tag = cond (done_of (close_answer_of s edition tag)) (own_tag s) tag
