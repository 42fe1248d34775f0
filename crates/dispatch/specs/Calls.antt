-- What each call gives whose arguments are plain numbers and stretches of one memory, on all inputs: what the library's own call gives.
-- Assumes nothing.
use Rattle.std.specs.Prelude.{ℕ, ◌-◌, ◌/◌, ◌%◌, Bool, true, false, not, ◌&&◌, ◌||◌, cond, List, [], eqb, ltb, leb, length, take, drop}
use Rattle.norx.specs.Norx.{Width, word32, word64, row_at, word_at, constants}
use Rattle.answers.specs.declared.Outcome.{Outcome}
use Rattle.places.specs.declared.terms.Edition.{Edition}
use Rattle.places.specs.declared.terms.Terms.{Terms}
use Rattle.places.specs.declared.Label.{Label}
use Rattle.places.specs.declared.Part.{Part}
use Rattle.places.specs.declared.Part.TheVariants.{Note, Body, Trailer}
use Rattle.places.specs.declared.Standing.{Standing}
use Rattle.places.specs.declared.Standing.TheVariants.{Closed, Open}
use Rattle.sealing.specs.Widths.{seal_answer_at, seal_runs_at, seal_out_at, open_answer_at, open_runs_at, open_out_at}
use Rattle.held.specs.declared.EitherSession.{EitherSession as Held}
use Rattle.session.specs.Seen.{Closing as Close}
use Rattle.held.specs.Held.{held_start, held_piece, held_piece_out, held_close, held_tag, held_checks, held_put}
use Rattle.dispatch.specs.declared.Words.{Words}

-- a number's last 32 bits
abbrev pub low : ℕ → ℕ
low n = n % 4294967296

-- the bytes from a place up to another; none where these are no places of the memory in that order
unfoldable pub stretch_of : ℕ → ℕ → List ℕ → List ℕ
stretch_of from to m = cond (leb to (length m)) (cond (leb from to) (take (to - from) (drop from m)) []) []

-- the part of a number: 1 is the body, 2 the trailer, and any other the note
unfoldable pub part_of : ℕ → Part
part_of k = cond (eqb k 1) Body (cond (eqb k 2) Trailer Note)

-- 0 is closed, and any other number open, in the part of the number before it
unfoldable pub standing_of : ℕ → Standing
standing_of k = cond (eqb k 0) Closed (Open (part_of (k - 1)))

abbrev pub edition_of : ℕ → ℕ → Edition
edition_of job revision = record { job = job; revision = revision }

abbrev pub terms_of : ℕ → ℕ → ℕ → Terms
terms_of rounds job revision = record { rounds = low rounds; edition = edition_of job revision }

-- job, revision, part, offset
abbrev pub label_of : Words → Label
label_of a = record { edition = edition_of a.first a.second; part = part_of a.third; offset = a.fourth }

-- what is held, at another place: note, body, trailer, rounds, job, revision, standing
abbrev pub placed : Held → Words → Standing → Terms → Held
placed h a standing T = held_put h (record { standing = standing; note = a.first; body = a.second; trailer = a.third; terms = T })

abbrev pub put_call : Words → Held → Held
put_call a h = placed h a (standing_of a.seventh) (terms_of a.fourth a.fifth a.sixth)

-- an outcome that leaves the session as it was
abbrev pub answered : Held → Outcome → Close Held
answered h o = record { answer = o.answer; runs = o.runs; session = h }

-- by the number of a call: 1 seals, 2 opens, 3 starts a sealing and 4 a checking session, 5 offers a piece, and any other closes
unfoldable pub by_number : {A : Type 0} → ℕ → A → A → A → A → A → A → A
by_number k seals opens starts checks offers closes =
    cond (eqb k 1) seals (cond (eqb k 2) opens (cond (eqb k 3) starts (cond (eqb k 4) checks (cond (eqb k 5) offers closes))))

-- what one call answers and reports, and leaves in the output: an opening, or else a sealing
unfoldable pub outcome_at : Bool → ℕ → ℕ → List ℕ → List ℕ → List ℕ → List ℕ → List ℕ → List ℕ → Outcome
outcome_at opens w l k n h d t out =
    cond
    opens
    (record { answer = open_answer_at w l k n h d t out; runs = open_runs_at w l k n h d t out })
    (record { answer = seal_answer_at w l k n h d t out; runs = seal_runs_at w l k n h d t out })

unfoldable pub out_at : Bool → ℕ → ℕ → List ℕ → List ℕ → List ℕ → List ℕ → List ℕ → List ℕ → List ℕ
out_at opens w l k n h d t out = cond opens (open_out_at w l k n h d t out) (seal_out_at w l k n h d t out)

module _ (a : Words) (m : List ℕ) where
  -- a call by its width, its rounds and the five texts that follow
  abbrev pub by_texts : {A : Type 0} → (ℕ → ℕ → List ℕ → List ℕ → List ℕ → List ℕ → List ℕ → A) → A
  by_texts f =
      f (low a.first) (low a.second) (stretch_of 0 a.third m) (stretch_of a.third a.fourth m) (stretch_of a.fourth a.fifth m)
      (stretch_of a.fifth a.sixth m) (stretch_of a.sixth a.seventh m)

  unfoldable pub one_call : Bool → Held → List ℕ → Close Held
  one_call opens h out = answered h (by_texts (outcome_at opens) out)

  unfoldable pub one_call_out : Bool → List ℕ → List ℕ
  one_call_out opens out = by_texts (out_at opens) out

  -- width, rounds, key, nonce, job, revision; the width is 64, or else 32
  unfoldable pub start_call : Bool → Close Held
  start_call check = held_start check (eqb a.first 64) (stretch_of 0 a.third m) (stretch_of a.third a.fourth m) (terms_of a.second a.fifth a.sixth)

  -- job, revision, part, offset, bytes
  unfoldable pub piece_call : Held → List ℕ → Close Held
  piece_call h out = held_piece h (label_of a) (stretch_of 0 a.fifth m) out

  unfoldable pub piece_call_out : Held → List ℕ → List ℕ
  piece_call_out h out = held_piece_out h (label_of a) (stretch_of 0 a.fifth m) out

  -- job, revision, and the bytes of a tag
  unfoldable pub close_call : Held → List ℕ → Close Held
  close_call h out = held_close h (edition_of a.first a.second) (stretch_of 0 a.third m) out

  unfoldable pub close_call_tag : Held → List ℕ → List ℕ
  close_call_tag h out = held_tag h (edition_of a.first a.second) out

-- ---- The call of a number

unfoldable pub made_call : ℕ → Words → List ℕ → Held → List ℕ → Close Held
made_call k a m h out = by_number k (one_call a m false h out) (one_call a m true h out) (start_call a m false) (start_call a m true) (piece_call a m h out) (close_call a m h out)

-- a start has no output
unfoldable pub made_out : ℕ → Words → List ℕ → Held → List ℕ → List ℕ
made_out k a m h out = by_number k (one_call_out a m false out) (one_call_out a m true out) out out (piece_call_out a m h out) (close_call_tag a m h out)

-- ---- What else a program asks

-- whether the call of a number can be made on what is held: a start of a session or a receiver is at one of the two widths, a checking session takes no output,
-- and each kind is closed by a number of its own, 6 a sealing and 7 a checking session
unfoldable pub is_call : ℕ → Words → Held → Bool
is_call k a h =
    (eqb k 1 || eqb k 2 || eqb k 10 || eqb k 12 || eqb k 14)
    || ((eqb k 3 || eqb k 4 || eqb k 11) && (eqb a.first 32 || eqb a.first 64))
    || (eqb k 5 && (not (held_checks h) || eqb a.sixth 0))
    || (eqb k 6 && not (held_checks h))
    || (eqb k 7 && held_checks h)

-- the i'th of the constants u0 to u15 at a width; 0 from 16 on
unfoldable pub constant_at : Width → ℕ → ℕ
constant_at w i = cond (ltb i 16) (word_at (row_at (constants w) (i / 4)) (i % 4)) 0

unfoldable pub constant_of : Bool → ℕ → ℕ
constant_of wide i = cond wide (constant_at word64 i) (constant_at word32 i)
