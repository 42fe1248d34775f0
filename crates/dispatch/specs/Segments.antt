-- What each call on segments, receivers and lists gives whose arguments are plain numbers and stretches of one memory, on all inputs: what the library's own call gives.
-- Assumes nothing.
use Rattle.answers.specs.Answers.{Answer}
use Rattle.std.specs.Prelude.{ℕ, Bool, List, eqb}
use Rattle.answers.specs.declared.Outcome.{Outcome}
use Rattle.places.specs.declared.terms.Terms.{Terms}
use Rattle.cutting.specs.declared.Waiting.{Waiting}
use Rattle.segments.specs.Segments.{segment_answer_at, segment_runs_at, segment_out_at}
use Rattle.lists.specs.Written.{write_answer, write_out}
use Rattle.held.specs.declared.receiver.EitherReceiver.{EitherReceiver as HeldReceiver}
use Rattle.held.specs.Receivers.{HeldReceiverStep, held_started, held_taken, held_taken_out, held_put}
use Rattle.dispatch.specs.declared.Words.{Words}
use Rattle.dispatch.specs.Calls.{low, stretch_of, terms_of}

-- a flag: 1 says yes, and any other number no
abbrev pub flag_of : ℕ → Bool
flag_of k = eqb k 1

module _ (a : Words) (m : List ℕ) where
  -- width, rounds, key, nonce, job, revision, note, index, last, body; the numbers between two texts are no texts
  abbrev pub by_segment : {A : Type 0} → (ℕ → List ℕ → List ℕ → Terms → List ℕ → ℕ → Bool → List ℕ → A) → A
  by_segment f =
      f (low a.first) (stretch_of 0 a.third m) (stretch_of a.third a.fourth m) (terms_of a.second a.fifth a.sixth)
      (stretch_of a.fourth a.seventh m) a.eighth (flag_of a.ninth) (stretch_of a.seventh a.tenth m)

  unfoldable pub segment_call : List ℕ → Outcome
  segment_call out = record { answer = by_segment segment_answer_at out; runs = by_segment segment_runs_at out }

  unfoldable pub segment_call_out : List ℕ → List ℕ
  segment_call_out out = by_segment segment_out_at out

  -- width, rounds, key, nonce, job, revision; the width is 64, or else 32
  unfoldable pub receiver_call : HeldReceiverStep
  receiver_call = held_started (eqb a.first 64) (stretch_of 0 a.third m) (stretch_of a.third a.fourth m) (terms_of a.second a.fifth a.sixth)

  -- note, last, sealed segment
  unfoldable pub take_call : HeldReceiver → List ℕ → HeldReceiverStep
  take_call h out = held_taken h (stretch_of 0 a.first m) (flag_of a.second) (stretch_of a.first a.third m) out

  unfoldable pub take_call_out : HeldReceiver → List ℕ → List ℕ
  take_call_out h out = held_taken_out h (stretch_of 0 a.first m) (flag_of a.second) (stretch_of a.first a.third m) out

-- index, complete, rounds
abbrev pub waiting_of : Words → Waiting
waiting_of a = record { index = a.first; complete = flag_of a.second }

unfoldable pub put_receiver_call : Words → HeldReceiver → HeldReceiver
put_receiver_call a h = held_put h (waiting_of a) (low a.third)

-- job, revision, bytes of the body
unfoldable pub list_call : Words → List ℕ → Answer
list_call a out = write_answer a.first a.second a.third out

unfoldable pub list_call_out : Words → List ℕ → List ℕ
list_call_out a out = write_out a.first a.second a.third out
