-- What the call of a number gives on all that a program keeps, a session and a receiver: each call leaves the other as it was.
-- Assumes nothing.
use Rattle.answers.specs.Answers.{Answer}
use Rattle.std.specs.Prelude.{ℕ, cond, List, eqb}
use Rattle.answers.specs.declared.Outcome.{Outcome}
use Rattle.session.specs.Seen.{Closing as Close}
use Rattle.held.specs.declared.EitherSession.{EitherSession as Held}
use Rattle.held.specs.declared.receiver.EitherReceiver.{EitherReceiver as HeldReceiver}
use Rattle.held.specs.Receivers.{HeldReceiverStep}
use Rattle.dispatch.specs.declared.Words.{Words}
use Rattle.dispatch.specs.Calls.{made_call, made_out}
use Rattle.dispatch.specs.Segments.{segment_call, segment_call_out, receiver_call, take_call, take_call_out, list_call, list_call_out}

-- what a contract sees of all that is kept, and of what a call gives
pub record Kept : Type 0 where
  pub session : Held
  pub receiver : HeldReceiver

pub record KeptStep : Type 0 where
  pub answer : Answer
  pub runs : ℕ
  pub kept : Kept

-- an outcome that leaves all as it was, and an answer with no runs; the step of a receiver, and that of a session
abbrev pub kept_all : Kept → Outcome → KeptStep
kept_all h o = record { answer = o.answer; runs = o.runs; kept = h }

abbrev pub unrun : Answer → Outcome
unrun answer = record { answer = answer; runs = 0 }

abbrev pub kept_receiver : Kept → HeldReceiverStep → KeptStep
kept_receiver h t = record { answer = t.answer; runs = t.runs; kept = record { session = h.session; receiver = t.receiver } }

abbrev pub kept_session : Kept → Close Held → KeptStep
kept_session h t = record { answer = t.answer; runs = t.runs; kept = record { session = t.session; receiver = h.receiver } }

-- by the number of a call: 10 seals a segment, 11 starts a receiver, 12 takes a segment, 14 writes a list, and any other is one on the session
unfoldable pub by_job : {A : Type 0} → ℕ → A → A → A → A → A → A
by_job k seals starts takes lists other = cond (eqb k 10) seals (cond (eqb k 11) starts (cond (eqb k 12) takes (cond (eqb k 14) lists other)))

unfoldable pub kept_call : ℕ → Words → List ℕ → Kept → List ℕ → KeptStep
kept_call k a m h out =
    by_job
    k
    (kept_all h (segment_call a m out))
    (kept_receiver h (receiver_call a m))
    (kept_receiver h (take_call a m h.receiver out))
    (kept_all h (unrun (list_call a out)))
    (kept_session h (made_call k a m h.session out))

-- a start has no output
unfoldable pub kept_out : ℕ → Words → List ℕ → Kept → List ℕ → List ℕ
kept_out k a m h out = by_job k (segment_call_out a m out) out (take_call_out a m h.receiver out) (list_call_out a out) (made_out k a m h.session out)
