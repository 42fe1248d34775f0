-- A receiver of either width, and what each call on it gives, on all inputs: what that receiver's own call gives.
-- Assumes nothing.
use Rattle.std.specs.Prelude.{ℕ, Bool, cond, List}
use Rattle.norx.specs.Norx.{word32, word64}
use Rattle.answers.specs.Answers.{Answer}
use Rattle.places.specs.declared.terms.Terms.{Terms}
use Rattle.cutting.specs.declared.Waiting.{Waiting}
use Rattle.segments.specs.Receivers.{Receiving, no_receiving, starts_answer, starts_with, taking_answer, taking_runs, taking_out, after_taking}
use Rattle.held.specs.declared.receiver.EitherReceiver.{EitherReceiver as HeldReceiver}
use Rattle.held.specs.declared.receiver.EitherReceiver.TheVariants.{Narrow, Wide}

-- what a contract sees of what a call gives
pub record HeldReceiverStep : Type 0 where
  pub answer : Answer
  pub runs : ℕ
  pub receiver : HeldReceiver

-- the receiver of a refused start at a width
abbrev pub held_none : Bool → HeldReceiver
held_none wide = cond wide (Wide (no_receiving word64)) (Narrow (no_receiving word32))

-- a start reports no runs
unfoldable pub held_started : Bool → List ℕ → List ℕ → Terms → HeldReceiverStep
held_started wide key nonce T =
    cond
    wide
    (record { answer = starts_answer word64 key nonce T; runs = 0; receiver = Wide (starts_with word64 key nonce T) })
    (record { answer = starts_answer word32 key nonce T; runs = 0; receiver = Narrow (starts_with word32 key nonce T) })

unfoldable pub held_taken : HeldReceiver → List ℕ → Bool → List ℕ → List ℕ → HeldReceiverStep
held_taken (Narrow R) note last text out =
    record { answer = taking_answer word32 R note last text out; runs = taking_runs word32 R note last text out; receiver = Narrow (after_taking word32 R note last text out) }
held_taken (Wide R) note last text out =
    record { answer = taking_answer word64 R note last text out; runs = taking_runs word64 R note last text out; receiver = Wide (after_taking word64 R note last text out) }

unfoldable pub held_taken_out : HeldReceiver → List ℕ → Bool → List ℕ → List ℕ → List ℕ
held_taken_out (Narrow R) note last text out = taking_out word32 R note last text out
held_taken_out (Wide R) note last text out = taking_out word64 R note last text out

abbrev pub held_waiting : HeldReceiver → Waiting
held_waiting (Narrow R) = R.waiting
held_waiting (Wide R) = R.waiting

-- waiting elsewhere, and with other rounds
abbrev pub put_into : Receiving → Waiting → ℕ → Receiving
put_into R W rounds = record { key = R.key; nonce = R.nonce; terms = record { rounds = rounds; edition = R.terms.edition }; waiting = W }

abbrev pub held_put : HeldReceiver → Waiting → ℕ → HeldReceiver
held_put (Narrow R) W rounds = Narrow (put_into R W rounds)
held_put (Wide R) W rounds = Wide (put_into R W rounds)
