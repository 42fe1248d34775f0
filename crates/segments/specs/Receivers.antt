-- What each call on a receiver gives, on all inputs. A contract sees a receiver of either width as a Receiving.
-- Assumes nothing.
use Rattle.std.specs.Prelude.{ℕ, ◌+◌, ◌-◌, Bool, cond, List, ◌++◌, length, replicate}
use Rattle.norx.specs.Norx.{Width, row_bytes}
use Rattle.answers.specs.Answers.{Answer, done_of}
use Rattle.places.specs.declared.terms.Terms.{Terms}
use Rattle.places.specs.Terms.{no_terms}
use Rattle.places.specs.Places.{start_answer}
use Rattle.cutting.specs.declared.Waiting.{Waiting}
use Rattle.cutting.specs.Cutting.{waiting_first, waiting_next}
use Rattle.segments.specs.Segments.{take_answer, take_runs, take_out}

pub record Receiving : Type 0 where
  pub key : List ℕ
  pub nonce : List ℕ
  pub terms : Terms
  pub waiting : Waiting

-- what a contract sees of what a start gives, and of what taking a segment gives
pub record ReceiverStep : Type 0 where
  pub answer : Answer
  pub receiver : Receiving

pub record ReceiverTake : Type 0 where
  pub answer : Answer
  pub runs : ℕ
  pub receiver : Receiving

-- a text in front of zeros, m bytes in all
abbrev pub filled : ℕ → List ℕ → List ℕ
filled m t = t ++ replicate (m - length t) 0

-- the receiver of a refused start: every number in it is zero
abbrev pub no_receiving : Width → Receiving
no_receiving w = record { key = replicate (row_bytes w) 0; nonce = replicate (row_bytes w - 8) 0; terms = no_terms; waiting = waiting_first }

module _ (w : Width) where
  -- a start answers 2, 1: the job's nonce is eight bytes shorter than a nonce
  unfoldable pub starts_answer : List ℕ → List ℕ → Terms → Answer
  starts_answer key nonce T = start_answer (row_bytes w) T (length key) (length nonce + 8)

  unfoldable pub starts_with : List ℕ → List ℕ → Terms → Receiving
  starts_with key nonce T = cond (done_of (starts_answer key nonce T)) (record { key = key; nonce = nonce; terms = T; waiting = waiting_first }) (no_receiving w)

  -- what taking a segment answers, reports, leaves in the output, and makes of the receiver
  abbrev pub taking_answer : Receiving → List ℕ → Bool → List ℕ → List ℕ → Answer
  taking_answer R note last text out = take_answer w R.key R.nonce R.terms note R.waiting last text out

  abbrev pub taking_runs : Receiving → List ℕ → Bool → List ℕ → List ℕ → ℕ
  taking_runs R note last text out = take_runs w R.key R.nonce R.terms note R.waiting last text out

  abbrev pub taking_out : Receiving → List ℕ → Bool → List ℕ → List ℕ → List ℕ
  taking_out R note last text out = take_out w R.key R.nonce R.terms note R.waiting last text out

  unfoldable pub after_taking : Receiving → List ℕ → Bool → List ℕ → List ℕ → Receiving
  after_taking R note last text out =
      record { key = R.key; nonce = R.nonce; terms = R.terms; waiting = waiting_next R.waiting (taking_answer R note last text out) last }
