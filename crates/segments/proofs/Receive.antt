-- What the calls on a receiver find and make, over the width.
-- Assumes nothing.
use mathlib.Core.Path.{◌≡◌, ap, ◌∙◌}
use mathlib.Core.Bool.{Bool, true, false}
use mathlib.Core.List.{List}
use Prim.Native.Nat.{ℕ, ◌+◌}
use lib.ListN.{length}
use Rattle.norx.specs.Norx.{Width, row_bytes}
use Rattle.answers.specs.Answers.{Answer, done_of}
use Rattle.answers.proofs.Tests.{cond_true, cond_false}
use Rattle.places.specs.declared.terms.Terms.{Terms}
use Rattle.places.specs.Places.{start_answer}
use Rattle.places.proofs.Accepts.{startable}
use Rattle.cutting.specs.declared.Waiting.{Waiting}
use Rattle.cutting.specs.Cutting.{waiting_first, waiting_next}
use Rattle.segments.specs.Receivers.{Receiving, no_receiving, starts_answer, starts_with, taking_answer, after_taking}

-- ---- a start

module _ (w : Width) (key nonce : List ℕ) (T : Terms) where
  -- the code's check is the definition's; n is the length of a row
  pub start_answered : {n : ℕ} {a : Answer} → n ≡ row_bytes w → a ≡ start_answer n T (length key) (length nonce + 8) → a ≡ starts_answer w key nonce T
  unfolding starts_answer
  start_answered row e = e ∙ ap (λ (r : ℕ). start_answer r T (length key) (length nonce + 8)) row

  pub start_lengths : done_of (starts_answer w key nonce T) ≡ true → (length key ≡ row_bytes w) × (length nonce + 8 ≡ row_bytes w)
  unfolding starts_answer
  start_lengths e = let known = startable (row_bytes w) T (length key) (length nonce + 8) e in (known.1, known.2)

  pub start_fresh : done_of (starts_answer w key nonce T) ≡ true → starts_with w key nonce T ≡ record { key = key; nonce = nonce; terms = T; waiting = waiting_first }
  unfolding starts_with
  start_fresh e = cond_true _ _ _ e

  pub start_none : done_of (starts_answer w key nonce T) ≡ false → starts_with w key nonce T ≡ no_receiving w
  unfolding starts_with
  start_none e = cond_false _ _ _ e

-- ---- a segment taken

module _ (w : Width) (R : Receiving) (note : List ℕ) (last : Bool) (text out : List ℕ) where
  pub taking_next : done_of (taking_answer w R note last text out) ≡ true
      → after_taking w R note last text out ≡ record { key = R.key; nonce = R.nonce; terms = R.terms; waiting = record { index = R.waiting.index + 1; complete = last } }
  unfolding after_taking waiting_next
  taking_next e = ap (λ (W : Waiting). record { key = R.key; nonce = R.nonce; terms = R.terms; waiting = W }) (cond_true _ _ _ e)

  pub taking_same : done_of (taking_answer w R note last text out) ≡ false → after_taking w R note last text out ≡ R
  unfolding after_taking waiting_next
  taking_same e = ap (λ (W : Waiting). record { key = R.key; nonce = R.nonce; terms = R.terms; waiting = W }) (cond_false _ _ _ e)
