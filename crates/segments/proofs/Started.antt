-- The promises of a start, over the width.
-- Assumes nothing.
use mathlib.Core.Path.{◌≡◌, ap, ◌∙◌}
use mathlib.Core.List.{List}
use Prim.Native.Nat.{ℕ, ◌+◌}
use native.Mathlib.Omega.{arith}
use lib.Dec.{lit≤}
use lib.ListN.{length}
use Rattle.norx.specs.Norx.{Width}
use Rattle.answers.specs.Answers.{Answer, number_of}
use Rattle.answers.proofs.Chain.{zero_done, not_done}
use Rattle.places.specs.declared.terms.Terms.{Terms}
use Rattle.places.proofs.Accepts.{start_limits}
use Rattle.segments.specs.Rule.{JobLimits}
use Rattle.segments.specs.Receivers.{starts_answer}
use Rattle.segments.specs.Promises.{StartsReceiver}
use Rattle.segments.proofs.Receive.{start_fresh, start_none}
use Rattle.segments.proofs.Rules.{job_nonce}

module _ (w : Width) (key nonce : List ℕ) (T : Terms) where
  abbrev begun : Answer
  begun = starts_answer w key nonce T

  within_from : number_of begun ≡ 0 → JobLimits w T.rounds (length key) (length nonce) 0
  unfolding starts_answer
  within_from e =
      let s = (start_limits w T (length key) (length nonce + 8)).0 e in
      record { rounds = s.rounds; key_long = s.key_long; nonce_long = omega (arith, s.nonce_long, job_nonce w); note_within = lit≤ tt }

  within_to : JobLimits w T.rounds (length key) (length nonce) 0 → number_of begun ≡ 0
  unfolding starts_answer
  within_to h =
      (start_limits w T (length key) (length nonce + 8)).1
      (record { rounds = h.rounds; key_long = h.key_long; nonce_long = ap (λ (n : ℕ). n + 8) h.nonce_long ∙ job_nonce w })

  pub starts_receiver : StartsReceiver w key nonce T
  starts_receiver = record {
    within_limits = (within_from, within_to);
    begins = λ e. start_fresh w key nonce T (zero_done begun e);
    refused = λ h. start_none w key nonce T (not_done begun h);
  }
