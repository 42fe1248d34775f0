-- What one call answers and leaves, where the limits are kept: a sealing what the definition gives; an opening as there is a message that seals to its text, or none.
-- Assumes nothing.
use mathlib.Core.Path.{◌≡◌, refl, sym, ap, ◌∙◌}
use mathlib.Core.Bool.{true}
use mathlib.Core.Logic.{◌↔◌}
use mathlib.Core.List.{List}
use mathlib.Core.Option.{Option, none, some}
use Prim.Native.Nat.{ℕ, ◌/◌, ◌≤◌}
use native.Mathlib.Omega.{arith}
use lib.ListN.{length, replicate}
use Rattle.norx.specs.Norx.{Width, row_bytes, tag_bits, sealed, opened}
use Rattle.norx.specs.Texts.{Bytes, SealsTo}
use Rattle.norx.proofs.Opening.{open_sealed, sealed_opened, opened_bytes, refused_unsealed}
use Rattle.answers.specs.Answers.{number_of, done_of}
use Rattle.answers.proofs.Tests.{cond_true}
use Rattle.answers.proofs.Chain.{zero_done}
use Rattle.rules.specs.Calls.{answer_of, out_of}
use Rattle.rules.specs.OneCall.{seal_answer, seal_out, checked, tag_answer, tag_out, open_answer, open_out}
use Rattle.rules.specs.Limits.{SealLimits, OpenLimits}
use Rattle.rules.proofs.Limits.{seal_limits, open_limits}

-- ---- a message, or none

module _ (w : Width) (l t : ℕ) (fits : t / 8 ≤ row_bytes w) (key nonce header text trailer : List ℕ) where
  abbrev o : Option (List ℕ)
  o = opened w l t key nonce header text trailer

  abbrev To : List ℕ → Type 0
  To M = SealsTo w l t key nonce header trailer text M

  message_is : (M : List ℕ) → To M → o ≡ some M
  message_is M h = ap (λ (x : List ℕ). opened w l t key nonce header x trailer) (sym h.1) ∙ open_sealed w l t fits key nonce header trailer M h.0

  none_is : (x : Option (List ℕ)) → o ≡ x → number_of (answer_of x) ≡ 10 → o ≡ none
  none_is none e a = e
  none_is (some m) e a = absurd (omega arith)

  module _ (bytes : Bytes text) where
    seals_to : (n : ℕ) (x : Option (List ℕ)) → o ≡ x → number_of (answer_of x) ≡ 0 → To (out_of x n)
    seals_to n none e a = absurd (omega arith)
    seals_to n (some m) e a =
        (opened_bytes w l t fits key nonce header trailer text m bytes e, sealed_opened w l t fits key nonce header trailer text m bytes e)

    none_there : ((M : List ℕ) → To M → ⊥) → (x : Option (List ℕ)) → o ≡ x → o ≡ none
    none_there never none e = e
    none_there never (some m) e = absurd (never m (seals_to 0 (some m) e refl))

    -- the answer is 0 with M in the output exactly when M seals to the text
    pub handed_out : (n : ℕ) (M : List ℕ)
        → ((number_of (answer_of (opened w l t key nonce header text trailer)) ≡ 0) × (out_of (opened w l t key nonce header text trailer) n ≡ M))
        ↔ SealsTo w l t key nonce header trailer text M
    handed_out n M = (
      λ h. rw (sym h.1) (seals_to n o refl h.0),
      λ h. (ap (λ (x : Option (List ℕ)). number_of (answer_of x)) (message_is M h), ap (λ (x : Option (List ℕ)). out_of x n) (message_is M h)),
    )

    -- the answer is 0 exactly when some message seals to the text
    pub some_message : (number_of (answer_of (opened w l t key nonce header text trailer)) ≡ 0) ↔ ((M : List ℕ) × SealsTo w l t key nonce header trailer text M)
    some_message = (λ e. (out_of o 0, seals_to 0 o refl e), λ h. ap (λ (x : Option (List ℕ)). number_of (answer_of x)) (message_is h.0 h.1))

    -- and 10 exactly when none does; the output is zeros then
    pub no_message : (number_of (answer_of (opened w l t key nonce header text trailer)) ≡ 10) ↔ ((M : List ℕ) → SealsTo w l t key nonce header trailer text M → ⊥)
    no_message = (
      λ e M to. refused_unsealed w l t fits key nonce header trailer text M to.0 (none_is o refl e) to.1,
      λ never. ap (λ (x : Option (List ℕ)). number_of (answer_of x)) (none_there never o refl),
    )

    pub refused : (n : ℕ)
        → ((number_of (answer_of (opened w l t key nonce header text trailer)) ≡ 10) × (out_of (opened w l t key nonce header text trailer) n ≡ replicate n 0))
        ↔ ((M : List ℕ) → SealsTo w l t key nonce header trailer text M → ⊥)
    refused n = (λ h. no_message.0 h.0, λ never. (no_message.1 never, ap (λ (x : Option (List ℕ)). out_of x n) (none_there never o refl)))

-- ---- where the limits are kept

module _ (w : Width) (l : ℕ) (key nonce header text trailer out : List ℕ) where
  pub seal_done : SealLimits w l (length key) (length nonce) (length header) (length text) (length trailer) (length out)
      → (number_of (seal_answer w l key nonce header text trailer out) ≡ 0) × (seal_out w l key nonce header text trailer out ≡ sealed w l (tag_bits w) key nonce header text trailer)
  unfolding seal_answer seal_out
  seal_done h =
      let zero : number_of (seal_answer w l key nonce header text trailer out) ≡ 0 =
      (seal_limits w l (length key) (length nonce) (length header) (length text) (length trailer) (length out)).1 h in
      (zero, cond_true _ _ out (zero_done (seal_answer w l key nonce header text trailer out) zero))

  pub open_done : OpenLimits w l (length key) (length nonce) (length header) (length text) (length trailer) (length out)
      → (open_answer w l key nonce header text trailer out ≡ tag_answer w l key nonce header text trailer out)
      × (open_out w l key nonce header text trailer out ≡ tag_out w l key nonce header text trailer out)
  unfolding open_answer open_out
  open_done h =
      let done : done_of (checked w l key nonce header text trailer out) ≡ true =
      zero_done (checked w l key nonce header text trailer out)
      ((open_limits w l (length key) (length nonce) (length header) (length text) (length trailer) (length out)).1 h) in
      (cond_true _ _ _ done, cond_true _ _ _ done)
