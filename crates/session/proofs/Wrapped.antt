-- A start of what both kinds hold is a start of each kind.
-- Assumes nothing.
use Rattle.std.specs.Prelude.{◌≡◌, Bool, true, false, cond, List, ℕ, length, refl}
use Rattle.std.proofs.Common.{ap}
use Rattle.norx.specs.Norx.{Width, row_bytes}
use Rattle.answers.specs.Answers.{done_of}
use Rattle.places.specs.declared.terms.Terms.{Terms}
use Rattle.places.specs.Places.{start_answer}
use Rattle.session.specs.Sessions.{closed_of, fresh_of, start_of}
use Rattle.session.specs.Seen.{Session, Sealing, Checking, Step}
use Rattle.session.specs.Kinds.{plain_of, sealing_of, checking_of}

through : {A B : Type 0} (f : A → B) (b : Bool) (x y : A) → f (cond b x y) ≡ cond b (f x) (f y)
through f true x y = refl
through f false x y = refl

abbrev pub as_sealing : {X : Type 0} → Step (Session X) → Step (Sealing X)
as_sealing t = record { answer = t.answer; session = record { 0 = t.session } }

abbrev pub as_checking : {X : Type 0} → Step (Session X) → Step (Checking X)
as_checking t = record { answer = t.answer; session = record { 0 = t.session } }

module _ (X : Type 0) (w : Width) (key nonce : List ℕ) (T : Terms) where
  pub starts_sealing : as_sealing (start_of (plain_of X w) key nonce T) ≡ start_of (sealing_of X w) key nonce T
  unfolding start_of fresh_of
  starts_sealing =
      let a = start_answer (row_bytes w) T (length key) (length nonce) in
      ap (λ (s : Sealing X). record { answer = a; session = s })
      (through (λ (s : Session X). record { 0 = s }) (done_of a) (fresh_of (plain_of X w) key nonce T) (closed_of (plain_of X w)))

  pub starts_checking : as_checking (start_of (plain_of X w) key nonce T) ≡ start_of (checking_of X w) key nonce T
  unfolding start_of fresh_of
  starts_checking =
      let a = start_answer (row_bytes w) T (length key) (length nonce) in
      ap (λ (s : Checking X). record { answer = a; session = s })
      (through (λ (s : Session X). record { 0 = s }) (done_of a) (fresh_of (plain_of X w) key nonce T) (closed_of (plain_of X w)))
