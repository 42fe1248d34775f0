-- A session of either kind at a width whose words are of the type X, and what each call on it gives, on all inputs: what that session's own call gives.
-- Assumes nothing.
use Rattle.std.specs.Prelude.{ℕ, ◌-◌, ◌/◌, ◌%◌, Bool, true, false, cond, List, [], ltb}
use Rattle.norx.specs.Norx.{Width, row_at, word_at as word_of_row}
use Rattle.places.specs.declared.terms.Edition.{Edition}
use Rattle.places.specs.declared.terms.Terms.{Terms}
use Rattle.places.specs.declared.Label.{Label}
use Rattle.places.specs.declared.Place.{Place}
use Rattle.session.specs.Sessions.{start_of, piece_of, piece_out, close_of, close_runs, close_tag, closed_of}
use Rattle.session.specs.Kinds.{plain_of, sealing_of, checking_of, close_with}
use Rattle.session.specs.Seen.{Session, Step, Closing as Close}
use Rattle.held.specs.declared.at.HeldAt.{HeldAt}
use Rattle.held.specs.declared.at.HeldAt.TheVariants.{Seals, Checks}

-- a session's close, held; and its step, which reports no runs
abbrev pub held_close_of : {S H : Type 0} → (S → H) → Close S → Close H
held_close_of hold t = record { answer = t.answer; runs = t.runs; session = hold t.session }

abbrev pub held_step_of : {S H : Type 0} → (S → H) → Step S → Close H
held_step_of hold t = record { answer = t.answer; runs = 0; session = hold t.session }

module _ {X : Type 0} where
  -- a session of a kind that holds this
  abbrev pub of_kind : Bool → Session X → HeldAt X
  of_kind check s = cond check (Checks (record { 0 = s })) (Seals (record { 0 = s }))

  abbrev pub checks_at : HeldAt X → Bool
  checks_at (Seals s) = false
  checks_at (Checks s) = true

  -- what both kinds hold
  abbrev pub session_at : HeldAt X → Session X
  session_at (Seals s) = s.0
  session_at (Checks s) = s.0

  -- the same session at another place
  abbrev pub put_at : HeldAt X → Place → HeldAt X
  put_at (Seals s) p = Seals (record { 0 = record { state = s.0.state; key = s.0.key; place = p } })
  put_at (Checks s) p = Checks (record { 0 = record { state = s.0.state; key = s.0.key; place = p } })

  -- the words of the state and behind them those of the key, counted from 0; 0 where none is left
  unfoldable pub word_at : HeldAt X → ℕ → ℕ
  word_at h i =
      let s = session_at h in
      cond (ltb i 16) (word_of_row (row_at s.state (i / 4)) (i % 4)) (word_of_row s.key (i - 16))

module _ {X : Type 0} (w : Width) where
  unfoldable pub piece_at : HeldAt X → Label → List ℕ → List ℕ → Close (HeldAt X)
  piece_at (Seals s) label x out = held_step_of Seals (piece_of (sealing_of X w) s label x out)
  piece_at (Checks s) label x out = held_step_of Checks (piece_of (checking_of X w) s label x [])

  -- a checking session leaves the output alone
  unfoldable pub piece_out_at : HeldAt X → Label → List ℕ → List ℕ → List ℕ
  piece_out_at (Seals s) label x out = piece_out (sealing_of X w) s label x out
  piece_out_at (Checks s) label x out = out

  -- a checking session holds its tag to the one that is given, a sealing session writes it
  unfoldable pub close_at : HeldAt X → Edition → List ℕ → List ℕ → Close (HeldAt X)
  close_at (Seals s) edition given tag =
      held_close_of Seals (close_with (close_of (sealing_of X w) s edition tag) (close_runs (sealing_of X w) s edition tag))
  close_at (Checks s) edition given tag =
      held_close_of Checks (close_with (close_of (checking_of X w) s edition given) (close_runs (checking_of X w) s edition given))

  unfoldable pub close_tag_at : HeldAt X → Edition → List ℕ → List ℕ
  close_tag_at (Seals s) edition tag = close_tag (sealing_of X w) s edition tag
  close_tag_at (Checks s) edition tag = tag

module _ (X : Type 0) (w : Width) where
  -- the closed session of a kind: every number in it is zero
  abbrev pub closed_at : Bool → HeldAt X
  closed_at check = of_kind check (closed_of (plain_of X w))

  unfoldable pub start_at : Bool → List ℕ → List ℕ → Terms → Close (HeldAt X)
  start_at check key nonce T =
      cond check (held_step_of Checks (start_of (checking_of X w) key nonce T)) (held_step_of Seals (start_of (sealing_of X w) key nonce T))
