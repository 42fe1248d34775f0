-- A start is answered 0 exactly where the limits are kept; of any pieces offered to the session that it gave, that holds those which it accepted, joined, and it stays sound.
-- Assumes nothing.
use mathlib.Core.Path.{◌≡◌, sym, ap, ◌∙◌}
use mathlib.Core.Bool.{true, false}
use mathlib.Core.Logic.{◌↔◌}
use mathlib.Core.List.{List, [], ◌∷◌, ◌++◌}
use Prim.Native.Nat.{ℕ}
use borrow.Author.Tests.{le-leb}
use lib.ListN.{length}
use Rattle.norx.specs.Norx.{row_bytes}
use Rattle.norx.proofs.Bytes.{Bytes, bytes_nil, bytes_append}
use Rattle.answers.specs.Answers.{number_of, done_of}
use Rattle.answers.proofs.Tests.{cond_true, cond_false}
use Rattle.answers.proofs.Chain.{zero_done, not_done}
use Rattle.rules.specs.Limits.{StartLimits}
use Rattle.places.specs.declared.terms.Terms.{Terms}
use Rattle.places.specs.declared.Part.{Part}
use Rattle.places.specs.declared.Part.TheVariants.{Note, Body, Trailer}
use Rattle.places.specs.declared.Standing.{Standing}
use Rattle.places.specs.declared.Standing.TheVariants.{Closed, Open}
use Rattle.places.specs.declared.Place.{Place}
use Rattle.places.specs.Places.{sound_at, sound_of, start_answer}
use Rattle.places.proofs.Accepts.{startable, start_limits, moved_sound}
use Rattle.session.specs.Sessions.{Kind, closed_of, fresh_of, start_of}
use Rattle.session.specs.Offered.{Piece, is_accepted, only, joined, last_part, place_in, held, held_by}
use Rattle.session.specs.Promises.{Started, begun}
use Rattle.session.proofs.Joining.{moved_place}
use Rattle.session.proofs.Pieces.{after_all, accepted}
use Rattle.session.proofs.Refused.{Lawful}
use Rattle.session.proofs.Held.{accepted_held, all_kept, fresh_held, session_held}

bytes_only : (k part : Part) (x : List ℕ) → Bytes x → Bytes (only k part x)
bytes_only Note Note x h = h
bytes_only Note Body x h = bytes_nil
bytes_only Note Trailer x h = bytes_nil
bytes_only Body Note x h = bytes_nil
bytes_only Body Body x h = h
bytes_only Body Trailer x h = bytes_nil
bytes_only Trailer Note x h = bytes_nil
bytes_only Trailer Body x h = bytes_nil
bytes_only Trailer Trailer x h = h

pub bytes_joined : (k : Part) (qs : List Piece) → Bytes (joined k qs)
bytes_joined k [] = bytes_nil
bytes_joined k (q ∷ qs) =
    bytes_append (only k q.label.part q.bytes) (joined k qs) (bytes_only k q.label.part q.bytes q.are_bytes) (bytes_joined k qs)

abbrev part_of_lem : Standing → Part
part_of_lem Closed = Note
part_of_lem (Open part) = part

module _ (K : Kind) (L : Lawful K) (key nonce : List ℕ) (T : Terms) where
  -- ---- a start that is answered 0

  answer_start : K.answer (start_of K key nonce T) ≡ start_answer (row_bytes K.width) T (length key) (length nonce)
  unfolding start_of
  answer_start = L.answered _ _

  done_start : Started K key nonce T → done_of (start_answer (row_bytes K.width) T (length key) (length nonce)) ≡ true
  done_start h = sym (ap done_of answer_start) ∙ zero_done (K.answer (start_of K key nonce T)) h

  pub started : Started K key nonce T → begun K key nonce T ≡ fresh_of K key nonce T
  unfolding start_of
  started h = L.stepped _ _ ∙ cond_true _ _ _ (done_start h)

  pub not_started : (Started K key nonce T → ⊥) → begun K key nonce T ≡ closed_of K
  unfolding start_of
  not_started h =
      let refused : done_of (start_answer (row_bytes K.width) T (length key) (length nonce)) ≡ false =
      not_done (start_answer (row_bytes K.width) T (length key) (length nonce)) (λ z. h (ap number_of answer_start ∙ z)) in
      L.stepped _ _ ∙ cond_false _ _ _ refused

  pub start_limits_of : Started K key nonce T ↔ StartLimits K.width T.rounds (length key) (length nonce)
  start_limits_of =
      let limits = start_limits K.width T (length key) (length nonce) in
      (λ e. limits.0 (sym (ap number_of answer_start) ∙ e), λ h. ap number_of answer_start ∙ limits.1 h)

-- ---- pieces that were offered to a session which a start gave: those that it accepted, and what they join to

module _ (K : Kind) (key nonce : List ℕ) (T : Terms) (qs : List Piece) where
  abbrev pub after_start : K.Session
  after_start = after_all K (begun K key nonce T) qs

  abbrev pub accepted_from : List Piece
  accepted_from = accepted K (begun K key nonce T) qs

  abbrev pub note_of : List ℕ
  note_of = joined Note accepted_from

  abbrev pub body_of : List ℕ
  body_of = joined Body accepted_from

  abbrev pub trailer_of : List ℕ
  trailer_of = joined Trailer accepted_from

  abbrev pub part_of : Part
  part_of = last_part Note accepted_from

  abbrev pub place_of : Place
  place_of = place_in T part_of note_of body_of trailer_of

module _ (K : Kind) (L : Lawful K) (key nonce : List ℕ) (T : Terms) (begins : Started K key nonce T) where
  pub accepted_fresh : (qs : List Piece) → accepted_from K key nonce T qs ≡ accepted K (held K key nonce T Note [] [] []) qs
  accepted_fresh qs = ap (λ (s : K.Session). accepted K s qs) (started K L key nonce T begins ∙ fresh_held K L key nonce T)

  -- the session held is the one of the accepted pieces joined part by part
  pub session_is : (qs : List Piece) → after_start K key nonce T qs ≡ held_by K key nonce T (accepted_from K key nonce T qs)
  session_is qs = rw (started K L key nonce T begins) (session_held K L key nonce T qs)

  -- it is open in the part of the last one
  pub stands : (qs : List Piece) → (K.place (after_start K key nonce T qs)).standing ≡ Open (last_part Note (accepted_from K key nonce T qs))
  stands qs = ap (λ (s : K.Session). (K.place s).standing) (session_is qs) ∙ ap (λ (p : Place). p.standing) (L.placed _ _ _)

  -- two sessions begun alike, in the same part, with the same joined pieces, are equal
  pub alike_is : (qs qs' : List Piece) → (K.place (after_start K key nonce T qs)).standing ≡ (K.place (after_start K key nonce T qs')).standing
      → ((part : Part) → joined part (accepted_from K key nonce T qs) ≡ joined part (accepted_from K key nonce T qs')) → after_start K key nonce T qs ≡ after_start K key nonce T qs'
  alike_is qs qs' same-standing e =
      let same-part : last_part Note (accepted_from K key nonce T qs) ≡ last_part Note (accepted_from K key nonce T qs') = ap part_of_lem (sym (stands qs) ∙ same-standing ∙ stands qs') in
      session_is qs
      ∙ (λ i. held K key nonce T (same-part i) (e Note i) (e Body i) (e Trailer i))
      ∙ sym (session_is qs')

  -- ---- a session that was started stays sound

  abbrev Sound : Part → List ℕ → List ℕ → List ℕ → Type 0
  Sound part n b t = sound_of (place_in T part n b t) ≡ true

  sound_step : (part : Part) (n b t : List ℕ) (q : Piece) → is_accepted K (held K key nonce T part n b t) q ≡ true → Sound part n b t
      → Sound q.label.part (n ++ only Note q.label.part q.bytes) (b ++ only Body q.label.part q.bytes) (t ++ only Trailer q.label.part q.bytes)
  unfolding sound_of
  sound_step part n b t q h e =
      let a = accepted_held K L key nonce T part n b t q h in
      let p : Place = place_in T part n b t in
      sym (ap (λ (y : Place). sound_at (Open q.label.part) y) (moved_place T part n b t q.label.part q.bytes))
      ∙ moved_sound p (length q.bytes) q.label.part a.sound a.onward (le-leb _ _ a.room)

  fresh_sound : Sound Note [] [] []
  unfolding sound_of
  fresh_sound = rw (startable (row_bytes K.width) T (length key) (length nonce) (done_start K L key nonce T begins)).0

  pub stays_sound : (qs : List Piece) → sound_of (place_of K key nonce T qs) ≡ true
  stays_sound qs = rw (accepted_fresh qs) (all_kept K L key nonce T Sound sound_step qs Note [] [] [] fresh_sound)
