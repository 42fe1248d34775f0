-- The close of a session that was started, behind any pieces: it is not refused exactly under its own edition with a tag of the right length, its tag is one sealing's, and so are the runs that it reports.
-- Assumes nothing.
use mathlib.Core.Path.{◌≡◌, sym, ap, ap₂, ◌∙◌}
use mathlib.Core.Bool.{true}
use mathlib.Core.Logic.{◌⊎◌}
use mathlib.Core.List.{List}
use Prim.Native.Nat.{ℕ, ◌/◌}
use lib.ListN.{length}
use Rattle.std.specs.Prelude.{Ok}
use Rattle.norx.proofs.Bytes.{Bytes}
use Rattle.norx.specs.Norx.{row_of}
use Rattle.norx.specs.Runs.{sealing_runs}
use Rattle.answers.specs.Answers.{number_of, done_of}
use Rattle.answers.proofs.Tests.{cond_true}
use Rattle.answers.proofs.Runs.{reported_with}
use Rattle.rules.specs.Limits.{widths_length}
use Rattle.rules.proofs.Limits.{tag_long}
use Rattle.places.specs.declared.terms.Edition.{Edition}
use Rattle.places.specs.declared.terms.Terms.{Terms}
use Rattle.places.specs.declared.Part.{Part}
use Rattle.places.specs.declared.Part.TheVariants.{Note, Body, Trailer}
use Rattle.places.specs.declared.Place.{Place}
use Rattle.places.specs.Places.{close_answer}
use Rattle.places.proofs.Accepts.{closable, closable_own, sound_closes}
use Rattle.session.specs.Sessions.{place_runs, verdict_of, Kind, closed_of, state_of, tag_length, tag_at, own_tag, close_answer_of, close_of, close_runs}
use Rattle.session.specs.Offered.{Piece, Close, header_of, held_by, joined}
use Rattle.session.specs.Promises.{Started}
use Rattle.session.proofs.Refused.{Lawful, close_to, verdict_number}
use Rattle.session.proofs.Joining.{header_long}
use Rattle.session.proofs.Held.{place_held, state_held}
use Rattle.session.proofs.Whole.{tag_as_one, brought_body, tag_whole}
use Rattle.session.proofs.Begun.{bytes_joined, after_start, accepted_from, note_of, body_of, trailer_of, part_of, place_of, session_is, stays_sound}

-- a tag has the width's length
pub tag_length_lem : (K : Kind) → Lawful K → tag_length K ≡ widths_length K.width
tag_length_lem K L = ap (λ (x : ℕ). x / 8) L.tagged ∙ tag_long K.width

module _ (K : Kind) (L : Lawful K) (key nonce : List ℕ) (T : Terms) (begins : Started K key nonce T) (qs : List Piece) where
  abbrev n : List ℕ
  n = note_of K key nonce T qs

  abbrev b : List ℕ
  b = body_of K key nonce T qs

  abbrev t : List ℕ
  t = trailer_of K key nonce T qs

  bytes_of : (k : Part) → Bytes (joined k (accepted_from K key nonce T qs))
  bytes_of k = bytes_joined k (accepted_from K key nonce T qs)

  abbrev part : Part
  part = part_of K key nonce T qs

  abbrev place : Place
  place = place_of K key nonce T qs

  abbrev at_end : K.Session
  at_end = held_by K key nonce T (accepted_from K key nonce T qs)

  pub own_closing : (given : List ℕ) → length given ≡ tag_length K → close_answer_of K (held_by K key nonce T (accepted_from K key nonce T qs)) T.edition given ≡ (Ok tt)
  unfolding close_answer_of
  own_closing given h =
      ap (λ (p : Place). close_answer p T.edition (tag_length K) (length given)) (place_held K L key nonce T part n b t)
      ∙ sound_closes place (tag_length K) (length given) (stays_sound K L key nonce T begins qs) h

  pub own_tag_lem : own_tag K (held_by K key nonce T (accepted_from K key nonce T qs))
      ≡ tag_as_one K key nonce T (note_of K key nonce T qs) (brought_body K key nonce T K.way (note_of K key nonce T qs) (body_of K key nonce T qs)) (trailer_of K key nonce T qs)
  unfolding own_tag
  own_tag_lem =
      ap₂ (λ (p : Place) (k : List ℕ). tag_at K p k (state_of K at_end)) (place_held K L key nonce T part n b t) (L.keyed _ _ _)
      ∙ ap (tag_at K place (row_of K.width key)) (state_held K L key nonce T part n b t)
      ∙ tag_whole K key nonce T n b t (bytes_of Note) (bytes_of Body) (bytes_of Trailer) part (stays_sound K L key nonce T begins qs)

  -- under its own edition with a tag of the right length: the answer is what the tags come to, and the session is the closed one
  pub close_is : (given : List ℕ) → length given ≡ tag_length K
      → close_of K (after_start K key nonce T qs) T.edition given ≡ K.step (verdict_of K.way given (own_tag K (held_by K key nonce T (accepted_from K key nonce T qs)))) (closed_of K)
  unfolding close_of
  close_is given h = rw (session_is K L key nonce T begins qs) (cond_true _ _ _ (ap done_of (own_closing given h)))

  pub close_own : (c : Close) → done_of (close_to K L (after_start K key nonce T qs) c) ≡ true → (c.edition ≡ T.edition) × (length c.tag ≡ tag_length K)
  unfolding close_answer_of
  close_own c h =
      let is : K.place (after_start K key nonce T qs) ≡ place = ap (λ (s : K.Session). K.place s) (session_is K L key nonce T begins qs) ∙ place_held K L key nonce T part n b t in
      let done : done_of (close_answer place c.edition (tag_length K) (length c.tag)) ≡ true =
      sym (ap (λ (p : Place). done_of (close_answer p c.edition (tag_length K) (length c.tag))) is) ∙ h in
      ((closable_own place c.edition (tag_length K) (length c.tag) done).1, (closable place c.edition (tag_length K) (length c.tag) done).2)

  pub own_closes : (c : Close) → c.edition ≡ T.edition → length c.tag ≡ tag_length K
      → (number_of (K.answer (close_of K (after_start K key nonce T qs) c.edition c.tag)) ≡ 0) ⊎ (number_of (K.answer (close_of K (after_start K key nonce T qs) c.edition c.tag)) ≡ 10)
  own_closes c own_edition long =
      let is : K.answer (close_of K (after_start K key nonce T qs) c.edition c.tag) ≡ verdict_of K.way c.tag (own_tag K at_end) =
      ap (λ (E : Edition). K.answer (close_of K (after_start K key nonce T qs) E c.tag)) own_edition ∙ ap (λ (x : K.Step). K.answer x) (close_is c.tag long) ∙ L.answered _ _ in
      rw is (verdict_number K L K.way c.tag (own_tag K at_end))

  -- and reports as many runs of P as one sealing of the joined parts has
  pub own_runs : (given : List ℕ) → length given ≡ tag_length K
      → close_runs K (after_start K key nonce T qs) T.edition given
      ≡ sealing_runs K.width (length (header_of T (note_of K key nonce T qs))) (length (body_of K key nonce T qs)) (length (trailer_of K key nonce T qs))
  unfolding close_runs
  own_runs given h =
      let answered : K.answer (close_of K (after_start K key nonce T qs) T.edition given) ≡ verdict_of K.way given (own_tag K at_end) =
      ap (λ (x : K.Step). K.answer x) (close_is given h) ∙ L.answered _ _ in
      let is : K.place (after_start K key nonce T qs) ≡ place = ap (λ (s : K.Session). K.place s) (session_is K L key nonce T begins qs) ∙ place_held K L key nonce T part n b t in
      reported_with _ _ (rw answered (verdict_number K L K.way given (own_tag K at_end)))
      ∙ ap (place_runs K.width) is ∙ ap (λ (k : ℕ). sealing_runs K.width k (length b) (length t)) (sym (header_long T n))
