-- What a session that was started takes, behind any pieces: the next piece exactly when it goes on where the accepted ones ended; all of them together within one call's limits.
-- Assumes nothing.
use mathlib.Core.Path.{◌≡◌, refl, sym, ap, ◌∙◌}
use mathlib.Core.Bool.{Bool, true}
use mathlib.Core.Logic.{◌↔◌}
use mathlib.Core.List.{List}
use Prim.Native.Nat.{ℕ, ◌≤◌}
use native.Mathlib.Omega.{arith}
use borrow.Author.Tests.{le-leb, leb-true, eq-eqb, eqb-true}
use lib.ListN.{length}
use Rattle.std.specs.Prelude.{Ok}
use Rattle.answers.specs.Answers.{number_of, done_of}
use Rattle.answers.proofs.Chain.{zero_done}
use Rattle.rules.specs.Rules.{longest_note}
use Rattle.rules.specs.Limits.{PartLimits}
use Rattle.places.specs.declared.terms.Terms.{Terms}
use Rattle.places.specs.declared.Part.{Part}
use Rattle.places.specs.declared.Part.TheVariants.{Note, Body, Trailer}
use Rattle.places.specs.declared.Place.{Place}
use Rattle.places.specs.Places.{limit_of, count_of, piece_answer}
use Rattle.places.proofs.Accepts.{sound_counts, accepted as accepts-known, accepted_own, accepted_at, accepts}
use Rattle.session.specs.Sessions.{Way, sealing, checking, exact_of, Kind, piece_of}
use Rattle.session.specs.Offered.{Piece, joined, header_of, held_by}
use Rattle.session.specs.Refusals.{most}
use Rattle.session.specs.Promises.{Started, ExactOutput, GoesOn}
use Rattle.session.proofs.Joining.{header_long}
use Rattle.session.proofs.Refused.{Lawful, piece_answered}
use Rattle.session.proofs.Held.{answer_held}
use Rattle.session.proofs.Begun.{after_start, accepted_from, note_of, body_of, trailer_of, part_of, place_of, session_is, stays_sound}

most_is : (j : Part) → limit_of j ≡ most j
most_is Note = refl
most_is Body = refl
most_is Trailer = refl

exact_from : (way : Way) (j : Part) (m out : ℕ) → exact_of way j m out ≡ true → ExactOutput way j m out
exact_from sealing Note m out e = eqb-true out 0 e
exact_from sealing Body m out e = eqb-true out m e
exact_from sealing Trailer m out e = eqb-true out 0 e
exact_from checking j m out e = tt

exact_to : (way : Way) (j : Part) (m out : ℕ) → ExactOutput way j m out → exact_of way j m out ≡ true
exact_to sealing Note m out e = eq-eqb out 0 e
exact_to sealing Body m out e = eq-eqb out m e
exact_to sealing Trailer m out e = eq-eqb out 0 e
exact_to checking j m out e = refl

module _ (K : Kind) (L : Lawful K) (key nonce : List ℕ) (T : Terms) (begins : Started K key nonce T) (qs : List Piece) where
  abbrev n : List ℕ
  n = note_of K key nonce T qs

  abbrev b : List ℕ
  b = body_of K key nonce T qs

  abbrev t : List ℕ
  t = trailer_of K key nonce T qs

  abbrev part : Part
  part = part_of K key nonce T qs

  abbrev place : Place
  place = place_of K key nonce T qs

  -- the joined parts are within the limits of one call
  pub parts_within : PartLimits (length (header_of T (note_of K key nonce T qs))) (length (body_of K key nonce T qs)) (length (trailer_of K key nonce T qs))
  parts_within =
      let counts = sound_counts place (stays_sound K L key nonce T begins qs) in
      let note : length n ≤ longest_note = counts.0 in
      record { header_within = omega (arith, header_long T n); body_within = counts.1; trailer_within = counts.2 }

  counted : (j : Part) → count_of place j ≡ length (joined j (accepted_from K key nonce T qs))
  counted Note = refl
  counted Body = refl
  counted Trailer = refl

  -- ---- a piece is accepted exactly when it goes on where the accepted ones ended

  module _ (q : Piece) where
    abbrev k : Part
    k = q.label.part

    abbrev exact : Bool
    exact = exact_of K.way k (length q.bytes) (length q.out)

    answered : K.answer (piece_of K (after_start K key nonce T qs) q.label q.bytes q.out) ≡ piece_answer place q.label (length q.bytes) exact
    answered = ap (λ (s : K.Session). K.answer (piece_of K s q.label q.bytes q.out)) (session_is K L key nonce T begins qs) ∙ piece_answered K L (held_by K key nonce T (accepted_from K key nonce T qs)) q.label q.bytes q.out ∙ answer_held K L key nonce T part n b t q

    goes_on : done_of (piece_answer place q.label (length q.bytes) exact) ≡ true → GoesOn K.way T (accepted_from K key nonce T qs) q
    goes_on h =
        let a = accepts-known place q.label (length q.bytes) exact h in
        record {
          own_edition = accepted_own place q.label (length q.bytes) exact h;
          onward = leb-true _ _ a.onward;
          at_count = accepted_at place q.label (length q.bytes) exact h ∙ counted k;
          room = rw (sym (counted k), sym (most_is k)) a.room;
          exact_output = exact_from K.way k (length q.bytes) (length q.out) a.fits;
        }

    takes_it : GoesOn K.way T (accepted_from K key nonce T qs) q → piece_answer place q.label (length q.bytes) exact ≡ (Ok tt)
    takes_it g =
        accepts place q.label (length q.bytes) exact (stays_sound K L key nonce T begins qs) g.own_edition (le-leb _ _ g.onward) (g.at_count ∙ sym (counted k))
        (rw (counted k, most_is k) g.room) (exact_to K.way k (length q.bytes) (length q.out) g.exact_output)

    pub takes_piece : (number_of (K.answer (piece_of K (after_start K key nonce T qs) q.label q.bytes q.out)) ≡ 0) ↔ GoesOn K.way T (accepted_from K key nonce T qs) q
    takes_piece = (
      λ e. goes_on (zero_done (piece_answer place q.label (length q.bytes) exact) (sym (ap number_of answered) ∙ e)),
      λ g. ap number_of (answered ∙ takes_it g),
    )
