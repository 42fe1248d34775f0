-- A place that the checks find sound is sound by its numbers, and the other way round.
-- Assumes nothing.
use mathlib.Core.Path.{◌≡◌, refl, ap, ◌∙◌}
use mathlib.Core.Bool.{true, false, ◌&&◌, false≢true}
use mathlib.Core.Logic.{⊎_elim}
use borrow.Author.Tests.{le-leb, eq-eqb, eqb-true}
use lib.Dec.{eqb}
use Rattle.answers.proofs.Tests.{either}
use Rattle.answers.proofs.Chain.{both, and_true}
use Rattle.rules.proofs.Limits.{rounds_from, rounds_to}
use Rattle.places.specs.declared.Part.{Part}
use Rattle.places.specs.declared.Part.TheVariants.{Note, Body, Trailer}
use Rattle.places.specs.declared.Standing.{Standing}
use Rattle.places.specs.declared.Standing.TheVariants.{Closed, Open}
use Rattle.places.specs.declared.Place.{Place}
use Rattle.places.specs.Terms.{terms_ok}
use Rattle.places.specs.Places.{counts_within, unreached_of, sound_at, sound_of}
use Rattle.places.proofs.Accepts.{sound_counts}
use Rattle.session.specs.Refusals.{Unreached, Sound}

unreached_from : (part : Part) (p : Place) → unreached_of p part ≡ true → Unreached part p
unreached_from Note p e = let each = both (eqb p.body 0) (eqb p.trailer 0) e in (eqb-true _ _ each.0, eqb-true _ _ each.1)
unreached_from Body p e = eqb-true _ _ e
unreached_from Trailer p e = tt

unreached_to : (part : Part) (p : Place) → Unreached part p → unreached_of p part ≡ true
unreached_to Note p h = and_true _ _ (eq-eqb _ _ h.0) (eq-eqb _ _ h.1)
unreached_to Body p h = eq-eqb _ _ h
unreached_to Trailer p h = refl

module _ (p : Place) where
  by_standing : (s : Standing) → p.standing ≡ s → sound_of p ≡ true → sound_at s p ≡ true → Sound p
  by_standing Closed is whole e = absurd (false≢true e)
  by_standing (Open part) is whole e =
      let first = both (terms_ok p.terms && counts_within p) (unreached_of p part) e in
      let counts = sound_counts p whole in
      record {
        part = part;
        is_open = is;
        rounds = rounds_from p.terms.rounds (both (terms_ok p.terms) (counts_within p) first.0).0;
        note_within = counts.0;
        body_within = counts.1;
        trailer_within = counts.2;
        unreached = unreached_from part p first.1;
      }

  pub sound_from : sound_of p ≡ true → Sound p
  unfolding sound_of
  sound_from e = by_standing p.standing refl e e

  pub sound_to : Sound p → sound_of p ≡ true
  unfolding sound_of
  sound_to h =
      ap (λ (s : Standing). sound_at s p) h.is_open
      ∙ and_true _ _
      (and_true _ _ (rounds_to p.terms.rounds h.rounds)
      (and_true _ _ (and_true _ _ (le-leb _ _ h.note_within) (le-leb _ _ h.body_within)) (le-leb _ _ h.trailer_within)))
      (unreached_to h.part p h.unreached)

  pub not_sound : (Sound p → ⊥) → sound_of p ≡ false
  not_sound never = ⊎_elim (λ (e : sound_of p ≡ true). absurd (never (sound_from e))) (λ (e : sound_of p ≡ false). e) (either (sound_of p))
