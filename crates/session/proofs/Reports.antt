-- What a close reports of the runs of P, of any session: those of the whole sealing with 0 and 10, and none with any other refusal.
-- Assumes nothing.
use mathlib.Core.Path.{◌≡◌, refl, ap, ◌∙◌}
use mathlib.Core.Bool.{true, false}
use mathlib.Core.Logic.{◌⊎◌, ⊎_elim}
use mathlib.Core.List.{List}
use Prim.Native.Nat.{ℕ, ◌+◌, ◌≤◌}
use native.Mathlib.Omega.{arith}
use borrow.Author.Tests.{le-leb}
use lib.ListN.{length}
use Rattle.answers.specs.Answers.{Answer, done_of, runs_with}
use Rattle.answers.proofs.Tests.{either, cond_true}
use Rattle.answers.proofs.Runs.{same_report}
use Rattle.rules.specs.Limits.{PartLimits}
use Rattle.rules.proofs.Limits.{parts_to}
use Rattle.rules.proofs.Work.{reports_runs}
use Rattle.places.specs.declared.terms.Edition.{Edition}
use Rattle.places.specs.declared.Part.TheVariants.{Note, Body, Trailer}
use Rattle.places.specs.declared.Place.{Place}
use Rattle.places.specs.Places.{limit_of, sound_of}
use Rattle.places.proofs.Accepts.{sound_counts, closable_own}
use Rattle.session.specs.Sessions.{place_runs, place_runs_within, Kind, tag_length, close_answer_of, close_of, close_runs}
use Rattle.session.specs.Offered.{close_number}
use Rattle.session.specs.Refusals.{ReportsCloses}
use Rattle.session.proofs.Refused.{Lawful, no_verdict}

module _ (K : Kind) (L : Lawful K) (s : K.Session) (edition : Edition) (tag : List ℕ) where
  abbrev p : Place
  p = K.place s

  abbrev answer : Answer
  answer = K.answer (close_of K s edition tag)

  -- a close that is answered 0 or 10 is one of a sound session
  pub close_sound : (close_number K s edition tag ≡ 0) ⊎ (close_number K s edition tag ≡ 10) → sound_of (K.place s) ≡ true
  unfolding close_answer_of
  close_sound h =
      ⊎_elim
      (λ (e : done_of (close_answer_of K s edition tag) ≡ true). (closable_own p edition (tag_length K) (length tag) e).0)
      (λ (e : done_of (close_answer_of K s edition tag) ≡ false). absurd (no_verdict K L s edition tag e h))
      (either (done_of (close_answer_of K s edition tag)))

  counts : (close_number K s edition tag ≡ 0) ⊎ (close_number K s edition tag ≡ 10) → (p.note ≤ limit_of Note) × (p.body ≤ limit_of Body) × (p.trailer ≤ limit_of Trailer)
  counts h = sound_counts p (close_sound h)

  within : (close_number K s edition tag ≡ 0) ⊎ (close_number K s edition tag ≡ 10) → PartLimits (16 + p.note) p.body p.trailer
  within h = let n = counts h in record { header_within = omega (arith, n.0); body_within = n.1; trailer_within = n.2 }

  -- the number that is worked out from the session's place, where it is reported, is that of the whole sealing
  right_where_reported : (close_number K s edition tag ≡ 0) ⊎ (close_number K s edition tag ≡ 10) → place_runs_within K.width p ≡ place_runs K.width p
  right_where_reported h =
      cond_true _ _ 0 (le-leb p.note (limit_of Note) (counts h).0) ∙ cond_true _ _ 0 (parts_to (16 + p.note) p.body p.trailer (within h))

  pub close_reports : {a : Answer} {q : Place} {n m : ℕ} → a ≡ K.answer (close_of K s edition tag) → q ≡ K.place s → n ≡ place_runs_within K.width q
      → m ≡ runs_with a n → m ≡ close_runs K s edition tag
  unfolding close_runs
  close_reports {a} {q} {n} {m} ea eq en em =
      em ∙ ap (λ (x : Answer). runs_with x n) ea
      ∙ same_report answer n (place_runs K.width p) (λ h. en ∙ ap (place_runs_within K.width) eq ∙ right_where_reported h)

pub reports_closes : (K : Kind) → Lawful K → ReportsCloses K
unfolding close_runs
reports_closes K L s edition tag =
    reports_runs K.width (K.answer (close_of K s edition tag)) _ (16 + (K.place s).note) (K.place s).body (K.place s).trailer refl (within K L s edition tag)
