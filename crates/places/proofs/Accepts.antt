-- What is known where a start, a piece or a close is answered 0, and when it is; when it is answered 9 or 12, and that numbers alone are never answered 10; that a place stays sound.
-- Assumes nothing.
use mathlib.Core.Path.{◌≡◌, refl, ap}
use mathlib.Core.Bool.{Bool, true, false, ◌&&◌, false≢true}
use mathlib.Core.Logic.{⊎_elim, ◌↔◌, ◌≢◌}
use Prim.Native.Nat.{ℕ, ◌+◌, ◌≤◌}
use native.Mathlib.Omega.{arith}
use borrow.Author.Tests.{leb-true, le-leb, eqb-true, eq-eqb}
use lib.Dec.{leb, eqb}
use Rattle.std.specs.Prelude.{Ok, Err}
use Rattle.norx.specs.Norx.{Width, row_bytes}
use Rattle.answers.specs.declared.Refusal.TheVariants.{KeyLength, RoundsNumber, TagLength, OverLimit, OutputLength, EarlierPart, OtherOffset, NotSound, OtherJob}
use Rattle.answers.specs.Answers.{Answer, number_of, done_of, need_of}
use Rattle.answers.proofs.Tests.{either}
use Rattle.answers.proofs.Chain.{done_zero, zero_done, passed, passes, link_not, both, and_true}
use Rattle.rules.specs.Rules.{rounds_ok, lengths_ok}
use Rattle.rules.specs.Limits.{StartLimits}
use Rattle.rules.proofs.Limits.{start_from, start_to}
use Rattle.places.specs.declared.terms.Edition.{Edition}
use Rattle.places.specs.declared.terms.Terms.{Terms}
use Rattle.places.specs.declared.Part.{Part}
use Rattle.places.specs.declared.Part.TheVariants.{Note, Body, Trailer}
use Rattle.places.specs.declared.Label.{Label}
use Rattle.places.specs.declared.Standing.{Standing}
use Rattle.places.specs.declared.Standing.TheVariants.{Closed, Open}
use Rattle.places.specs.declared.Place.{Place}
use Rattle.places.specs.Terms.{terms_ok, edition_link}
use Rattle.places.specs.Places.{rank_of, present_of, limit_of, count_of, moved, counts_within, unreached_of, sound_at, sound_of, start_answer, piece_answer, close_answer, Accepted}
use Rattle.places.proofs.Editions.{edition_passed, edition_same, edition_own, edition_not, other_job, same_job}

within_at : (s : Standing) (p : Place) → sound_at s p ≡ true → counts_within p ≡ true
within_at Closed p e = absurd (false≢true e)
within_at (Open part) p e = (both (terms_ok p.terms) (counts_within p) (both (terms_ok p.terms && counts_within p) (unreached_of p part) e).0).1

pub sound_within : (p : Place) → sound_of p ≡ true → counts_within p ≡ true
unfolding sound_of
sound_within p e = within_at p.standing p e

-- no count over its limit
each_within : (p : Place) → counts_within p ≡ true
    → (leb p.note (limit_of Note) ≡ true) × (leb p.body (limit_of Body) ≡ true) × (leb p.trailer (limit_of Trailer) ≡ true)
each_within p e =
    let first = both (leb p.note (limit_of Note) && leb p.body (limit_of Body)) (leb p.trailer (limit_of Trailer)) e in
    let second = both (leb p.note (limit_of Note)) (leb p.body (limit_of Body)) first.0 in
    (second.0, second.1, first.1)

pub sound_counts : (p : Place) → sound_of p ≡ true → (p.note ≤ limit_of Note) × (p.body ≤ limit_of Body) × (p.trailer ≤ limit_of Trailer)
sound_counts p e =
    let each = each_within p (sound_within p e) in
    (leb-true p.note (limit_of Note) each.0, leb-true p.body (limit_of Body) each.1, leb-true p.trailer (limit_of Trailer) each.2)

pub sound_noted : (p : Place) → sound_of p ≡ true → p.note ≤ limit_of Note
sound_noted p e = (sound_counts p e).0

terms_at : (s : Standing) (p : Place) → sound_at s p ≡ true → terms_ok p.terms ≡ true
terms_at Closed p e = absurd (false≢true e)
terms_at (Open part) p e = (both (terms_ok p.terms) (counts_within p) (both (terms_ok p.terms && counts_within p) (unreached_of p part) e).0).0

pub sound_terms : (p : Place) → sound_of p ≡ true → terms_ok p.terms ≡ true
unfolding sound_of
sound_terms p e = terms_at p.standing p e

pub startable : (row : ℕ) (T : Terms) (key nonce : ℕ) → done_of (start_answer row T key nonce) ≡ true → (terms_ok T ≡ true) × (key ≡ row) × (nonce ≡ row)
unfolding start_answer
startable row T key nonce h =
    let rounds = passed _ _ _ h in
    let lengths = both (eqb key row) (eqb nonce row) (passed _ _ _ rounds.1).0 in
    (rounds.0, eqb-true key row lengths.0, eqb-true nonce row lengths.1)

-- a start is answered 0 exactly where the limits are kept
pub start_limits : (w : Width) (T : Terms) (key nonce : ℕ) → (number_of (start_answer (row_bytes w) T key nonce) ≡ 0) ↔ StartLimits w T.rounds key nonce
unfolding start_answer
start_limits w T key nonce = (from, to)
  where
    from : number_of (start_answer (row_bytes w) T key nonce) ≡ 0 → StartLimits w T.rounds key nonce
    from e =
        let a = passed (rounds_ok T.rounds) RoundsNumber _ (zero_done (start_answer (row_bytes w) T key nonce) e) in
        let b = passed (lengths_ok (row_bytes w) key nonce) KeyLength (Ok tt) a.1 in
        start_from w T.rounds key nonce a.0 b.0

    to : StartLimits w T.rounds key nonce → number_of (start_answer (row_bytes w) T key nonce) ≡ 0
    to h =
        let s = start_to w T.rounds key nonce h in
        done_zero (start_answer (row_bytes w) T key nonce) (passes _ _ _ s.0 (passes _ _ (Ok tt) s.1 refl))

pub accepted : (p : Place) (label : Label) (n : ℕ) (exact : Bool) → done_of (piece_answer p label n exact) ≡ true → Accepted p label.part n exact
unfolding piece_answer
accepted p label n exact h =
    let sound = passed _ _ _ h in
    let onward = passed _ _ _ (edition_passed label.edition p.terms.edition _ sound.1) in
    let place = passed _ _ _ onward.1 in
    let room = passed _ _ _ place.1 in
    record {
      sound = sound.0;
      onward = onward.0;
      noted = sound_noted p sound.0;
      termed = sound_terms p sound.0;
      room = leb-true _ _ room.0;
      fits = (passed _ _ _ room.1).0;
    }

-- and it is of the session's own edition, at the accepted count of its part
pub accepted_own : (p : Place) (label : Label) (n : ℕ) (exact : Bool) → done_of (piece_answer p label n exact) ≡ true → label.edition ≡ p.terms.edition
unfolding piece_answer
accepted_own p label n exact h = edition_same label.edition p.terms.edition _ (passed _ _ _ h).1

pub accepted_at : (p : Place) (label : Label) (n : ℕ) (exact : Bool) → done_of (piece_answer p label n exact) ≡ true → label.offset ≡ count_of p label.part
unfolding piece_answer
accepted_at p label n exact h =
    let sound = passed _ _ _ h in
    let onward = passed _ _ _ (edition_passed label.edition p.terms.edition _ sound.1) in
    eqb-true _ _ (passed _ _ _ onward.1).0

-- a piece of which all that holds is accepted
pub accepts : (p : Place) (label : Label) (n : ℕ) (exact : Bool) → sound_of p ≡ true → label.edition ≡ p.terms.edition
    → leb (present_of p.standing) (rank_of label.part) ≡ true → label.offset ≡ count_of p label.part → count_of p label.part + n ≤ limit_of label.part
    → exact ≡ true → piece_answer p label n exact ≡ Ok tt
unfolding piece_answer need_of
accepts p label n exact sound own onward at room fits =
    let here : eqb label.offset (count_of p label.part) ≡ true = eq-eqb _ _ at in
    let enough : leb (count_of p label.part + n) (limit_of label.part) ≡ true = le-leb _ _ room in
    rw (sound, own, edition_own p.terms.edition, onward, here, enough, fits)

pub closable : (p : Place) (edition : Edition) (wanted tag : ℕ) → done_of (close_answer p edition wanted tag) ≡ true
    → (p.note ≤ limit_of Note) × (terms_ok p.terms ≡ true) × (tag ≡ wanted)
unfolding close_answer
closable p edition wanted tag h =
    let sound = passed _ _ _ h in
    let within = passed _ _ _ (edition_passed edition p.terms.edition _ sound.1) in
    (sound_noted p sound.0, sound_terms p sound.0, eqb-true tag wanted (passed _ _ _ within.1).0)

pub closable_own : (p : Place) (edition : Edition) (wanted tag : ℕ) → done_of (close_answer p edition wanted tag) ≡ true → (sound_of p ≡ true) × (edition ≡ p.terms.edition)
unfolding close_answer
closable_own p edition wanted tag h =
    let sound = passed _ _ _ h in
    (sound.0, edition_same edition p.terms.edition _ sound.1)

-- ---- a place stays sound

module _ (p : Place) (n : ℕ) where
  within_moved : (k : Part) → counts_within p ≡ true → leb (count_of p k + n) (limit_of k) ≡ true → counts_within (moved p k n) ≡ true
  within_moved k e room =
      let had = each_within p e in
      go k room had.0 had.1 had.2
    where
      go : (k : Part) → leb (count_of p k + n) (limit_of k) ≡ true → leb p.note (limit_of Note) ≡ true → leb p.body (limit_of Body) ≡ true → leb p.trailer (limit_of Trailer) ≡ true
          → counts_within (moved p k n) ≡ true
      go Note room a b c = and_true _ _ (and_true _ _ room b) c
      go Body room a b c = and_true _ _ (and_true _ _ a room) c
      go Trailer room a b c = and_true _ _ (and_true _ _ a b) room

  unreached_moved : (part k : Part) → unreached_of p part ≡ true → leb (rank_of part) (rank_of k) ≡ true → unreached_of (moved p k n) k ≡ true
  unreached_moved Note Note e o = e
  unreached_moved Note Body e o = (both (eqb p.body 0) (eqb p.trailer 0) e).1
  unreached_moved part Trailer e o = refl
  unreached_moved Body Note e o = absurd (false≢true o)
  unreached_moved Body Body e o = e
  unreached_moved Trailer Note e o = absurd (false≢true o)
  unreached_moved Trailer Body e o = absurd (false≢true o)

  sound_at_lem : (s : Standing) (k : Part) → sound_at s p ≡ true → leb (present_of s) (rank_of k) ≡ true → leb (count_of p k + n) (limit_of k) ≡ true
      → sound_at (Open k) (moved p k n) ≡ true
  sound_at_lem Closed k e o room = absurd (false≢true e)
  sound_at_lem (Open part) k e o room =
      let first = both (terms_ok p.terms && counts_within p) (unreached_of p part) e in
      let second = both (terms_ok p.terms) (counts_within p) first.0 in
      go k second.0 (within_moved k second.1 room) (unreached_moved part k first.1 o)
    where
      go : (k : Part) → terms_ok p.terms ≡ true → counts_within (moved p k n) ≡ true → unreached_of (moved p k n) k ≡ true → sound_at (Open k) (moved p k n) ≡ true
      go Note a b c = and_true _ _ (and_true _ _ a b) c
      go Body a b c = and_true _ _ (and_true _ _ a b) c
      go Trailer a b c = and_true _ _ (and_true _ _ a b) c

  pub moved_sound : (k : Part) → sound_of p ≡ true → leb (present_of p.standing) (rank_of k) ≡ true → leb (count_of p k + n) (limit_of k) ≡ true → sound_at (Open k) (moved p k n) ≡ true
  unfolding sound_of
  moved_sound k e o room = sound_at_lem p.standing k e o room

-- a sound place is closed under its own edition with a tag of the right length
pub sound_closes : (p : Place) (wanted tag : ℕ) → sound_of p ≡ true → tag ≡ wanted → close_answer p p.terms.edition wanted tag ≡ Ok tt
unfolding close_answer need_of
sound_closes p wanted tag e f =
    let within : counts_within p ≡ true = sound_within p e in
    let long : eqb tag wanted ≡ true = eq-eqb tag wanted f in
    rw (e, edition_own p.terms.edition, within, long)

-- ---- 9, 10 and 12

-- behind soundness and the edition no link of a piece or of a close answers a number from 9 on
module _ (n : ℕ) (least : 9 ≤ n) (p : Place) where
  abbrev NotByEdition : Edition → Type 0
  NotByEdition given = (rest : Answer) → number_of rest ≢ n → number_of (edition_link given p.terms.edition rest) ≢ n

  piece_beyond : (label : Label) (k : ℕ) (exact : Bool) → NotByEdition label.edition → sound_of p ≡ true → number_of (piece_answer p label k exact) ≢ n
  unfolding piece_answer need_of
  piece_beyond label k exact not sound =
      rw sound
      (not _
      (link_not n (leb (present_of p.standing) (rank_of label.part)) EarlierPart _ (λ e. omega arith)
      (link_not n (eqb label.offset (count_of p label.part)) OtherOffset _ (λ e. omega arith)
      (link_not n (leb (count_of p label.part + k) (limit_of label.part)) OverLimit _ (λ e. omega arith)
      (link_not n exact OutputLength (Ok tt) (λ e. omega arith) (λ e. omega arith))))))

  close_beyond : (edition : Edition) (wanted tag : ℕ) → NotByEdition edition → sound_of p ≡ true → number_of (close_answer p edition wanted tag) ≢ n
  unfolding close_answer need_of
  close_beyond edition wanted tag not sound =
      rw sound
      (not _ (link_not n (counts_within p) OverLimit _ (λ e. omega arith) (link_not n (eqb tag wanted) TagLength (Ok tt) (λ e. omega arith) (λ e. omega arith))))

-- so behind soundness neither is answered 9 or 10
module _ (n : ℕ) (least : 9 ≤ n) (most : n ≤ 10) (p : Place) where
  pub piece_not : (label : Label) (k : ℕ) (exact : Bool) → sound_of p ≡ true → number_of (piece_answer p label k exact) ≢ n
  piece_not label k exact sound = piece_beyond n least p label k exact (λ rest. edition_not label.edition p.terms.edition rest n least most) sound

  pub close_not : (edition : Edition) (wanted tag : ℕ) → sound_of p ≡ true → number_of (close_answer p edition wanted tag) ≢ n
  close_not edition wanted tag sound = close_beyond n least p edition wanted tag (λ rest. edition_not edition p.terms.edition rest n least most) sound

-- a place that is not sound is answered 9
module _ (p : Place) (e : sound_of p ≡ false) where
  pub unsound_piece : (label : Label) (n : ℕ) (exact : Bool) → piece_answer p label n exact ≡ Err NotSound
  unfolding piece_answer need_of
  unsound_piece label n exact = rw e

  pub unsound_close : (edition : Edition) (wanted tag : ℕ) → close_answer p edition wanted tag ≡ Err NotSound
  unfolding close_answer need_of
  unsound_close edition wanted tag = rw e

-- so by its numbers alone neither is ever answered 10
never_10 : (p : Place) (a : Answer) → (sound_of p ≡ true → number_of a ≢ 10) → (sound_of p ≡ false → a ≡ Err NotSound) → number_of a ≢ 10
never_10 p a sound unsound =
    ⊎_elim sound (λ (e : sound_of p ≡ false). λ z. let nine : number_of a ≡ 9 = ap number_of (unsound e) in omega arith) (either (sound_of p))

pub piece_never_10 : (p : Place) (label : Label) (n : ℕ) (exact : Bool) → number_of (piece_answer p label n exact) ≢ 10
piece_never_10 p label n exact =
    never_10 p (piece_answer p label n exact) (piece_not 10 (omega arith) (omega arith) p label n exact) (λ e. unsound_piece p e label n exact)

pub close_never_10 : (p : Place) (edition : Edition) (wanted tag : ℕ) → number_of (close_answer p edition wanted tag) ≢ 10
close_never_10 p edition wanted tag =
    never_10 p (close_answer p edition wanted tag) (close_not 10 (omega arith) (omega arith) p edition wanted tag) (λ e. unsound_close p e edition wanted tag)

-- 12 is answered where a place is sound and the job another, and nowhere else
module _ (p : Place) (edition : Edition) where
  -- an answer from which all of this is read
  at_12 : (a : Answer) → (sound_of p ≡ false → a ≡ Err NotSound) → (sound_of p ≡ true → edition.job ≢ p.terms.edition.job → a ≡ Err OtherJob)
      → (sound_of p ≡ true → edition.job ≡ p.terms.edition.job → number_of a ≢ 12) → (number_of a ≡ 12) ↔ ((sound_of p ≡ true) × (edition.job ≢ p.terms.edition.job))
  at_12 a unsound other same = (from, λ h. ap number_of (other h.0 h.1))
    where
      from : number_of a ≡ 12 → (sound_of p ≡ true) × (edition.job ≢ p.terms.edition.job)
      from z =
          ⊎_elim
          (λ (e : sound_of p ≡ true). (e, λ j. same e j z))
          (λ (e : sound_of p ≡ false). let nine : number_of a ≡ 9 = ap number_of (unsound e) in let no : ⊥ = omega arith in absurd no)
          (either (sound_of p))

pub piece_12 : (p : Place) (label : Label) (n : ℕ) (exact : Bool)
    → (number_of (piece_answer p label n exact) ≡ 12) ↔ ((sound_of p ≡ true) × (label.edition.job ≢ p.terms.edition.job))
unfolding piece_answer need_of
piece_12 p label n exact =
    at_12 p label.edition (piece_answer p label n exact)
    (λ e. unsound_piece p e label n exact)
    (λ e other. rw e (other_job label.edition p.terms.edition _ other))
    (λ e same. piece_beyond 12 (omega arith) p label n exact (λ rest. same_job label.edition p.terms.edition rest same) e)

pub close_12 : (p : Place) (edition : Edition) (wanted tag : ℕ)
    → (number_of (close_answer p edition wanted tag) ≡ 12) ↔ ((sound_of p ≡ true) × (edition.job ≢ p.terms.edition.job))
unfolding close_answer need_of
close_12 p edition wanted tag =
    at_12 p edition (close_answer p edition wanted tag)
    (λ e. unsound_close p e edition wanted tag)
    (λ e other. rw e (other_job edition p.terms.edition _ other))
    (λ e same. close_beyond 12 (omega arith) p edition wanted tag (λ rest. same_job edition p.terms.edition rest same) e)

-- a closed place is not sound
closed_at : (s : Standing) (p : Place) → s ≡ Closed → sound_at s p ≡ false
closed_at s p e = ap (λ (z : Standing). sound_at z p) e

pub closed_unsound : (p : Place) → p.standing ≡ Closed → sound_of p ≡ false
unfolding sound_of
closed_unsound p e = closed_at p.standing p e
