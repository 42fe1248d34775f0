-- A refused call changes nothing, of any session; a close that is not refused gives back the closed session; 9 is answered exactly where a session is not sound, 12 exactly where it is and the job is another, and 10 by the close of a check alone.
-- Assumes nothing.
use mathlib.Core.Path.{◌≡◌, refl, sym, ap, ap₂, ◌∙◌}
use mathlib.Core.Bool.{Bool, true, false, false≢true}
use mathlib.Core.Logic.{◌⊎◌, inl, inr, ⊎_elim, ◌↔◌, ◌≢◌}
use mathlib.Core.List.{List, [], ◌∷◌, ◌++◌}
use Prim.Native.Nat.{ℕ}
use native.Mathlib.Omega.{arith}
use lib.ListN.{length}
use Rattle.std.specs.Prelude.{Ok, Err}
use Rattle.norx.specs.Norx.{State, tag_bits, same}
use Rattle.answers.specs.declared.Refusal.TheVariants.{NotSound, TagDiffers}
use Rattle.answers.specs.Answers.{Answer, number_of, done_of, need_of}
use Rattle.answers.proofs.Tests.{either, cond_true, cond_false}
use Rattle.answers.proofs.Chain.{zero_done, not_done, by_number}
use Rattle.places.specs.declared.terms.Edition.{Edition}
use Rattle.places.specs.declared.Label.{Label}
use Rattle.places.specs.declared.Place.{Place}
use Rattle.places.specs.Places.{sound_of}
use Rattle.places.proofs.Accepts.{piece_not, close_not, piece_12, close_12, unsound_piece, unsound_close, piece_never_10, close_never_10, closed_unsound}
use Rattle.session.specs.Sessions.{Way, sealing, checking, verdict_of, exact_of, Kind, closed_of, tag_length, own_tag, piece_answer_of, piece_of, piece_out, close_answer_of, close_of, close_tag}
use Rattle.session.specs.Offered.{Piece, Close, close, piece_number, close_number, after_call, is_accepted, wrote}
use Rattle.session.specs.Refusals.{RefusesUnsound, RefusesOtherJobs, RefusalChangesNothing, CloseEnds, ClosedRefuses, NoPieceAnswers10, NoCloseAnswers10}
use Rattle.session.proofs.Pieces.{after_piece, after_all, accepted, wrote_all}
use Rattle.session.proofs.Sound.{sound_from, sound_to, not_sound}

-- a kind is lawful where what it puts together it takes apart again, and its tag is the width's
pub record Lawful (K : Kind) : Type 0 where
  pub placed : (p : Place) (s : State) (k : List ℕ) → K.place (K.make p s k) ≡ p
  pub stated : (p : Place) (s : State) (k : List ℕ) → K.state (K.make p s k) ≡ s
  pub keyed : (p : Place) (s : State) (k : List ℕ) → K.key (K.make p s k) ≡ k
  pub answered : (a : Answer) (s : K.Session) → K.answer (K.step a s) ≡ a
  pub stepped : (a : Answer) (s : K.Session) → K.next (K.step a s) ≡ s
  pub tagged : K.tag_bits ≡ tag_bits K.width

module _ (K : Kind) (L : Lawful K) where
  -- ---- a piece, by what its numbers are answered

  pub piece_answered : (s : K.Session) (label : Label) (x out : List ℕ) → K.answer (piece_of K s label x out) ≡ piece_answer_of K s label x out
  unfolding piece_of
  piece_answered s label x out = L.answered _ _

  piece_refused : (s : K.Session) (label : Label) (x out : List ℕ) → done_of (piece_answer_of K s label x out) ≡ false
      → (K.next (piece_of K s label x out) ≡ s) × (piece_out K s label x out ≡ out)
  unfolding piece_of piece_out
  piece_refused s label x out h = (L.stepped _ _ ∙ cond_false _ _ _ h, cond_false _ _ _ h)

  abbrev pub answer_to : K.Session → Piece → Answer
  answer_to s q = piece_answer_of K s q.label q.bytes q.out

  pub accepted_answer : (s : K.Session) (q : Piece) → is_accepted K s q ≡ done_of (answer_to s q)
  accepted_answer s q = by_number (K.answer (piece_of K s q.label q.bytes q.out)) ∙ ap done_of (piece_answered s q.label q.bytes q.out)

  pub refused_session : (s : K.Session) (q : Piece) → is_accepted K s q ≡ false → after_piece K s q ≡ s
  refused_session s q h = (piece_refused s q.label q.bytes q.out (sym (accepted_answer s q) ∙ h)).0

  pub session_without : (qs : List Piece) (s : K.Session) → after_all K s qs ≡ after_all K s (accepted K s qs)
  session_without [] s = refl
  session_without (q ∷ qs) s =
      ⊎_elim
      (λ (h : is_accepted K s q ≡ true). session_without qs (after_piece K s q) ∙ sym (ap (after_all K s) (cond_true (is_accepted K s q) _ _ h)))
      (λ (h : is_accepted K s q ≡ false). session_without qs (after_piece K s q)
      ∙ ap (λ (u : K.Session). after_all K u (accepted K (after_piece K s q) qs)) (refused_session s q h)
      ∙ sym (ap (after_all K s) (cond_false (is_accepted K s q) _ _ h)))
      (either (is_accepted K s q))

  pub wrote_without : (qs : List Piece) (s : K.Session) → wrote_all K s qs ≡ wrote_all K s (accepted K s qs)
  wrote_without [] s = refl
  wrote_without (q ∷ qs) s =
      let rest : List Piece = accepted K (after_piece K s q) qs in
      ⊎_elim
      (λ (h : is_accepted K s q ≡ true). ap (λ (x : List ℕ). wrote K s q ++ x) (wrote_without qs (after_piece K s q))
      ∙ sym (ap (wrote_all K s) (cond_true (is_accepted K s q) (q ∷ rest) rest h)))
      (λ (h : is_accepted K s q ≡ false). ap₂ (λ (x y : List ℕ). x ++ y) (cond_false (is_accepted K s q) _ [] h) (wrote_without qs (after_piece K s q))
      ∙ ap (λ (u : K.Session). wrote_all K u rest) (refused_session s q h)
      ∙ sym (ap (wrote_all K s) (cond_false (is_accepted K s q) (q ∷ rest) rest h)))
      (either (is_accepted K s q))

  -- ---- a close, by what its numbers are answered

  module _ (s : K.Session) (edition : Edition) (tag : List ℕ) where
    abbrev a : Answer
    a = close_answer_of K s edition tag

    close_refused : done_of (close_answer_of K s edition tag) ≡ false
        → (K.answer (close_of K s edition tag) ≡ close_answer_of K s edition tag) × (K.next (close_of K s edition tag) ≡ s) × (close_tag K s edition tag ≡ tag)
    unfolding close_of close_tag
    close_refused h = (
      ap (λ (x : K.Step). K.answer x) (cond_false _ _ _ h) ∙ L.answered _ _,
      ap (λ (x : K.Step). K.next x) (cond_false _ _ _ h) ∙ L.stepped _ _,
      cond_false _ _ _ h,
    )

    close_ended : done_of (close_answer_of K s edition tag) ≡ true
        → (K.answer (close_of K s edition tag) ≡ verdict_of K.way tag (own_tag K s)) × (K.next (close_of K s edition tag) ≡ closed_of K)
    unfolding close_of
    close_ended h = (
      ap (λ (x : K.Step). K.answer x) (cond_true _ _ _ h) ∙ L.answered _ _,
      ap (λ (x : K.Step). K.next x) (cond_true _ _ _ h) ∙ L.stepped _ _,
    )

    never_10 : number_of a ≢ 10
    unfolding close_answer_of
    never_10 = close_never_10 (K.place s) edition (tag_length K) (length tag)

    -- a close that its numbers refuse is answered neither 0 nor 10
    pub no_verdict : done_of (close_answer_of K s edition tag) ≡ false → (close_number K s edition tag ≡ 0) ⊎ (close_number K s edition tag ≡ 10) → ⊥
    no_verdict e (inl z) = false≢true (sym e ∙ zero_done a (sym (ap number_of (close_refused e).0) ∙ z))
    no_verdict e (inr z) = never_10 (sym (ap number_of (close_refused e).0) ∙ z)

  abbrev pub close_to : K.Session → Close → Answer
  close_to s c = close_answer_of K s c.edition c.tag

  pub refused_close : (s : K.Session) (c : Close) → done_of (close_to s c) ≡ false → after_call K s (close c) ≡ s
  refused_close s c h = (close_refused s c.edition c.tag h).1

  pub ended_close : (s : K.Session) (c : Close) → done_of (close_to s c) ≡ true → after_call K s (close c) ≡ closed_of K
  ended_close s c h = (close_ended s c.edition c.tag h).1

  by_tag : (x : Bool) → (number_of (need_of x TagDiffers (Ok tt)) ≡ 0) ⊎ (number_of (need_of x TagDiffers (Ok tt)) ≡ 10)
  unfolding need_of
  by_tag true = inl refl
  by_tag false = inr refl

  pub verdict_number : (way : Way) (given own : List ℕ) → (number_of (verdict_of way given own) ≡ 0) ⊎ (number_of (verdict_of way given own) ≡ 10)
  verdict_number sealing given own = inl refl
  verdict_number checking given own = by_tag (same given own)

  ended_number : (s : K.Session) (edition : Edition) (tag : List ℕ) → done_of (close_answer_of K s edition tag) ≡ true
      → (close_number K s edition tag ≡ 0) ⊎ (close_number K s edition tag ≡ 10)
  ended_number s edition tag e = rw (close_ended s edition tag e).0 (verdict_number K.way tag (own_tag K s))

  -- ---- the promises

  pub refusal_changes_nothing : RefusalChangesNothing K
  refusal_changes_nothing = record {
    pieces = λ s label x out h.
        piece_refused s label x out
        (not_done (piece_answer_of K s label x out) (λ z. h (ap number_of (piece_answered s label x out) ∙ z)));
    closes = λ s edition tag h g.
        ⊎_elim
        (λ (e : done_of (close_answer_of K s edition tag) ≡ true). absurd (⊎_elim h g (ended_number s edition tag e)))
        (λ (e : done_of (close_answer_of K s edition tag) ≡ false). let was = close_refused s edition tag e in (was.1, was.2))
        (either (done_of (close_answer_of K s edition tag)));
  }

  pub close_ends : CloseEnds K
  close_ends s edition tag h =
      ⊎_elim
      (λ (e : done_of (close_answer_of K s edition tag) ≡ true). (close_ended s edition tag e).1)
      (λ (e : done_of (close_answer_of K s edition tag) ≡ false). absurd (no_verdict s edition tag e h))
      (either (done_of (close_answer_of K s edition tag)))

  pub no_piece_answers_10 : NoPieceAnswers10 K
  unfolding piece_answer_of
  no_piece_answers_10 s label x out z =
      piece_never_10 (K.place s) label (length x) (exact_of K.way label.part (length x) (length out)) (sym (ap number_of (piece_answered s label x out)) ∙ z)

  pub no_close_answers_10 : K.way ≡ sealing → NoCloseAnswers10 K
  no_close_answers_10 seals s edition tag z =
      ⊎_elim
      (λ (e : done_of (close_answer_of K s edition tag) ≡ true).
      let zero : close_number K s edition tag ≡ 0 = ap number_of ((close_ended s edition tag e).0 ∙ ap (λ (way : Way). verdict_of way tag (own_tag K s)) seals) in
      omega arith)
      (λ (e : done_of (close_answer_of K s edition tag) ≡ false). no_verdict s edition tag e (inr z))
      (either (done_of (close_answer_of K s edition tag)))

  -- ---- 9

  unsound_piece_9 : (s : K.Session) (label : Label) (x out : List ℕ) → sound_of (K.place s) ≡ false → piece_number K s label x out ≡ 9
  unfolding piece_answer_of
  unsound_piece_9 s label x out e = ap number_of (piece_answered s label x out ∙ unsound_piece (K.place s) e label (length x) _)

  unsound_close_9 : (s : K.Session) (edition : Edition) (tag : List ℕ) → sound_of (K.place s) ≡ false → close_number K s edition tag ≡ 9
  unfolding close_answer_of
  unsound_close_9 s edition tag e =
      let answer : close_answer_of K s edition tag ≡ Err NotSound = unsound_close (K.place s) e edition (tag_length K) (length tag) in
      ap number_of ((close_refused s edition tag (ap done_of answer)).0 ∙ answer)

  sound_piece_9 : (s : K.Session) (label : Label) (x out : List ℕ) → sound_of (K.place s) ≡ true → piece_number K s label x out ≢ 9
  unfolding piece_answer_of
  sound_piece_9 s label x out e z =
      piece_not 9 (omega arith) (omega arith) (K.place s) label (length x) (exact_of K.way label.part (length x) (length out)) e
      (sym (ap number_of (piece_answered s label x out)) ∙ z)

  sound_close_9 : (s : K.Session) (edition : Edition) (tag : List ℕ) → sound_of (K.place s) ≡ true → close_number K s edition tag ≢ 9
  unfolding close_answer_of
  sound_close_9 s edition tag sound z =
      ⊎_elim
      (λ (e : done_of (close_answer_of K s edition tag) ≡ true). ⊎_elim (λ y. omega arith) (λ y. omega arith) (ended_number s edition tag e))
      (λ (e : done_of (close_answer_of K s edition tag) ≡ false).
      close_not 9 (omega arith) (omega arith) (K.place s) edition (tag_length K) (length tag) sound (sym (ap number_of (close_refused s edition tag e).0) ∙ z))
      (either (done_of (close_answer_of K s edition tag)))

  pub refuses_unsound : RefusesUnsound K
  refuses_unsound = record {
    pieces = λ s label x out.
        (λ e sound. sound_piece_9 s label x out (sound_to (K.place s) sound) e, λ never. unsound_piece_9 s label x out (not_sound (K.place s) never));
    closes = λ s edition tag.
        (λ e sound. sound_close_9 s edition tag (sound_to (K.place s) sound) e, λ never. unsound_close_9 s edition tag (not_sound (K.place s) never));
  }

  -- ---- 12

  piece_to_12 : (s : K.Session) (label : Label) (x out : List ℕ)
      → (piece_number K s label x out ≡ 12) ↔ ((sound_of (K.place s) ≡ true) × (label.edition.job ≢ (K.place s).terms.edition.job))
  unfolding piece_answer_of
  piece_to_12 s label x out =
      let by_numbers = piece_12 (K.place s) label (length x) (exact_of K.way label.part (length x) (length out)) in
      (λ z. by_numbers.0 (sym (ap number_of (piece_answered s label x out)) ∙ z), λ h. ap number_of (piece_answered s label x out) ∙ by_numbers.1 h)

  close_to_12 : (s : K.Session) (edition : Edition) (tag : List ℕ)
      → (close_number K s edition tag ≡ 12) ↔ ((sound_of (K.place s) ≡ true) × (edition.job ≢ (K.place s).terms.edition.job))
  unfolding close_answer_of
  close_to_12 s edition tag = (from, to)
    where
      by_numbers : (number_of (close_answer_of K s edition tag) ≡ 12) ↔ ((sound_of (K.place s) ≡ true) × (edition.job ≢ (K.place s).terms.edition.job))
      by_numbers = close_12 (K.place s) edition (tag_length K) (length tag)

      from : close_number K s edition tag ≡ 12 → (sound_of (K.place s) ≡ true) × (edition.job ≢ (K.place s).terms.edition.job)
      from z =
          ⊎_elim
          (λ (e : done_of (close_answer_of K s edition tag) ≡ true). absurd (⊎_elim (λ y. omega arith) (λ y. omega arith) (ended_number s edition tag e)))
          (λ (e : done_of (close_answer_of K s edition tag) ≡ false). by_numbers.0 (sym (ap number_of (close_refused s edition tag e).0) ∙ z))
          (either (done_of (close_answer_of K s edition tag)))

      to : (sound_of (K.place s) ≡ true) × (edition.job ≢ (K.place s).terms.edition.job) → close_number K s edition tag ≡ 12
      to h =
          let twelve : number_of (close_answer_of K s edition tag) ≡ 12 = by_numbers.1 h in
          let refused : done_of (close_answer_of K s edition tag) ≡ false = not_done (close_answer_of K s edition tag) (λ z. omega arith) in
          ap number_of (close_refused s edition tag refused).0 ∙ twelve

  pub refuses_other_jobs : RefusesOtherJobs K
  refuses_other_jobs = record {
    pieces = λ s label x out.
        let found = piece_to_12 s label x out in
        (λ z. (sound_from (K.place s) (found.0 z).0, (found.0 z).1), λ h. found.1 (sound_to (K.place s) h.0, h.1));
    closes = λ s edition tag.
        let found = close_to_12 s edition tag in
        (λ z. (sound_from (K.place s) (found.0 z).0, (found.0 z).1), λ h. found.1 (sound_to (K.place s) h.0, h.1));
  }

  pub closed_refuses : ClosedRefuses K
  closed_refuses = record {
    is_closed = ap (λ (p : Place). p.standing) (L.placed _ _ _);
    pieces = λ s e label x out. unsound_piece_9 s label x out (closed_unsound (K.place s) e);
    closes = λ s e edition tag. unsound_close_9 s edition tag (closed_unsound (K.place s) e);
  }
