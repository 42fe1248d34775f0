-- The promises of any list of offers, over the width.
-- Assumes nothing.
use mathlib.Core.Path.{◌≡◌, refl, sym, ap, ap₂, ◌∙◌}
use mathlib.Core.Bool.{Bool, true, false, ◌||◌}
use mathlib.Core.Logic.{◌⊎◌, inl, inr, ⊎_elim}
use mathlib.Core.List.{List, [], ◌∷◌, ◌++◌}
use Prim.Native.Nat.{ℕ, ◌+◌}
use native.Mathlib.Omega.{arith}
use native.Mathlib.Nat.{zero-add}
use borrow.Author.Tests.{eqb-true, eqb-false}
use lib.Dec.{eqb}
use lib.ListN.{length}
use Rattle.answers.proofs.Chain.{not_done}
use Rattle.norx.specs.Norx.{Width}
use Rattle.answers.specs.Answers.{Answer, done_of}
use Rattle.answers.proofs.Tests.{either, cond_true, cond_false}
use Rattle.places.specs.declared.terms.Terms.{Terms}
use Rattle.cutting.specs.declared.Waiting.{Waiting}
use Rattle.cutting.specs.Cutting.{waiting_first}
use Rattle.segments.specs.Receivers.{Receiving, starts_answer, starts_with, no_receiving}
use Rattle.segments.specs.Promises.{TakesSegment}
use Rattle.segments.specs.Offers.{Offer, Taken, offer_number, handed, after_offer, is_taken, after_offers, taken_in, handed_out, messages, flagged, InOrder, Receives}
use Rattle.segments.proofs.Receive.{start_fresh, start_none}
use Rattle.segments.proofs.Sealed.{seals_segment}
use Rattle.segments.proofs.Taking.{takes_segment, handed_out_lem}

module _ (w : Width) where
  pub takes : (R : Receiving) (o : Offer) → TakesSegment w R o.note o.last o.text o.out
  takes R o = takes_segment w R o.note o.last o.text o.out o.are_bytes

  taken_not : (R : Receiving) (o : Offer) → is_taken w R o ≡ false → after_offer w R o ≡ R
  taken_not R o e = (takes R o).stays (eqb-false (offer_number w R o) 0 e)

  abbrev pub moved : Receiving → Offer → Receiving
  moved R o = record { key = R.key; nonce = R.nonce; terms = R.terms; waiting = record { index = R.waiting.index + 1; complete = o.last } }

  pub taken_goes_on : (R : Receiving) (o : Offer) → is_taken w R o ≡ true → after_offer w R o ≡ moved R o
  taken_goes_on R o e = (takes R o).goes_on (eqb-true (offer_number w R o) 0 e)

  -- ---- after the last nothing is taken

  complete_not : (R : Receiving) → R.waiting.complete ≡ true → (o : Offer) → is_taken w R o ≡ false
  complete_not R e o = ap (λ (n : ℕ). eqb n 0) ((takes R o).after_last.1 e)

  pub complete_none : (os : List Offer) (R : Receiving) → R.waiting.complete ≡ true → (taken_in w R os ≡ []) × (after_offers w R os ≡ R)
  complete_none [] R e = (refl, refl)
  complete_none (o ∷ os) R e =
      let no = complete_not R e o in
      let same = taken_not R o no in
      let rest = complete_none os R e in (
        cond_false _ _ _ no ∙ ap (λ (S : Receiving). taken_in w S os) same ∙ rest.0,
        ap (λ (S : Receiving). after_offers w S os) same ∙ rest.1,
      )

  -- ---- one offer ahead of others

  first_taken : (R : Receiving) (o : Offer) (os : List Offer) → is_taken w R o ≡ true
      → taken_in w R (o ∷ os) ≡ record { offer = o; message = handed w R o } ∷ taken_in w (moved R o) os
  first_taken R o os e =
      cond_true _ _ _ e ∙ ap (λ (S : Receiving). record { offer = o; message = handed w R o } ∷ taken_in w S os) (taken_goes_on R o e)

  first_not : (R : Receiving) (o : Offer) (os : List Offer) → is_taken w R o ≡ false → taken_in w R (o ∷ os) ≡ taken_in w R os
  first_not R o os e = cond_false _ _ _ e ∙ ap (λ (S : Receiving). taken_in w S os) (taken_not R o e)

  -- ---- the promises from any receiver on

  pub joined_from : (os : List Offer) (R : Receiving) → handed_out w R os ≡ messages (taken_in w R os)
  joined_from [] R = refl
  joined_from (o ∷ os) R =
      ⊎_elim
      (λ (e : is_taken w R o ≡ true).
      ap₂ (λ (x y : List ℕ). x ++ y) (cond_true _ _ _ e) (joined_from os (after_offer w R o)) ∙ ap messages (sym (cond_true _ _ _ e)))
      (λ (e : is_taken w R o ≡ false).
      ap₂ (λ (x y : List ℕ). x ++ y) (cond_false _ _ _ e) (joined_from os (after_offer w R o)) ∙ ap messages (sym (cond_false _ _ _ e)))
      (either (is_taken w R o))

  counted_from : (os : List Offer) (R : Receiving) → (after_offers w R os).waiting.index ≡ R.waiting.index + length (taken_in w R os)
  counted_from [] R = omega arith
  counted_from (o ∷ os) R =
      ⊎_elim
      (λ (e : is_taken w R o ≡ true).
      let rest : (after_offers w (moved R o) os).waiting.index ≡ R.waiting.index + 1 + length (taken_in w (moved R o) os) = counted_from os (moved R o) in
      let long : length (taken_in w R (o ∷ os)) ≡ 1 + length (taken_in w (moved R o) os) = ap length (first_taken R o os e) ∙ omega arith in
      ap (λ (S : Receiving). (after_offers w S os).waiting.index) (taken_goes_on R o e) ∙ omega arith)
      (λ (e : is_taken w R o ≡ false).
      ap (λ (S : Receiving). (after_offers w S os).waiting.index) (taken_not R o e) ∙ counted_from os R
      ∙ ap (λ (l : List Taken). R.waiting.index + length l) (sym (first_not R o os e)))
      (either (is_taken w R o))

  complete_from : (os : List Offer) (R : Receiving) → R.waiting.complete ≡ false → (after_offers w R os).waiting.complete ≡ flagged (taken_in w R os)
  complete_from [] R h = h
  complete_from (o ∷ os) R h =
      ⊎_elim
      (λ (e : is_taken w R o ≡ true).
      ap (λ (S : Receiving). (after_offers w S os).waiting.complete) (taken_goes_on R o e) ∙ by_flag o.last (moved R o) (complete_from os (moved R o)) refl ∙ ap flagged (sym (first_taken R o os e)))
      (λ (e : is_taken w R o ≡ false).
      ap (λ (S : Receiving). (after_offers w S os).waiting.complete) (taken_not R o e) ∙ complete_from os R h ∙ ap flagged (sym (first_not R o os e)))
      (either (is_taken w R o))
    where
      by_flag : (b : Bool) (S : Receiving) → (S.waiting.complete ≡ false → (after_offers w S os).waiting.complete ≡ flagged (taken_in w S os))
          → S.waiting.complete ≡ b → (after_offers w S os).waiting.complete ≡ (b || flagged (taken_in w S os))
      by_flag true S rest e = ap (λ (Q : Receiving). Q.waiting.complete) (complete_none os S e).1 ∙ e
      by_flag false S rest e = rest e

-- a receiver whose numbers are zero takes nothing: its rounds are 0
zeros_take_none : (w : Width) (os : List Offer) → taken_in w (no_receiving w) os ≡ []
zeros_take_none w [] = refl
zeros_take_none w (o ∷ os) = first_not w (no_receiving w) o os (not_taken (either (is_taken w (no_receiving w) o))) ∙ zeros_take_none w os
  where
    no_rounds : ((◌≡◌ {A = ℕ} 0 4) ⊎ (◌≡◌ {A = ℕ} 0 6)) → ⊥
    no_rounds (inl e) = omega arith
    no_rounds (inr e) = omega arith

    not_taken : (is_taken w (no_receiving w) o ≡ true) ⊎ (is_taken w (no_receiving w) o ≡ false) → is_taken w (no_receiving w) o ≡ false
    not_taken (inr e) = e
    not_taken (inl e) =
        let R : Receiving = no_receiving w in
        let M : List ℕ = handed w R o in
        let given = handed_out_lem w R o.note o.last o.text o.out o.are_bytes refl M (eqb-true (offer_number w R o) 0 e, refl) in
        let only = (seals_segment w R.key R.nonce R.terms o.note 0 o.last M o.text).only_there (given.1 o.text refl).0 in
        absurd (no_rounds only.1.0.rounds)

module _ (w : Width) (key nonce : List ℕ) (T : Terms) where
  -- a receiver of the job, which waits for a segment
  abbrev pub waiting_for : ℕ → Bool → Receiving
  waiting_for k complete = record { key = key; nonce = nonce; terms = T; waiting = record { index = k; complete = complete } }

  in_order_from : (os : List Offer) (k : ℕ) → InOrder w key nonce T k (taken_in w (waiting_for k false) os)
  in_order_from [] k = tt
  in_order_from (o ∷ os) k =
      ⊎_elim
      (λ (e : is_taken w (waiting_for k false) o ≡ true).
      rw (first_taken w (waiting_for k false) o os e) (
        handed_out_lem w (waiting_for k false) o.note o.last o.text o.out o.are_bytes refl (handed w (waiting_for k false) o)
            (eqb-true (offer_number w (waiting_for k false) o) 0 e, refl),
        (last_ends o.last, goes o.last (in_order_from os (k + 1))),
      ))
      (λ (e : is_taken w (waiting_for k false) o ≡ false). rw (first_not w (waiting_for k false) o os e) (in_order_from os k))
      (either (is_taken w (waiting_for k false) o))
    where
      last_ends : (b : Bool) → b ≡ true → taken_in w (waiting_for (k + 1) b) os ≡ []
      last_ends b e = (complete_none w os (waiting_for (k + 1) b) e).0

      goes : (b : Bool) → InOrder w key nonce T (k + 1) (taken_in w (waiting_for (k + 1) false) os) → InOrder w key nonce T (k + 1) (taken_in w (waiting_for (k + 1) b) os)
      goes true rest = rw (complete_none w os (waiting_for (k + 1) true) refl).0 tt
      goes false rest = rest

  -- ---- after a start

  abbrev begun : Answer
  begun = starts_answer w key nonce T

  abbrev S : Receiving
  S = starts_with w key nonce T

  waits_first : S.waiting ≡ waiting_first
  waits_first =
      ⊎_elim (λ (e : done_of begun ≡ true). ap (λ (R : Receiving). R.waiting) (start_fresh w key nonce T e))
      (λ (e : done_of begun ≡ false). ap (λ (R : Receiving). R.waiting) (start_none w key nonce T e)) (either (done_of begun))

  none_after : (os : List Offer) → done_of begun ≡ false → taken_in w S os ≡ []
  none_after os e = ap (λ (R : Receiving). taken_in w R os) (start_none w key nonce T e) ∙ zeros_take_none w os

  ordered : (os : List Offer) → InOrder w key nonce T 0 (taken_in w S os)
  ordered os =
      ⊎_elim (λ (e : done_of begun ≡ true). rw (start_fresh w key nonce T e) (in_order_from os 0)) (λ (e : done_of begun ≡ false). rw (none_after os e) tt)
      (either (done_of begun))

  pub receives : (os : List Offer) → Receives w key nonce T os
  receives os = record {
    joined = joined_from w os S;
    in_order = ordered os;
    counted = counted_from w os S ∙ ap (λ (W : Waiting). W.index + length (taken_in w S os)) waits_first ∙ zero-add (length (taken_in w S os));
    complete = complete_from w os S (ap (λ (W : Waiting). W.complete) waits_first);
    refused_start = λ h. none_after os (not_done begun h);
    ended = λ e o.
        let R : Receiving = after_offers w S os in
        let after = (takes w R o).after_last.1 e in
        (after, ((takes w R o).leaves.kept (λ z. omega arith) (λ z. omega arith), taken_not w R o (complete_not w R e o)));
  }
