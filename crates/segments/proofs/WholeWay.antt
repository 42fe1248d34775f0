-- The whole way, over the width: a body cut, each segment sealed and taken in order, comes back whole.
-- Assumes nothing.
use mathlib.Core.Path.{◌≡◌, refl, sym, ap, ap₂, ◌∙◌}
use mathlib.Core.Bool.{Bool, true, false}
use mathlib.Core.Logic.{◌⊎◌, inl, inr, ⊎_elim}
use mathlib.Core.List.{List, [], ◌∷◌, ◌++◌, append-nil}
use Prim.Native.Nat.{ℕ, ◌+◌, ◌-◌, ◌*◌, ◌≤◌, ◌<◌}
use native.Mathlib.Omega.{arith}
use native.Mathlib.Nat.{eq-zero-or-pos}
use borrow.Author.Tests.{eq-eqb, eqb-true, eqb-false, ltb-true, ltb-false}
use lib.Dec.{eqb, ltb, lit≤}
use lib.ListN.{length, take, drop, length-drop, take-append-drop}
use lib.Seq.{length-take-le, take_all, drop-drop}
use Rattle.norx.specs.Norx.{Width, tag_bits, sealed}
use Rattle.norx.specs.Texts.{Bytes}
use Rattle.norx.proofs.Bytes.{bytes_take, bytes_drop}
use Rattle.norx.proofs.Opening.{length-sealed}
use Rattle.answers.specs.Answers.{number_of}
use Rattle.answers.proofs.Tests.{either, cond_true}
use Rattle.rules.specs.Rules.{segment_bytes}
use Rattle.rules.specs.Limits.{widths_length}
use Rattle.rules.proofs.Limits.{tag_long}
use Rattle.rules.proofs.Lengths.{tag_fits}
use Rattle.places.specs.declared.terms.Terms.{Terms}
use Rattle.cutting.specs.Cutting.{count_of, begin_of, end_of}
use Rattle.cutting.proofs.Cuts.{begin_within, end_within, end_last, end_most}
use Rattle.segments.specs.Rule.{Rule, JobLimits}
use Rattle.segments.specs.Segments.{segment_nonce, segment_header, segment_answer, segment_out}
use Rattle.segments.specs.Receivers.{Receiving}
use Rattle.segments.specs.Promises.{GivenBySealing}
use Rattle.segments.specs.Offers.{Offer, offer_number, handed, is_taken, after_offers, handed_out, messages, segment_at, Sent, AllSent, ComesBack}
use Rattle.segments.proofs.Sealed.{seals_segment}
use Rattle.segments.proofs.Started.{starts_receiver}
use Rattle.segments.proofs.Received.{takes, taken_goes_on, complete_none, joined_from, waiting_for}

-- ---- where a body of n bytes is cut

some_segment : (n : ℕ) → 0 < count_of n
unfolding count_of
some_segment n = omega arith

-- a segment that is not the last has one behind it
not_last : (n k : ℕ) → k < count_of n → eqb (k + 1) (count_of n) ≡ false → k + 1 < count_of n
not_last n k there e =
    ⊎_elim (λ (more : ltb (k + 1) (count_of n) ≡ true). ltb-true (k + 1) (count_of n) more)
    (λ (none : ltb (k + 1) (count_of n) ≡ false). let most : count_of n ≤ k + 1 = ltb-false (k + 1) (count_of n) none in absurd (eqb-false (k + 1) (count_of n) e (omega arith)))
    (either (ltb (k + 1) (count_of n)))

module _ (n k : ℕ) (small : n ≤ 68719476736) (there : k < count_of n) where
  abbrev long : ℕ
  long = end_of n k - begin_of n k

  rule_last : k + 1 ≡ count_of n → Rule k true long
  unfolding count_of
  rule_last h =
      let b : begin_of n k ≡ k * segment_bytes = begin_within n k there in
      let e : end_of n k ≡ n = end_last n k h in
      let some : (1 ≤ long) ⊎ (k ≡ 0) = ⊎_elim (λ (z : n ≡ 0). inr (omega arith)) (λ (p : 0 < n). inl (omega arith)) (eq-zero-or-pos n) in
      (omega arith, (some, omega arith))

  rule_full : k + 1 < count_of n → Rule k false long
  unfolding count_of
  rule_full h =
      let b : begin_of n k ≡ k * segment_bytes = begin_within n k there in
      let e : end_of n k ≡ (k + 1) * segment_bytes = end_within n k h in
      (omega arith, omega arith)

  its_rule : Rule k (eqb (k + 1) (count_of n)) long
  its_rule =
      ⊎_elim (λ (e : eqb (k + 1) (count_of n) ≡ true). rw e (rule_last (eqb-true _ _ e)))
      (λ (e : eqb (k + 1) (count_of n) ≡ false). rw e (rule_full (not_last n k there e))) (either (eqb (k + 1) (count_of n)))

module _ (body : List ℕ) (k : ℕ) (there : k < count_of (length body)) where
  abbrev n : ℕ
  n = length body

  segment_long : length (segment_at body k) ≡ end_of n k - begin_of n k
  segment_long = length-take-le (end_of n k - begin_of n k) (drop (begin_of n k) body) (omega (arith, length-drop (begin_of n k) body, end_most n k))

  -- the last segment is the rest of the body, and any other is followed by the rest
  rest_last : k + 1 ≡ count_of n → segment_at body k ≡ drop (k * segment_bytes) body
  rest_last h =
      let b : begin_of n k ≡ k * segment_bytes = begin_within n k there in
      let e : end_of n k ≡ n = end_last n k h in
      take_all (end_of n k - begin_of n k) (drop (begin_of n k) body) (omega (arith, length-drop (begin_of n k) body)) ∙ ap (λ (m : ℕ). drop m body) b

  rest_full : k + 1 < count_of n → segment_at body k ++ drop ((k + 1) * segment_bytes) body ≡ drop (k * segment_bytes) body
  rest_full h =
      let b : begin_of n k ≡ k * segment_bytes = begin_within n k there in
      let e : end_of n k ≡ (k + 1) * segment_bytes = end_within n k h in
      let m : end_of n k - begin_of n k ≡ segment_bytes = omega arith in
      let q : (k + 1) * segment_bytes ≡ k * segment_bytes + segment_bytes = omega arith in
      (λ j. take (m j) (drop (b j) body) ++ drop (q j) body)
      ∙ ap (λ (l : List ℕ). take segment_bytes (drop (k * segment_bytes) body) ++ l) (sym (drop-drop segment_bytes (k * segment_bytes) body))
      ∙ take-append-drop segment_bytes (drop (k * segment_bytes) body)

-- ---- each segment is taken

module _ (w : Width) (key nonce : List ℕ) (T : Terms) (note body : List ℕ) (job : JobLimits w T.rounds (length key) (length nonce) (length note))
    (small : length body ≤ 68719476736) (bytes : Bytes body) where
  abbrev R : ℕ → Receiving
  R k = waiting_for w key nonce T k false

  abbrev count : ℕ
  count = count_of (length body)

  abbrev segment : ℕ → List ℕ
  segment k = segment_at body k

  abbrev text : ℕ → Bool → List ℕ
  text k last = sealed w T.rounds (tag_bits w) key (segment_nonce nonce k last) (segment_header T note) (segment k) []

  text_long : (k : ℕ) (last : Bool) → length (text k last) ≡ length (segment k) + widths_length w
  text_long k last =
      length-sealed w T.rounds (tag_bits w) (tag_fits w) key (segment_nonce nonce k last) (segment_header T note) [] (segment k)
      ∙ ap (λ (m : ℕ). length (segment k) + m) (tag_long w)

  module _ (k : ℕ) (there : k < count) (o : Offer) (sent : Sent w key nonce T note body k o) where
    rule : Rule k o.last (length (segment k))
    rule = rw (sent.its_flag, segment_long body k there) (its_rule (length body) k small there)

    -- sealing gives it, into whatever output of its length
    gives : (out : List ℕ) → length out ≡ length (segment k) + widths_length w
        → (number_of (segment_answer w key nonce T note k o.last (segment k) out) ≡ 0) × (segment_out w key nonce T note k o.last (segment k) out ≡ text k o.last)
    gives out e = (seals_segment w key nonce T note k o.last (segment k) out).as_defined rule job e

    text_is : o.text ≡ text k o.last
    text_is = sent.its_text ∙ (gives sent.buffer sent.buffer_long).1

    given : GivenBySealing w key nonce T o.note k o.last (segment k) o.text
    given =
        rw sent.its_note (
          bytes_take (end_of (length body) k - begin_of (length body) k) (drop (begin_of (length body) k) body) (bytes_drop (begin_of (length body) k) body bytes),
          λ out e.
              let done = gives out (e ∙ ap length text_is ∙ text_long k o.last) in
              (done.0, done.1 ∙ sym text_is),
        )

    taken : (offer_number w (R k) o ≡ 0) × (handed w (R k) o ≡ segment k)
    taken =
        ((takes w (R k) o).accepted refl (ap length text_is ∙ text_long k o.last ∙ ap (λ (m : ℕ). m + widths_length w) (sym sent.its_output)) (segment k)).1 given

  -- ---- and so all of them, from segment k on

  abbrev Back : ℕ → List Offer → Type 0
  Back k os = (handed_out w (R k) os ≡ drop (k * segment_bytes) body) × (((after_offers w (R k) os).waiting.complete ≡ true) × ((after_offers w (R k) os).waiting.index ≡ count))

  -- what follows a segment that is taken goes on behind it
  one_on : (k : ℕ) (there : k < count) (o : Offer) (os : List Offer) (sent : Sent w key nonce T note body k o) (last : Bool) → o.last ≡ last
      → (handed_out w (R k) (o ∷ os) ≡ segment k ++ handed_out w (waiting_for w key nonce T (k + 1) last) os)
      × (after_offers w (R k) (o ∷ os) ≡ after_offers w (waiting_for w key nonce T (k + 1) last) os)
  one_on k there o os sent last e =
      let t = taken k there o sent in
      let yes : is_taken w (R k) o ≡ true = eq-eqb (offer_number w (R k) o) 0 t.0 in
      let next = taken_goes_on w (R k) o yes ∙ ap (λ (b : Bool). waiting_for w key nonce T (k + 1) b) e in (
        ap₂ (λ (x : List ℕ) (S : Receiving). x ++ handed_out w S os) (cond_true _ _ _ yes ∙ t.1) next,
        ap (λ (S : Receiving). after_offers w S os) next,
      )

  comes_from : (os : List Offer) (k : ℕ) → k < count → AllSent w key nonce T note body k os → Back k os
  comes_from [] k there all = absurd (omega arith)
  comes_from (o ∷ os) k there all =
      ⊎_elim
      (λ (e : eqb (k + 1) count ≡ true).
      let S : Receiving = waiting_for w key nonce T (k + 1) true in
      let on = one_on k there o os all.0 true (all.0.its_flag ∙ e) in
      let none = complete_none w os S refl in
      let h : k + 1 ≡ count = eqb-true (k + 1) count e in
      let nothing : handed_out w S os ≡ [] = joined_from w os S ∙ ap messages none.0 in (
        on.0 ∙ ap (λ (x : List ℕ). segment k ++ x) nothing ∙ append-nil (segment k) ∙ rest_last body k there h,
        (ap (λ (Q : Receiving). Q.waiting.complete) (on.1 ∙ none.1), ap (λ (Q : Receiving). Q.waiting.index) (on.1 ∙ none.1) ∙ h),
      ))
      (λ (e : eqb (k + 1) count ≡ false).
      let on = one_on k there o os all.0 false (all.0.its_flag ∙ e) in
      let h : k + 1 < count = not_last (length body) k there e in
      let back = comes_from os (k + 1) h all.1 in (
        on.0 ∙ ap (λ (x : List ℕ). segment k ++ x) back.0 ∙ rest_full body k there h,
        (ap (λ (Q : Receiving). Q.waiting.complete) on.1 ∙ back.1.0, ap (λ (Q : Receiving). Q.waiting.index) on.1 ∙ back.1.1),
      ))
      (either (eqb (k + 1) count))

pub comes_back : (w : Width) (key nonce : List ℕ) (T : Terms) (note body : List ℕ) → ComesBack w key nonce T note body
comes_back w key nonce T note body job small bytes os all =
    let starts = starts_receiver w key nonce T in
    let begun = starts.begins (starts.within_limits.1 (record { rounds = job.rounds; key_long = job.key_long; nonce_long = job.nonce_long; note_within = lit≤ tt })) in
    rw begun (comes_from w key nonce T note body job small bytes os 0 (some_segment (length body)) all)
