-- The checks of a call are answered 0 exactly where the limits are kept.
-- Assumes nothing.
use mathlib.Core.Path.{◌≡◌, refl, sym, ap, ◌∙◌}
use mathlib.Core.Bool.{true, ◌&&◌}
use mathlib.Core.Logic.{◌⊎◌, inl, inr, ◌↔◌, ◌≢◌}
use Prim.Native.Nat.{ℕ, suc, ◌+◌, ◌-◌, ◌<◌}
use native.Mathlib.Omega.{arith}
use borrow.Author.Tests.{le-leb, leb-true, eq-eqb, eqb-true}
use lib.Dec.{leb, eqb}
use Rattle.std.specs.Prelude.{Ok}
use Rattle.norx.specs.Norx.{Width, word32, word64, row_bytes}
use Rattle.answers.specs.declared.Refusal.TheVariants.{KeyLength, RoundsNumber, TagLength, OverLimit, OutputLength}
use Rattle.answers.specs.Answers.{Answer, number_of, done_of}
use Rattle.answers.proofs.Chain.{done_zero, zero_done, passed, passes, link_not, both, and_true, one_of}
use Rattle.rules.specs.Rules.{longest_header, longest_body, longest_trailer, within, rounds_ok, rounds_of, lengths_ok, tag_bytes}
use Rattle.rules.specs.Calls.{seal_checks, open_checks}
use Rattle.rules.specs.Limits.{widths_length, StartLimits, PartLimits, SealLimits, OpenLimits}

pub row_long : (w : Width) → row_bytes w ≡ widths_length w
row_long word32 = refl
row_long word64 = refl

pub tag_long : (w : Width) → tag_bytes w ≡ widths_length w
tag_long word32 = refl
tag_long word64 = refl

-- ---- one test after the other

pub rounds_from : (l : ℕ) → rounds_ok l ≡ true → (l ≡ 4) ⊎ (l ≡ 6)
rounds_from l e = go (one_of (eqb l 4) (eqb l 6) e)
  where
    go : (eqb l 4 ≡ true) ⊎ (eqb l 6 ≡ true) → (l ≡ 4) ⊎ (l ≡ 6)
    go (inl h) = inl (eqb-true l 4 h)
    go (inr h) = inr (eqb-true l 6 h)

pub rounds_to : (l : ℕ) → (l ≡ 4) ⊎ (l ≡ 6) → rounds_ok l ≡ true
rounds_to l (inl h) = ap rounds_ok h
rounds_to l (inr h) = ap rounds_ok h

-- where the rounds are 4 or 6, the code of P does as many as are asked
pub rounds_asked : (w : Width) (l : ℕ) → rounds_ok l ≡ true → rounds_of w l ≡ l
rounds_asked word64 l e = refl
rounds_asked word32 l e = go (rounds_from l e)
  where
    go : (l ≡ 4) ⊎ (l ≡ 6) → suc (l - 1) ≡ l
    go (inl h) = omega arith
    go (inr h) = omega arith

module _ (row tag l key nonce header text trailer out : ℕ) where
  pub seal_rounds : done_of (seal_checks row tag l key nonce header text trailer out) ≡ true → rounds_ok l ≡ true
  unfolding seal_checks
  seal_rounds e = (passed (rounds_ok l) RoundsNumber _ e).0

  pub open_rounds : done_of (open_checks row tag l key nonce header text trailer out) ≡ true → rounds_ok l ≡ true
  unfolding open_checks
  open_rounds e = (passed (rounds_ok l) RoundsNumber _ e).0

module _ (w : Width) (key nonce : ℕ) where
  lengths_from : lengths_ok (row_bytes w) key nonce ≡ true → (key ≡ widths_length w) × (nonce ≡ widths_length w)
  lengths_from e =
      let each = both (eqb key (row_bytes w)) (eqb nonce (row_bytes w)) e in
      (eqb-true key (row_bytes w) each.0 ∙ row_long w, eqb-true nonce (row_bytes w) each.1 ∙ row_long w)

  lengths_to : key ≡ widths_length w → nonce ≡ widths_length w → lengths_ok (row_bytes w) key nonce ≡ true
  lengths_to e f =
      and_true _ _ (eq-eqb key (row_bytes w) (e ∙ sym (row_long w))) (eq-eqb nonce (row_bytes w) (f ∙ sym (row_long w)))

module _ (header body trailer : ℕ) where
  pub parts_from : within header body trailer ≡ true → PartLimits header body trailer
  parts_from e =
      let first = both (leb header longest_header && leb body longest_body) (leb trailer longest_trailer) e in
      let second = both (leb header longest_header) (leb body longest_body) first.0 in
      record { header_within = leb-true _ _ second.0; body_within = leb-true _ _ second.1; trailer_within = leb-true _ _ first.1 }

  pub parts_to : PartLimits header body trailer → within header body trailer ≡ true
  parts_to h = and_true _ _ (and_true _ _ (le-leb _ _ h.header_within) (le-leb _ _ h.body_within)) (le-leb _ _ h.trailer_within)

-- ---- the links of a start, which are the first of every call

module _ (w : Width) (l key nonce : ℕ) where
  pub start_from : rounds_ok l ≡ true → lengths_ok (row_bytes w) key nonce ≡ true → StartLimits w l key nonce
  start_from e f =
      let long = lengths_from w key nonce f in
      record { rounds = rounds_from l e; key_long = long.0; nonce_long = long.1 }

  pub start_to : StartLimits w l key nonce → (rounds_ok l ≡ true) × (lengths_ok (row_bytes w) key nonce ≡ true)
  start_to h = (rounds_to l h.rounds, lengths_to w key nonce h.key_long h.nonce_long)

-- ---- a sealing and an opening

module _ (w : Width) (l key nonce header text trailer out : ℕ) where
  abbrev sealing : Answer
  sealing = seal_checks (row_bytes w) (tag_bytes w) l key nonce header text trailer out

  seal_from : done_of sealing ≡ true → SealLimits w l key nonce header text trailer out
  unfolding seal_checks
  seal_from e =
      let a = passed (rounds_ok l) RoundsNumber _ e in
      let b = passed (lengths_ok (row_bytes w) key nonce) KeyLength _ a.1 in
      let c = passed (within header text trailer) OverLimit _ b.1 in
      let d = passed (eqb out (text + tag_bytes w)) OutputLength (Ok tt) c.1 in
      record {
        begins = start_from w l key nonce a.0 b.0;
        parts = parts_from header text trailer c.0;
        exact = eqb-true out (text + tag_bytes w) d.0 ∙ ap (λ (n : ℕ). text + n) (tag_long w);
      }

  seal_to : SealLimits w l key nonce header text trailer out → done_of sealing ≡ true
  unfolding seal_checks
  seal_to h =
      let s = start_to w l key nonce h.begins in
      passes _ _ _ s.0
      (passes _ _ _ s.1
      (passes _ _ _ (parts_to header text trailer h.parts)
      (passes _ _ _ (eq-eqb out (text + tag_bytes w) (h.exact ∙ ap (λ (n : ℕ). text + n) (sym (tag_long w)))) refl)))

  pub seal_limits : (number_of (seal_checks (row_bytes w) (tag_bytes w) l key nonce header text trailer out) ≡ 0) ↔ SealLimits w l key nonce header text trailer out
  seal_limits = (λ e. seal_from (zero_done sealing e), λ h. done_zero sealing (seal_to h))

  abbrev opening : Answer
  opening = open_checks (row_bytes w) (tag_bytes w) l key nonce header text trailer out

  open-from : done_of opening ≡ true → OpenLimits w l key nonce header text trailer out
  unfolding open_checks
  open-from e =
      let a = passed (rounds_ok l) RoundsNumber _ e in
      let b = passed (lengths_ok (row_bytes w) key nonce) KeyLength _ a.1 in
      let c = passed (leb (tag_bytes w) text) TagLength _ b.1 in
      let d = passed (within header (text - tag_bytes w) trailer) OverLimit _ c.1 in
      let f = passed (eqb out (text - tag_bytes w)) OutputLength (Ok tt) d.1 in
      record {
        begins = start_from w l key nonce a.0 b.0;
        tagged = rw (sym (tag_long w)) (leb-true (tag_bytes w) text c.0);
        parts = rw (sym (tag_long w)) (parts_from header (text - tag_bytes w) trailer d.0);
        exact = eqb-true out (text - tag_bytes w) f.0 ∙ ap (λ (n : ℕ). text - n) (tag_long w);
      }

  open-to : OpenLimits w l key nonce header text trailer out → done_of opening ≡ true
  unfolding open_checks
  open-to h =
      let s = start_to w l key nonce h.begins in
      passes _ _ _ s.0
      (passes _ _ _ s.1
      (passes _ _ _ (le-leb (tag_bytes w) text (rw (tag_long w) h.tagged))
      (passes _ _ _ (parts_to header (text - tag_bytes w) trailer (rw (tag_long w) h.parts))
      (passes _ _ _ (eq-eqb out (text - tag_bytes w) (h.exact ∙ ap (λ (n : ℕ). text - n) (sym (tag_long w)))) refl))))

  pub open_limits : (number_of (open_checks (row_bytes w) (tag_bytes w) l key nonce header text trailer out) ≡ 0) ↔ OpenLimits w l key nonce header text trailer out
  open_limits = (λ e. open-from (zero_done opening e), λ h. done_zero opening (open-to h))

-- ---- no number over 5 is answered before the tag is looked at

module _ (n : ℕ) (more : 5 < n) (row tag l key nonce header text trailer out : ℕ) where
  pub seal_answers : number_of (seal_checks row tag l key nonce header text trailer out) ≢ n
  unfolding seal_checks
  seal_answers =
      link_not n (rounds_ok l) RoundsNumber _ (λ e. omega arith)
      (link_not n (lengths_ok row key nonce) KeyLength _ (λ e. omega arith)
      (link_not n (within header text trailer) OverLimit _ (λ e. omega arith)
      (link_not n (eqb out (text + tag)) OutputLength (Ok tt) (λ e. omega arith) (λ e. omega arith))))

  pub open_answers : number_of (open_checks row tag l key nonce header text trailer out) ≢ n
  unfolding open_checks
  open_answers =
      link_not n (rounds_ok l) RoundsNumber _ (λ e. omega arith)
      (link_not n (lengths_ok row key nonce) KeyLength _ (λ e. omega arith)
      (link_not n (leb tag text) TagLength _ (λ e. omega arith)
      (link_not n (within header (text - tag) trailer) OverLimit _ (λ e. omega arith)
      (link_not n (eqb out (text - tag)) OutputLength (Ok tt) (λ e. omega arith) (λ e. omega arith)))))
