-- What the numbers of a segment decide, as the code asks it, is what the definitions say; and what that leaves in the output.
-- Assumes nothing.
use mathlib.Core.Path.{◌≡◌, refl, sym, ap, ap₂, ◌∙◌}
use mathlib.Core.Bool.{Bool, true, false, false≢true, not, ◌&&◌, cond}
use mathlib.Core.List.{List, []}
use Prim.Native.Nat.{ℕ, ◌+◌, ◌-◌, ◌<◌}
use native.Mathlib.Omega.{arith}
use borrow.Author.Tests.{ltb-true}
use lib.Dec.{ltb, leb, eqb}
use lib.ListN.{length, length-append}
use Rattle.std.specs.Prelude.{Ok, ⊤}
use Rattle.answers.specs.declared.Refusal.{Refusal}
use Rattle.norx.specs.Norx.{Width, row_bytes, tag_bits, bytes_of, sealed}
use Rattle.norx.specs.Front.{eight_bytes, front_bytes}
use Rattle.norx.proofs.Widths.{tag_is_row}
use Rattle.answers.specs.declared.Refusal.TheVariants.{SegmentLength, AfterLast}
use Rattle.answers.specs.Answers.{Answer, done_of, need_of}
use Rattle.answers.proofs.Tests.{cond_true, cond_false}
use Rattle.answers.proofs.Chain.{passed, both}
use Rattle.rules.specs.Rules.{tag_bytes, segment_bytes, most_segments}
use Rattle.rules.specs.Calls.{Exact, seal_checks, open_checks}
use Rattle.rules.specs.OneCall.{seal_answer, seal_out, checked, tag_answer, tag_out, open_answer, open_out}
use Rattle.rules.proofs.Limits.{seal_rounds, open_rounds}
use Rattle.rules.proofs.Lengths.{seal_exact, open_exact}
use Rattle.places.specs.declared.terms.Terms.{Terms}
use Rattle.places.specs.Terms.{front_of, terms_ok}
use Rattle.places.proofs.Editions.{front_long}
use Rattle.cutting.specs.declared.Waiting.{Waiting}
use Rattle.cutting.specs.Cutting.{segment_ok, sealed_ok, segment_number, take_links}
use Rattle.cutting.proofs.Cuts.{last_rule}
use Rattle.segments.specs.Segments.{segment_nonce, segment_header, segment_answer, segment_out, take_answer, take_out}

-- ---- the lengths

pub nonce_long : (nonce : List ℕ) (i : ℕ) (last : Bool) → length (segment_nonce nonce i last) ≡ length nonce + 8
unfolding segment_nonce eight_bytes bytes_of
nonce_long nonce i last = length-append nonce (eight_bytes (segment_number i last))

pub header_long : (T : Terms) (note : List ℕ) → length (segment_header T note) ≡ front_bytes + length note
unfolding segment_header
header_long T note = length-append (front_of T.edition) note ∙ ap (λ (k : ℕ). k + length note) (front_long T.edition)

-- a segment that may be sealed has an index below the most
pub index_below : (i : ℕ) (last : Bool) (n : ℕ) → segment_ok i last n ≡ true → i < most_segments
unfolding segment_ok
index_below i true n e = (last_rule i n e).1.1
index_below i false n e =
    let below : i < most_segments - 1 = ltb-true i (most_segments - 1) (both (eqb n segment_bytes) (ltb i (most_segments - 1)) e).1 in
    omega arith

-- ---- sealing

module _ (w : Width) (key nonce : List ℕ) (T : Terms) (note : List ℕ) (i : ℕ) (last : Bool) (text out : List ℕ) where
  abbrev own : List ℕ
  own = segment_nonce nonce i last

  abbrev header : List ℕ
  header = segment_header T note

  -- the code's chain is the definition's; n is the length of a row, and of a tag
  pub segment_chain : {n : ℕ} {one r : Answer} {ok : Bool} → n ≡ row_bytes w
      → one ≡ seal_checks n n T.rounds (length key) (length nonce + 8) (front_bytes + length note) (length text) 0 (length out)
      → ok ≡ segment_ok i last (length text) → r ≡ need_of ok SegmentLength one → r ≡ segment_answer w key nonce T note i last text out
  unfolding segment_answer seal_answer
  segment_chain row e f g =
      let tag = row ∙ sym (tag_is_row w) in
      let nonce' = sym (nonce_long nonce i last) in
      let header' = sym (header_long T note) in
      let as_one_call = e ∙ (λ j. seal_checks (row j) (tag j) T.rounds (length key) (nonce' j) (header' j) (length text) 0 (length out)) in
      g ∙ ap₂ (λ (a : Bool) (b : Answer). need_of a SegmentLength b) f as_one_call

  pub segment_passed : done_of (segment_answer w key nonce T note i last text out) ≡ true
      → (segment_ok i last (length text) ≡ true) × (done_of (seal_answer w T.rounds key own header text [] out) ≡ true)
  unfolding segment_answer
  segment_passed e = passed (segment_ok i last (length text)) SegmentLength _ e

  pub segment_fits : done_of (segment_answer w key nonce T note i last text out) ≡ true
      → Exact (row_bytes w) (tag_bytes w) (length key) (length nonce + 8) (length text) (length out) × (terms_ok T ≡ true)
  unfolding seal_answer
  segment_fits e =
      let one = (segment_passed e).1 in
      let exact = seal_exact (row_bytes w) (tag_bytes w) T.rounds (length key) (length own) (length header) (length text) 0 (length out) one in (
        record { key_long = exact.key_long; nonce_long = sym (nonce_long nonce i last) ∙ exact.nonce_long; text_long = exact.text_long },
        seal_rounds (row_bytes w) (tag_bytes w) T.rounds (length key) (length own) (length header) (length text) 0 (length out) one,
      )

  pub segment_sealed : done_of (segment_answer w key nonce T note i last text out) ≡ true
      → segment_out w key nonce T note i last text out ≡ sealed w T.rounds (tag_bits w) key (segment_nonce nonce i last) (segment_header T note) text []
  unfolding segment_out seal_out
  segment_sealed e = let p = segment_passed e in cond_true _ _ _ p.0 ∙ cond_true _ _ _ p.1

  kept_by : (ok : Bool) (one : Answer) (t o : List ℕ) → done_of (need_of ok SegmentLength one) ≡ false → cond ok (cond (done_of one) t o) o ≡ o
  unfolding need_of
  kept_by true one t o e = cond_false _ _ _ e
  kept_by false one t o e = refl

  pub segment_kept : done_of (segment_answer w key nonce T note i last text out) ≡ false → segment_out w key nonce T note i last text out ≡ out
  unfolding segment_answer segment_out seal_out
  segment_kept e = kept_by (segment_ok i last (length text)) _ _ _ e

-- ---- opening

-- links ahead of a call whose own checks refuse or leave it to the tag
links_answer : (b c : Bool) (x y : Refusal) (one by_tag : Answer) → done_of (need_of b x (need_of c y one)) ≡ false
    → need_of b x (need_of c y (cond (done_of one) by_tag one)) ≡ need_of b x (need_of c y one)
unfolding need_of
links_answer true true x y one by_tag e = cond_false _ _ _ e
links_answer true false x y one by_tag e = refl
links_answer false c x y one by_tag e = refl

links_out : (b c : Bool) (x y : Refusal) (one : Answer) (t o : List ℕ) → done_of (need_of b x (need_of c y one)) ≡ false → cond (b && c) (cond (done_of one) t o) o ≡ o
unfolding need_of
links_out true true x y one t o e = cond_false _ _ _ e
links_out true false x y one t o e = refl
links_out false c x y one t o e = refl

links_passed : (b c : Bool) (one by_tag : Answer) (t o : List ℕ) → b ≡ true → c ≡ true → done_of one ≡ true
    → (need_of b AfterLast (need_of c SegmentLength (cond (done_of one) by_tag one)) ≡ by_tag) × (cond (b && c) (cond (done_of one) t o) o ≡ t)
unfolding need_of
links_passed true true one by_tag t o p q r = (cond_true _ _ _ r, cond_true _ _ _ r)
links_passed true false one by_tag t o p q r = absurd (false≢true q)
links_passed false c one by_tag t o p q r = absurd (false≢true p)

links_stop : (b c : Bool) (t o : List ℕ) {a : Answer} → done_of a ≡ false → a ≡ need_of b AfterLast (need_of c SegmentLength (Ok tt)) → o ≡ cond (b && c) t o
unfolding need_of
links_stop true true t o refuses e = absurd (false≢true (sym refuses ∙ ap done_of e))
links_stop true false t o refuses e = refl
links_stop false c t o refuses e = refl

-- where the links refuse nothing, what comes behind them decides
pub links_go_on : (W : Waiting) (last : Bool) (tag n : ℕ) {x : ⊤} {given rest : Answer} → Ok x ≡ take_links W last tag n (Ok tt) → given ≡ rest → given ≡ take_links W last tag n rest
unfolding take_links need_of
links_go_on W last tag n {x} {given} {rest} e f = go (not W.complete) (sealed_ok W.index last tag n) e
  where
    go : (b c : Bool) → Ok x ≡ need_of b AfterLast (need_of c SegmentLength (Ok tt)) → given ≡ need_of b AfterLast (need_of c SegmentLength rest)
    go true true e = f
    go true false e = cc
    go false c e = cc

module _ (w : Width) (key nonce : List ℕ) (T : Terms) (note : List ℕ) (W : Waiting) (last : Bool) (text out : List ℕ) where
  abbrev its_own : List ℕ
  its_own = segment_nonce nonce W.index last

  abbrev its_header : List ℕ
  its_header = segment_header T note

  -- what the numbers of the call answer
  abbrev one_call : Answer
  one_call = checked w T.rounds key its_own its_header text [] out

  abbrev numbers : Answer
  numbers = take_links W last (tag_bytes w) (length text) one_call

  -- the code's chain is the definition's
  pub take_chain : {n : ℕ} {one r : Answer} → n ≡ row_bytes w
      → one ≡ open_checks n n T.rounds (length key) (length nonce + 8) (front_bytes + length note) (length text) 0 (length out)
      → r ≡ take_links W last n (length text) one
      → r ≡ take_links W last (tag_bytes w) (length text) (checked w T.rounds key (segment_nonce nonce W.index last) (segment_header T note) text [] out)
  take_chain row e g =
      let tag = row ∙ sym (tag_is_row w) in
      let nonce' = sym (nonce_long nonce W.index last) in
      let header' = sym (header_long T note) in
      let as_one_call = e ∙ (λ j. open_checks (row j) (tag j) T.rounds (length key) (nonce' j) (header' j) (length text) 0 (length out)) in
      g ∙ (λ j. take_links W last (tag j) (length text) (as_one_call j))

  -- where the links refuse, the output stays as it was
  pub links_kept : {n : ℕ} {a : Answer} → n ≡ row_bytes w → done_of a ≡ false → a ≡ take_links W last n (length text) (Ok tt) → out ≡ take_out w key nonce T note W last text out
  unfolding take_links take_out
  links_kept row refuses e =
      let tag = row ∙ sym (tag_is_row w) in links_stop _ _ _ out refuses (e ∙ (λ j. take_links W last (tag j) (length text) (Ok tt)))

  -- what is known where no number refuses
  pub take_passed : done_of numbers ≡ true → ((not W.complete ≡ true) × (sealed_ok W.index last (tag_bytes w) (length text) ≡ true)) × (done_of one_call ≡ true)
  unfolding take_links
  take_passed e =
      let a = passed (not W.complete) AfterLast _ e in
      let b = passed (sealed_ok W.index last (tag_bytes w) (length text)) SegmentLength _ a.1 in
      ((a.0, b.0), b.1)

  pub take_fits : done_of numbers ≡ true → Exact (row_bytes w) (tag_bytes w) (length key) (length nonce + 8) (length out) (length text) × (terms_ok T ≡ true)
  take_fits e =
      let one = (take_passed e).1 in
      let exact = open_exact (row_bytes w) (tag_bytes w) T.rounds (length key) (length its_own) (length its_header) (length text) 0 (length out) one in (
        record { key_long = exact.key_long; nonce_long = sym (nonce_long nonce W.index last) ∙ exact.nonce_long; text_long = exact.text_long },
        open_rounds (row_bytes w) (tag_bytes w) T.rounds (length key) (length its_own) (length its_header) (length text) 0 (length out) one,
      )

  -- the tag decides where no number refuses, and else their answer stands and the output as it was
  pub take_tag : done_of numbers ≡ true
      → (take_answer w key nonce T note W last text out ≡ tag_answer w T.rounds key its_own its_header text [] out)
      × (take_out w key nonce T note W last text out ≡ tag_out w T.rounds key its_own its_header text [] out)
  unfolding take_answer take_out take_links open_answer open_out
  take_tag e =
      let p = take_passed e in
      links_passed (not W.complete) (sealed_ok W.index last (tag_bytes w) (length text)) one_call _ _ _ p.0.0 p.0.1 p.1

  pub take_numbers : done_of numbers ≡ false → (take_answer w key nonce T note W last text out ≡ numbers) × (take_out w key nonce T note W last text out ≡ out)
  unfolding take_answer take_out take_links open_answer open_out
  take_numbers e = (
    links_answer (not W.complete) (sealed_ok W.index last (tag_bytes w) (length text)) _ _ one_call _ e,
    links_out (not W.complete) (sealed_ok W.index last (tag_bytes w) (length text)) _ _ one_call _ _ e,
  )

  -- a segment that is taken has an index below the most
  pub take_below : done_of (take_answer w key nonce T note W last text out) ≡ true → W.index < most_segments
  unfolding take_answer take_links sealed_ok
  take_below e =
      let a = passed (not W.complete) AfterLast _ e in
      let b = passed (leb (tag_bytes w) (length text) && segment_ok W.index last (length text - tag_bytes w)) SegmentLength _ a.1 in
      index_below W.index last (length text - tag_bytes w) (both (leb (tag_bytes w) (length text)) (segment_ok W.index last (length text - tag_bytes w)) b.0).1
