-- The promises of taking one segment, over the width.
-- Assumes nothing.
use mathlib.Core.Path.{◌≡◌, refl, sym, ap, ◌∙◌}
use mathlib.Core.Bool.{Bool, true, false}
use mathlib.Core.Logic.{◌⊎◌, inl, ⊎_elim, ◌≢◌}
use mathlib.Core.List.{List, []}
use mathlib.Core.Option.{Option, none, some}
use Prim.Native.Nat.{ℕ, ◌+◌, ◌-◌, ◌<◌, ◌≤◌}
use native.Mathlib.Omega.{arith}
use lib.Dec.{leb, eqb}
use lib.ListN.{length, replicate}
use Rattle.std.specs.Prelude.{Ok, Err}
use Rattle.norx.specs.Norx.{Width, row_bytes, tag_bits, recovered, opened}
use Rattle.norx.specs.Front.{front_bytes}
use Rattle.norx.specs.Runs.{counted_runs, sealing_runs}
use Rattle.norx.specs.Texts.{Bytes, SealsTo}
use Rattle.norx.proofs.Opening.{length-sealed}
use Rattle.norx.proofs.Runs.{counts_sealing, length-recovered}
use Rattle.answers.specs.declared.Refusal.TheVariants.{KeyLength, RoundsNumber, TagLength, OverLimit, OutputLength, SegmentLength, AfterLast}
use Rattle.answers.specs.Answers.{Answer, number_of, done_of, need_of, runs_with}
use Rattle.answers.proofs.Tests.{either, cond_true, cond_false}
use Rattle.answers.proofs.Chain.{zero_done, link_not, both, not_done}
use Rattle.answers.proofs.Runs.{same_report}
use Rattle.rules.specs.Rules.{within, rounds_ok, lengths_ok, tag_bytes}
use Rattle.rules.specs.Limits.{widths_length}
use Rattle.rules.specs.Calls.{open_checks, answer_of}
use Rattle.rules.specs.OneCall.{checked, open_answer, open_out}
use Rattle.rules.specs.Runs.{runs_within, open_runs, ReportsRuns}
use Rattle.rules.proofs.Limits.{tag_long}
use Rattle.rules.proofs.Lengths.{tag_fits}
use Rattle.cutting.specs.Cutting.{segment_ok, sealed_ok, take_links}
use Rattle.sealing.specs.Promises.{LeavesBytes, MayOpen, Opens}
use Rattle.sealing.proofs.Demand.{looked_at, opening_not, opens as one-opens}
use Rattle.segments.specs.Rule.{Rule, JobLimits, SealedRule}
use Rattle.segments.specs.Segments.{segment_nonce, segment_header, segment_answer, take_answer, take_runs, take_out}
use Rattle.segments.specs.Receivers.{Receiving, taking_answer, taking_runs, taking_out}
use Rattle.segments.specs.Runs.{most_segment_runs}
use Rattle.segments.specs.Promises.{GivenFor, TakesSegment}
use Rattle.segments.proofs.Checks.{segment_sealed}
use Rattle.segments.proofs.Runs.{reports_code, reports_segment, segment_at_most}
use Rattle.segments.proofs.Receive.{taking_next, taking_same}
use Rattle.segments.proofs.Rules.{rule_below, sealed_from_lem, sealed_to, one_opening, job_of_opening}
use Rattle.segments.proofs.Sealed.{seals_segment}

tagged : (ok : Bool) (rest : Answer) → ok ≡ true → number_of rest ≢ 3 → number_of (need_of ok TagLength rest) ≢ 3
unfolding need_of
tagged true rest h g = g
tagged false rest h g = let no : ◌≡◌ {A = ℕ} 0 1 = cc in absurd (omega arith)

-- 3 is not answered where the text is as long as a tag
not_3 : (row tag l key nonce header text out : ℕ) → leb tag text ≡ true → number_of (open_checks row tag l key nonce header text 0 out) ≢ 3
unfolding open_checks
not_3 row tag l key nonce header text out e =
    link_not 3 (rounds_ok l) RoundsNumber _ (λ z. omega arith)
    (link_not 3 (lengths_ok row key nonce) KeyLength _ (λ z. omega arith)
    (tagged (leb tag text) _ e
    (link_not 3 (within header (text - tag) 0) OverLimit _ (λ z. omega arith)
    (link_not 3 (eqb out (text - tag)) OutputLength (Ok tt) (λ z. omega arith) (λ z. omega arith)))))

module _ (w : Width) (R : Receiving) (note : List ℕ) (last : Bool) (text out : List ℕ) where
  abbrev i : ℕ
  i = R.waiting.index

  abbrev own : List ℕ
  own = segment_nonce R.nonce i last

  abbrev header : List ℕ
  header = segment_header R.terms note

  abbrev l : ℕ
  l = R.terms.rounds

  abbrev answer : Answer
  answer = taking_answer w R note last text out

  abbrev after : List ℕ
  after = taking_out w R note last text out

  abbrev ok : Bool
  ok = sealed_ok i last (tag_bytes w) (length text)

  abbrev one : Answer
  one = open_answer w l R.key own header text [] out

  -- ---- three ways: complete, a wrong length, and as one call

  complete_14 : R.waiting.complete ≡ true → (answer ≡ Err AfterLast) × (after ≡ out)
  unfolding take_answer take_out take_links need_of
  complete_14 e = (rw e refl, rw e refl)

  wrong_13 : R.waiting.complete ≡ false → ok ≡ false → (answer ≡ Err SegmentLength) × (after ≡ out)
  unfolding take_answer take_out take_links need_of
  wrong_13 e f = (rw (e, f) refl, rw (e, f) refl)

  as_one_call : R.waiting.complete ≡ false → ok ≡ true → (answer ≡ one) × (after ≡ open_out w l R.key own header text [] out)
  unfolding take_answer take_out take_links need_of
  as_one_call e f = (rw (e, f) refl, rw (e, f) refl)

  ways : {A : Type 0} → (R.waiting.complete ≡ true → A) → (R.waiting.complete ≡ false → ok ≡ false → A) → (R.waiting.complete ≡ false → ok ≡ true → A) → A
  ways f g h = ⊎_elim f (λ (e : R.waiting.complete ≡ false). ⊎_elim (h e) (g e) (either ok)) (either R.waiting.complete)

  -- ---- the runs of P

  -- what is known where runs are reported
  small : (number_of answer ≡ 0) ⊎ (number_of answer ≡ 10) → (length note ≤ 65520) × ((length text - tag_bytes w ≤ 65536) × (length out ≡ length text - tag_bytes w))
  small h =
      ways (λ e. let n : number_of answer ≡ 14 = ap number_of (complete_14 e).0 in absurd (⊎_elim (λ z. omega arith) (λ z. omega arith) h))
      (λ e f. let n : number_of answer ≡ 13 = ap number_of (wrong_13 e f).0 in absurd (⊎_elim (λ z. omega arith) (λ z. omega arith) h))
      (λ e f.
      let limits = (looked_at w l R.key own header text [] out).0 (rw (sym (as_one_call e f).0) h) in
      let rule = rule_below i last (length text - widths_length w) (sealed_from_lem w i last (length text) f).1 in
      ((job_of_opening w R.key R.nonce R.terms note i last (length text) (length out) limits).0.note_within, rw (tag_long w) (rule, limits.exact)))

  -- what code reports, from what it works out
  pub take_reports : {a : Answer} {n m : ℕ} → a ≡ taking_answer w R note last text out → n ≡ runs_within w (front_bytes + length note) (length out) 0
      → m ≡ runs_with a n → m ≡ taking_runs w R note last text out
  unfolding take_runs
  take_reports {a} {n} ea en em =
      em ∙ ap (λ (x : Answer). runs_with x n) ea
      ∙ reports_code w R.terms note answer (length out) (λ h. let k = small h in (k.0, omega (arith, k.1.0, k.1.1))) n en
      ∙ same_report answer _ _ (λ h. ap (λ (k : ℕ). sealing_runs w (length header) k 0) (small h).1.1)

  counted : counted_runs w l (tag_bits w) R.key own header (recovered w l (tag_bits w) R.key own header text) [] ≡ sealing_runs w (length header) (length text - tag_bytes w) 0
  counted =
      (counts_sealing w).by_formula l (tag_bits w) R.key own header (recovered w l (tag_bits w) R.key own header text) []
      ∙ ap (λ (k : ℕ). sealing_runs w (length header) k 0) (length-recovered w l (tag_bits w) R.key own header text)

  reported :
      ReportsRuns w (counted_runs w l (tag_bits w) R.key own header (recovered w l (tag_bits w) R.key own header text) []) (16 + length note)
      (length text - widths_length w) 0 (number_of answer) (taking_runs w R note last text out)
  unfolding take_runs
  reported = rw (sym (tag_long w)) (reports_segment w R.terms note answer (length text - tag_bytes w) (λ h. ((small h).0, (small h).1.0)) _ counted)

  most : taking_runs w R note last text out ≤ most_segment_runs w
  unfolding take_runs
  most = segment_at_most w R.terms note answer (length text - tag_bytes w) (λ h. ((small h).0, (small h).1.0))

  -- ---- 3 is never answered

  one_not_3 : ok ≡ true → number_of one ≢ 3
  unfolding open_answer sealed_ok
  one_not_3 e z =
      let long = (both (leb (tag_bytes w) (length text)) (segment_ok i last (length text - tag_bytes w)) e).0 in
      let c : Answer = checked w l R.key own header text [] out in
      ⊎_elim
      (λ (d : done_of c ≡ true). by_tag (opened w l (tag_bits w) R.key own header text []) (ap number_of (sym (cond_true _ _ _ d)) ∙ z))
      (λ (d : done_of c ≡ false).
      not_3 (row_bytes w) (tag_bytes w) l (length R.key) (length own) (length header) (length text) (length out) long (ap number_of (sym (cond_false _ _ _ d)) ∙ z))
      (either (done_of c))
    where
      by_tag : (o : Option (List ℕ)) → number_of (answer_of o) ≡ 3 → ⊥
      by_tag none e = omega arith
      by_tag (some m) e = omega arith

  -- ---- what is handed out is what sealing gives

  module _ (bytes : Bytes text) where
    opens : Opens w l R.key own header text [] out (number_of one) (open_runs w l R.key own header text [] out) (open_out w l R.key own header text [] out)
    opens = one-opens w l R.key own header text [] out bytes

    abbrev To : List ℕ → Type 0
    To M = SealsTo w l (tag_bits w) R.key own header [] text M

    -- a message that seals to the text is as long as it less a tag
    message_long : (M : List ℕ) → To M → length text ≡ length M + widths_length w
    message_long M to =
        ap length (sym to.1) ∙ length-sealed w l (tag_bits w) (tag_fits w) R.key own header [] M ∙ ap (λ (k : ℕ). length M + k) (tag_long w)

    given_of : (M : List ℕ) → To M → Rule i last (length text - widths_length w) → JobLimits w l (length R.key) (length R.nonce) (length note) → GivenFor w R note last text out M
    given_of M to rule job =
        let long = message_long M to in
        let n : length text - widths_length w ≡ length M = omega arith in (
          to.0,
          λ o e.
              let done = (seals_segment w R.key R.nonce R.terms note i last M o).as_defined (rw (sym n) rule) job (e ∙ long) in
              (done.0, done.1 ∙ to.1),
        )

    to_of : (M : List ℕ) → GivenFor w R note last text out M → To M
    to_of M given =
        let g = given.1 text refl in
        (given.0, sym (segment_sealed w R.key R.nonce R.terms note i last M text (zero_done (segment_answer w R.key R.nonce R.terms note i last M text) g.0)) ∙ g.1)

    may : length text ≡ length out + widths_length w → Rule i last (length out) → JobLimits w l (length R.key) (length R.nonce) (length note)
        → (ok ≡ true) × MayOpen w l R.key own header text [] out
    may long rule job =
        let n : length text - widths_length w ≡ length out = omega arith in (
          sealed_to w i last (length text) (omega arith, rw n rule),
          one_opening w R.key R.nonce R.terms note i last (length text) (length out) (rule_below i last (length out) rule) job long,
        )

    pub handed_out_lem : R.waiting.complete ≡ false → (M : List ℕ) → (number_of (taking_answer w R note last text out) ≡ 0) × (taking_out w R note last text out ≡ M) → GivenFor w R note last text out M
    handed_out_lem e M h =
        ⊎_elim
        (λ (f : ok ≡ true).
        let is = as_one_call e f in
        let zero : number_of one ≡ 0 = ap number_of (sym is.0) ∙ h.0 in
        let limits = opens.looked_at.0 (inl zero) in
        let to = (opens.handed_out limits M).0 (zero, sym is.1 ∙ h.1) in
        given_of M to (sealed_from_lem w i last (length text) f).1 (job_of_opening w R.key R.nonce R.terms note i last (length text) (length out) limits).0)
        (λ (f : ok ≡ false). let z : number_of answer ≡ 13 = ap number_of (wrong_13 e f).0 in absurd (omega (arith, h.0)))
        (either ok)

    handed_by : R.waiting.complete ≡ false → length text ≡ length out + widths_length w → (M : List ℕ) → GivenFor w R note last text out M → (number_of answer ≡ 0) × (after ≡ M)
    handed_by e long M given =
        let only = (seals_segment w R.key R.nonce R.terms note i last M text).only_there (given.1 text refl).0 in
        let n : length M ≡ length out = omega (arith, only.1.1) in
        let m = may long (rw (sym n) only.0) only.1.0 in
        let is = as_one_call e m.0 in
        let done = (opens.handed_out m.1 M).1 (to_of M given) in
        (ap number_of is.0 ∙ done.0, is.1 ∙ done.1)

    refused_by : R.waiting.complete ≡ false → length text ≡ length out + widths_length w → Rule i last (length out)
        → JobLimits w l (length R.key) (length R.nonce) (length note) → ((M : List ℕ) → GivenFor w R note last text out M → ⊥)
        → (number_of answer ≡ 10) × (after ≡ replicate (length out) 0)
    refused_by e long rule job never =
        let n : length text - widths_length w ≡ length out = omega arith in
        let m = may long rule job in
        let is = as_one_call e m.0 in
        let done = (opens.refused m.1).1 (λ M to. never M (given_of M to (rw n rule) job)) in
        (ap number_of is.0 ∙ done.0, is.1 ∙ done.1)

    -- ---- the other answers

    is_14 : number_of answer ≡ 14 → R.waiting.complete ≡ true
    is_14 z =
        ways (λ e. e) (λ e f. let n : number_of answer ≡ 13 = ap number_of (wrong_13 e f).0 in absurd (omega arith))
        (λ e f. absurd (opening_not w l R.key own header text [] out 14 (omega arith) (ap number_of (sym (as_one_call e f).0) ∙ z)))

    is_13 : number_of answer ≡ 13 → (R.waiting.complete ≡ false) × (SealedRule w i last (length text) → ⊥)
    is_13 z =
        ways (λ e. let n : number_of answer ≡ 14 = ap number_of (complete_14 e).0 in absurd (omega arith))
        (λ e f. (e, λ rule. let t : ok ≡ true = sealed_to w i last (length text) rule in let no : ◌≡◌ {A = ℕ} 0 1 = cc in omega arith))
        (λ e f. absurd (opening_not w l R.key own header text [] out 13 (omega arith) (ap number_of (sym (as_one_call e f).0) ∙ z)))

    gives_13 : (R.waiting.complete ≡ false) × (SealedRule w i last (length text) → ⊥) → number_of answer ≡ 13
    gives_13 h =
        ⊎_elim (λ (f : ok ≡ true). absurd (h.1 (sealed_from_lem w i last (length text) f))) (λ (f : ok ≡ false). ap number_of (wrong_13 h.0 f).0) (either ok)

    never_3 : number_of answer ≢ 3
    never_3 z =
        ways (λ e. let n : number_of answer ≡ 14 = ap number_of (complete_14 e).0 in omega arith)
        (λ e f. let n : number_of answer ≡ 13 = ap number_of (wrong_13 e f).0 in omega arith) (λ e f. one_not_3 f (ap number_of (sym (as_one_call e f).0) ∙ z))

    leaves_bytes : LeavesBytes out (number_of answer) after
    leaves_bytes =
        ways (λ e. kept 14 (omega arith) (ap number_of (complete_14 e).0) (complete_14 e).1) (λ e f. kept 13 (omega arith) (ap number_of (wrong_13 e f).0) (wrong_13 e f).1)
        (λ e f. rw ((as_one_call e f).0, (as_one_call e f).1) opens.leaves)
      where
        kept : (n : ℕ) → 10 < n → number_of answer ≡ n → after ≡ out → LeavesBytes out (number_of answer) after
        kept n more z same = record { kept = λ h g. same; zeroed = λ ten. absurd (omega arith) }

    pub takes_segment : TakesSegment w R note last text out
    takes_segment = record {
      accepted = λ e long M. (handed_out_lem e M, handed_by e long M);
      refused = refused_by;
      after_last = (is_14, λ e. ap number_of (complete_14 e).0);
      wrong_length = (is_13, gives_13);
      never_3 = never_3;
      leaves = leaves_bytes;
      reports = reported;
      at_most = most;
      goes_on = λ z. taking_next w R note last text out (zero_done answer z);
      stays = λ h. taking_same w R note last text out (not_done answer h);
    }
