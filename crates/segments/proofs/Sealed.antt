-- The promises of sealing one segment, and the segment that P runs most often for, over the width.
-- Assumes nothing.
use mathlib.Core.Path.{◌≡◌, refl, sym, ap, ap₂, ◌∙◌}
use mathlib.Core.Bool.{Bool, true, false}
use mathlib.Core.Logic.{◌⊎◌, inl, inr, ⊎_elim, ◌≢◌}
use mathlib.Core.List.{List, []}
use Prim.Native.Nat.{ℕ, ◌+◌, ◌≤◌}
use native.Mathlib.Omega.{arith}
use lib.ListN.{length}
use Rattle.std.specs.Prelude.{Err}
use Rattle.norx.specs.Norx.{Width, tag_bits, sealed}
use Rattle.norx.specs.Front.{front_bytes}
use Rattle.norx.specs.Runs.{counted_runs, sealing_runs}
use Rattle.norx.proofs.Bytes.{zeros, length-zeros}
use Rattle.norx.proofs.Runs.{counts_sealing}
use Rattle.answers.specs.declared.Refusal.TheVariants.{SegmentLength}
use Rattle.answers.specs.Answers.{Answer, number_of, need_of, runs_with}
use Rattle.answers.proofs.Tests.{either, cond_true, cond_false}
use Rattle.answers.proofs.Chain.{done_zero, zero_done, not_done}
use Rattle.answers.proofs.Runs.{reported_with}
use Rattle.rules.specs.Limits.{widths_length}
use Rattle.rules.specs.OneCall.{seal_answer}
use Rattle.rules.specs.Runs.{runs_within, ReportsRuns}
use Rattle.rules.proofs.Limits.{seal_limits}
use Rattle.rules.proofs.OneCall.{seal_done}
use Rattle.places.specs.declared.terms.Terms.{Terms}
use Rattle.cutting.specs.Cutting.{segment_ok}
use Rattle.sealing.proofs.Demand.{sealing_not}
use Rattle.segments.specs.Rule.{Rule, job_nonce_length, JobLimits}
use Rattle.segments.specs.Runs.{most_segment_runs, SegmentOf, LargestSegmentRuns}
use Rattle.segments.specs.Segments.{segment_nonce, segment_header, segment_answer, segment_runs, segment_out}
use Rattle.segments.specs.Promises.{InLimits, SealsSegment}
use Rattle.segments.proofs.Checks.{header_long, segment_passed, segment_sealed, segment_kept}
use Rattle.segments.proofs.Runs.{segment_most, longest, reports_code, reports_segment, segment_at_most}
use Rattle.segments.proofs.Rules.{rule_from, rule_to, rule_below, one_sealing, job_of_sealing}

module _ (w : Width) (key nonce : List ℕ) (T : Terms) (note : List ℕ) (i : ℕ) (last : Bool) (text out : List ℕ) where
  abbrev own : List ℕ
  own = segment_nonce nonce i last

  abbrev header : List ℕ
  header = segment_header T note

  abbrev one : Answer
  one = seal_answer w T.rounds key own header text [] out

  abbrev answer : Answer
  answer = segment_answer w key nonce T note i last text out

  -- where the length is the rule's, as one call; and where it is not, 13
  as_one_call : segment_ok i last (length text) ≡ true → answer ≡ one
  unfolding segment_answer need_of
  as_one_call e = cond_true _ _ _ e

  wrong : segment_ok i last (length text) ≡ false → answer ≡ Err SegmentLength
  unfolding segment_answer need_of
  wrong e = cond_false _ _ _ e

  as_defined : Rule i last (length text) → InLimits w key nonce T note i last → length out ≡ length text + widths_length w
      → (number_of answer ≡ 0) × (segment_out w key nonce T note i last text out ≡ sealed w T.rounds (tag_bits w) key own header text [])
  as_defined rule job exact =
      let limits = one_sealing w key nonce T note i last (length text) (length out) (rule_below i last (length text) rule) job exact in
      let zero : number_of answer ≡ 0 = ap number_of (as_one_call (rule_to i last (length text) rule)) ∙ (seal_done w T.rounds key own header text [] out limits).0 in
      (zero, segment_sealed w key nonce T note i last text out (zero_done answer zero))

  only_there : number_of answer ≡ 0 → Rule i last (length text) × (InLimits w key nonce T note i last × (length out ≡ length text + widths_length w))
  unfolding seal_answer
  only_there e =
      let p = segment_passed w key nonce T note i last text out (zero_done answer e) in
      let limits = (seal_limits w T.rounds (length key) (length own) (length header) (length text) 0 (length out)).0 (done_zero one p.1) in
      (rule_from i last (length text) p.0, job_of_sealing w key nonce T note i last (length text) (length out) limits)

  not_13 : Rule i last (length text) → number_of answer ≢ 13
  not_13 rule e = sealing_not w T.rounds key own header text [] out 13 (omega arith) (ap number_of (sym (as_one_call (rule_to i last (length text) rule))) ∙ e)

  is_13 : (Rule i last (length text) → ⊥) → number_of answer ≡ 13
  is_13 never =
      ⊎_elim (λ (e : segment_ok i last (length text) ≡ true). absurd (never (rule_from i last (length text) e)))
      (λ (e : segment_ok i last (length text) ≡ false). ap number_of (wrong e)) (either (segment_ok i last (length text)))

  never_10 : number_of answer ≢ 10
  never_10 z =
      ⊎_elim
      (λ (e : segment_ok i last (length text) ≡ true). sealing_not w T.rounds key own header text [] out 10 (omega arith) (ap number_of (sym (as_one_call e)) ∙ z))
      (λ (e : segment_ok i last (length text) ≡ false). let n : number_of answer ≡ 13 = ap number_of (wrong e) in omega arith)
      (either (segment_ok i last (length text)))

  -- where runs are reported, note and body have their limits
  small : (number_of answer ≡ 0) ⊎ (number_of answer ≡ 10) → (length note ≤ 65520) × (length text ≤ 65536)
  small (inl e) = let there = only_there e in (there.1.0.note_within, rule_below i last (length text) there.0)
  small (inr e) = absurd (never_10 e)

  -- what code reports, from what it works out
  pub segment_reports : {a : Answer} {n m : ℕ} → a ≡ segment_answer w key nonce T note i last text out → n ≡ runs_within w (front_bytes + length note) (length text) 0
      → m ≡ runs_with a n → m ≡ segment_runs w key nonce T note i last text out
  unfolding segment_runs
  segment_reports {a} {n} ea en em = em ∙ ap (λ (x : Answer). runs_with x n) ea ∙ reports_code w T note answer (length text) small n en

  reported :
      ReportsRuns w (counted_runs w T.rounds (tag_bits w) key own header text []) (16 + length note) (length text) 0
      (number_of answer) (segment_runs w key nonce T note i last text out)
  unfolding segment_runs
  reported = reports_segment w T note answer (length text) small _ ((counts_sealing w).by_formula T.rounds (tag_bits w) key own header text [])

  most : segment_runs w key nonce T note i last text out ≤ most_segment_runs w
  unfolding segment_runs
  most = segment_at_most w T note answer (length text) small

  pub seals_segment : SealsSegment w key nonce T note i last text out
  seals_segment = record {
    as_defined = as_defined;
    only_there = only_there;
    wrong_length = (λ e rule. not_13 rule e, is_13);
    kept = λ h. segment_kept w key nonce T note i last text out (not_done answer h);
    reports = reported;
    at_most = most;
  }

-- ---- the largest segment

module _ (w : Width) (T : Terms) (ok : (T.rounds ≡ 4) ⊎ (T.rounds ≡ 6)) (key nonce note body out : List ℕ) (key_long : length key ≡ widths_length w)
    (nonce_long : length nonce ≡ job_nonce_length w) (note-long : length note ≡ 65520) (body-long : length body ≡ 65536) (out-long : length out ≡ 65536 + widths_length w) where
  its_rule : Rule 0 true (length body)
  its_rule = (omega arith, (inr refl, omega arith))

  longest_reports : SegmentOf w T (most_segment_runs w)
  unfolding segment_runs
  longest_reports =
      let job : JobLimits w T.rounds (length key) (length nonce) (length note) = record { rounds = ok; key_long = key_long; nonce_long = nonce_long; note_within = omega arith } in
      let zero = (as_defined w key nonce T note 0 true body out its_rule job (out-long ∙ ap (λ (n : ℕ). n + widths_length w) (sym body-long))).0 in
      record {
        key = key;
        nonce = nonce;
        note = note;
        index = 0;
        last = true;
        body = body;
        out = out;
        answered = zero;
        reports = reported_with (segment_answer w key nonce T note 0 true body out) _ (inl zero)
            ∙ ap₂ (λ (h b : ℕ). sealing_runs w h b 0) (header_long T note ∙ ap (λ (n : ℕ). 16 + n) note-long) body-long ∙ longest w;
      }

pub largest_segment_runs : (w : Width) → LargestSegmentRuns w
largest_segment_runs w = record {
  reached = λ T ok.
      longest_reports w T ok (zeros (widths_length w)) (zeros (job_nonce_length w)) (zeros 65520) (zeros 65536) (zeros (65536 + widths_length w))
      (length-zeros (widths_length w)) (length-zeros (job_nonce_length w)) (length-zeros 65520) (length-zeros 65536) (length-zeros (65536 + widths_length w));
  never_more = λ i last n note rule within. segment_most w note n within (rule_below i last n rule);
}
