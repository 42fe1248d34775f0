-- Demands 1 and 2 of a call, and what it reports of the runs of P, from what its contract says of the answer and of the output.
-- Assumes nothing.
use mathlib.Core.Path.{◌≡◌, refl, sym, ap, ◌∙◌}
use mathlib.Core.Bool.{true, false, false≢true}
use mathlib.Core.Logic.{◌⊎◌, inl, inr, ⊎_elim, ◌↔◌, ◌≢◌}
use mathlib.Core.List.{List}
use mathlib.Core.Option.{Option, none, some}
use Prim.Native.Nat.{ℕ, ◌-◌, ◌<◌}
use native.Mathlib.Omega.{arith}
use lib.ListN.{length, replicate}
use Rattle.norx.specs.Norx.{Width, row_bytes, tag_bits, recovered, opened}
use Rattle.norx.specs.Runs.{counted_runs, sealing_runs}
use Rattle.norx.specs.Texts.{Bytes}
use Rattle.norx.proofs.Runs.{counts_sealing, length-recovered}
use Rattle.answers.specs.declared.Outcome.{Outcome}
use Rattle.answers.specs.Answers.{Answer, number_of, done_of, runs_with, reported_of}
use Rattle.answers.proofs.Tests.{either, cond_false}
use Rattle.answers.proofs.Chain.{done_zero, zero_done, not_done}
use Rattle.answers.proofs.Runs.{same_report}
use Rattle.rules.specs.Rules.{tag_bytes}
use Rattle.rules.specs.Calls.{answer_of, out_of}
use Rattle.rules.specs.Limits.{widths_length, PartLimits}
use Rattle.rules.specs.Runs.{runs_within, seal_runs, open_runs, ReportsRuns}
use Rattle.rules.specs.OneCall.{seal_answer, seal_out, checked, open_answer, open_out}
use Rattle.rules.proofs.Lengths.{tag_fits}
use Rattle.rules.proofs.Limits.{tag_long, seal_limits, open_limits, seal_answers, open_answers}
use Rattle.rules.proofs.Work.{reports_runs, report_within}
use Rattle.rules.proofs.OneCall.{handed_out, refused, seal_done, open_done}
use Rattle.sealing.specs.Promises.{LeavesBytes, MaySeal, MayOpen, Seals, Opens}

-- ---- sealing

module _ (w : Width) (l : ℕ) (key nonce header text trailer before : List ℕ) where
  abbrev sealing : Answer
  sealing = seal_answer w l key nonce header text trailer before

  may_seal : (number_of sealing ≡ 0) ↔ MaySeal w l key nonce header text trailer before
  unfolding seal_answer
  may_seal = seal_limits w l (length key) (length nonce) (length header) (length text) (length trailer) (length before)

  pub sealing_not : (n : ℕ) → 5 < n → number_of (seal_answer w l key nonce header text trailer before) ≢ n
  unfolding seal_answer
  sealing_not n more = seal_answers n more (row_bytes w) (tag_bytes w) l (length key) (length nonce) (length header) (length text) (length trailer) (length before)

  kept_sealing : number_of sealing ≢ 0 → seal_out w l key nonce header text trailer before ≡ before
  unfolding seal_out
  kept_sealing h = cond_false _ _ before (not_done sealing h)

  pub seal_within : (number_of (seal_answer w l key nonce header text trailer before) ≡ 0) ⊎ (number_of (seal_answer w l key nonce header text trailer before) ≡ 10)
      → PartLimits (length header) (length text) (length trailer)
  seal_within (inl e) = (may_seal.0 e).parts
  seal_within (inr e) = absurd (sealing_not 10 (omega arith) e)

  reports_sealing :
      ReportsRuns w (counted_runs w l (tag_bits w) key nonce header text trailer) (length header) (length text) (length trailer)
      (number_of sealing) (seal_runs w l key nonce header text trailer before)
  unfolding seal_runs
  reports_sealing =
      reports_runs w sealing _ (length header) (length text) (length trailer)
      ((counts_sealing w).by_formula l (tag_bits w) key nonce header text trailer) seal_within

  seals :
      Seals w l key nonce header text trailer before (number_of (seal_answer w l key nonce header text trailer before))
      (seal_runs w l key nonce header text trailer before) (seal_out w l key nonce header text trailer before)
  seals = record {
    as_defined = seal_done w l key nonce header text trailer before;
    only_there = may_seal.0;
    never_10 = sealing_not 10 (omega arith);
    leaves = record { kept = λ h g. kept_sealing h; zeroed = λ e. absurd (sealing_not 10 (omega arith) e) };
    reports = reports_sealing;
  }

-- ---- opening

module _ (w : Width) (l : ℕ) (key nonce header text trailer before : List ℕ) where
  abbrev checks : Answer
  checks = checked w l key nonce header text trailer before

  abbrev o : Option (List ℕ)
  o = opened w l (tag_bits w) key nonce header text trailer

  abbrev opening : Answer
  opening = open_answer w l key nonce header text trailer before

  abbrev output : List ℕ
  output = open_out w l key nonce header text trailer before

  may_open : (number_of checks ≡ 0) ↔ MayOpen w l key nonce header text trailer before
  may_open = open_limits w l (length key) (length nonce) (length header) (length text) (length trailer) (length before)

  -- where its numbers are refused: their answer, which is neither 0 nor 10, and the output as it was
  numbers_refused : done_of checks ≡ false → (opening ≡ checks) × (output ≡ before)
  unfolding open_answer open_out
  numbers_refused e = (cond_false _ _ _ e, cond_false _ _ _ e)

  checks_not : (n : ℕ) → 5 < n → number_of checks ≢ n
  checks_not n more = open_answers n more (row_bytes w) (tag_bytes w) l (length key) (length nonce) (length header) (length text) (length trailer) (length before)

  may_where : done_of checks ≡ true → MayOpen w l key nonce header text trailer before
  may_where e = may_open.0 (done_zero checks e)

  never_there : done_of checks ≡ false → (number_of opening ≡ 0) ⊎ (number_of opening ≡ 10) → ⊥
  never_there e (inl z) = let done : done_of checks ≡ true = zero_done checks (sym (ap number_of (numbers_refused e).0) ∙ z) in absurd (false≢true (sym e ∙ done))
  never_there e (inr z) = checks_not 10 (omega arith) (sym (ap number_of (numbers_refused e).0) ∙ z)

  by_tag : (x : Option (List ℕ)) → (number_of (answer_of x) ≡ 0) ⊎ (number_of (answer_of x) ≡ 10)
  by_tag none = inr refl
  by_tag (some m) = inl refl

  pub looked_at :
      ((number_of (open_answer w l key nonce header text trailer before) ≡ 0) ⊎ (number_of (open_answer w l key nonce header text trailer before) ≡ 10))
      ↔ MayOpen w l key nonce header text trailer before
  looked_at = (
    λ h. ⊎_elim may_where (λ e. absurd (never_there e h)) (either (done_of checks)),
    λ may. rw (open_done w l key nonce header text trailer before may).0 (by_tag o),
  )

  pub opening_not : (n : ℕ) → 10 < n → number_of (open_answer w l key nonce header text trailer before) ≢ n
  opening_not n more z =
      ⊎_elim
      (λ (e : done_of checks ≡ true).
      let number : number_of opening ≡ number_of (answer_of o) = ap number_of (open_done w l key nonce header text trailer before (may_where e)).0 in
      ⊎_elim (λ y. omega arith) (λ y. omega arith) (by_tag o))
      (λ (e : done_of checks ≡ false). checks_not n (omega arith) (sym (ap number_of (numbers_refused e).0) ∙ z))
      (either (done_of checks))

  zeros_of : (n : ℕ) (x : Option (List ℕ)) → number_of (answer_of x) ≡ 10 → out_of x n ≡ replicate n 0
  zeros_of n none e = refl
  zeros_of n (some m) e = absurd (omega arith)

  leaves_bytes : LeavesBytes before (number_of opening) output
  leaves_bytes =
      ⊎_elim
      (λ (e : done_of checks ≡ true).
      let done = open_done w l key nonce header text trailer before (may_where e) in
      let number : number_of opening ≡ number_of (answer_of o) = ap number_of done.0 in
      record {
        kept = λ h g. absurd (⊎_elim (λ z. h (number ∙ z)) (λ z. g (number ∙ z)) (by_tag o));
        zeroed = λ z. done.1 ∙ zeros_of (length before) o (sym number ∙ z);
      })
      (λ (e : done_of checks ≡ false). record { kept = λ h g. (numbers_refused e).1; zeroed = λ z. absurd (never_there e (inr z)) })
      (either (done_of checks))

  -- the number in the definition, by the lengths
  counted_recovered :
      counted_runs w l (tag_bits w) key nonce header (recovered w l (tag_bits w) key nonce header text) trailer
      ≡ sealing_runs w (length header) (length text - tag_bytes w) (length trailer)
  counted_recovered =
      (counts_sealing w).by_formula l (tag_bits w) key nonce header (recovered w l (tag_bits w) key nonce header text) trailer
      ∙ ap (λ (n : ℕ). sealing_runs w (length header) n (length trailer)) (length-recovered w l (tag_bits w) key nonce header text)

  reports_opening :
      ReportsRuns w (counted_runs w l (tag_bits w) key nonce header (recovered w l (tag_bits w) key nonce header text) trailer)
      (length header) (length text - widths_length w) (length trailer) (number_of opening) (open_runs w l key nonce header text trailer before)
  unfolding open_runs
  reports_opening =
      rw (sym (tag_long w))
      (reports_runs w opening _ (length header) (length text - tag_bytes w) (length trailer) counted_recovered (λ h. rw (tag_long w) (looked_at.0 h).parts))

  pub opens : Bytes text
      → Opens w l key nonce header text trailer before (number_of (open_answer w l key nonce header text trailer before))
      (open_runs w l key nonce header text trailer before) (open_out w l key nonce header text trailer before)
  opens bytes = record {
    handed_out = λ may M.
        let done = open_done w l key nonce header text trailer before may in
        rw (done.0, done.1) (handed_out w l (tag_bits w) (tag_fits w) key nonce header text trailer bytes (length before) M);
    refused = λ may.
        let done = open_done w l key nonce header text trailer before may in
        rw (done.0, done.1) (refused w l (tag_bits w) (tag_fits w) key nonce header text trailer bytes (length before));
    looked_at = looked_at;
    leaves = leaves_bytes;
    reports = reports_opening;
  }

-- ---- a contract, from its equations

module _ (w : Width) (l : ℕ) (key nonce header text trailer before : List ℕ) {r : Outcome} {after : List ℕ} {n : ℕ} where
  pub seal_ensures : {a : Answer} → a ≡ seal_answer w l key nonce header text trailer before → n ≡ runs_within w (length header) (length text) (length trailer)
      → r ≡ reported_of a n → after ≡ seal_out w l key nonce header text trailer before
      → (r.answer ≡ seal_answer w l key nonce header text trailer before)
      × ((r.runs ≡ seal_runs w l key nonce header text trailer before)
      × ((after ≡ seal_out w l key nonce header text trailer before)
      × Seals w l key nonce header text trailer before (number_of r.answer) r.runs after))
  unfolding seal_runs
  seal_ensures e f g h =
      let answer : r.answer ≡ seal_answer w l key nonce header text trailer before = ap (λ (o : Outcome). o.answer) g ∙ e in
      let runs : r.runs ≡ seal_runs w l key nonce header text trailer before =
      ap (λ (o : Outcome). o.runs) g ∙ ap (λ (x : Answer). runs_with x n) e
      ∙ report_within w (seal_answer w l key nonce header text trailer before) (length header) (length text) (length trailer) n f
      (seal_within w l key nonce header text trailer before) in
      (answer, (runs, (h, rw (answer, runs, h) (seals w l key nonce header text trailer before))))

  -- n is worked out from the output, which is as long as the message where it is reported
  pub open_ensures : Bytes text → {a : Answer} → a ≡ open_answer w l key nonce header text trailer before
      → n ≡ runs_within w (length header) (length before) (length trailer) → r ≡ reported_of a n → after ≡ open_out w l key nonce header text trailer before
      → (r.answer ≡ open_answer w l key nonce header text trailer before)
      × ((r.runs ≡ open_runs w l key nonce header text trailer before)
      × ((after ≡ open_out w l key nonce header text trailer before)
      × Opens w l key nonce header text trailer before (number_of r.answer) r.runs after))
  unfolding open_runs
  open_ensures bytes e f g h =
      let o : Answer = open_answer w l key nonce header text trailer before in
      let may : (number_of o ≡ 0) ⊎ (number_of o ≡ 10) → MayOpen w l key nonce header text trailer before = (looked_at w l key nonce header text trailer before).0 in
      let answer : r.answer ≡ open_answer w l key nonce header text trailer before = ap (λ (o : Outcome). o.answer) g ∙ e in
      let long : (number_of o ≡ 0) ⊎ (number_of o ≡ 10) → length before ≡ length text - tag_bytes w = λ z. (may z).exact ∙ ap (λ (k : ℕ). length text - k) (sym (tag_long w)) in
      let runs : r.runs ≡ open_runs w l key nonce header text trailer before =
      ap (λ (o : Outcome). o.runs) g ∙ ap (λ (x : Answer). runs_with x n) e
      ∙ report_within w o (length header) (length before) (length trailer) n f (λ z. rw (may z).exact (may z).parts)
      ∙ same_report o _ _ (λ z. ap (λ (k : ℕ). sealing_runs w (length header) k (length trailer)) (long z)) in
      (answer, (runs, (h, rw (answer, runs, h) (opens w l key nonce header text trailer before bytes))))
