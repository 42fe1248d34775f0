-- The checks of a segment pass exactly where rule and limits are kept, and which number each gives.
-- Assumes nothing.
use mathlib.Core.Path.{◌≡◌, refl, sym, ap, ◌∙◌}
use mathlib.Core.Bool.{Bool, true, false}
use mathlib.Core.List.{List}
use Prim.Native.Nat.{ℕ, ◌+◌, ◌-◌, ◌≤◌, ◌<◌}
use native.Mathlib.Omega.{arith}
use borrow.Author.Tests.{le-leb, leb-true, lt-ltb, ltb-true, eq-eqb, eqb-true}
use lib.Dec.{leb, ltb, eqb}
use lib.ListN.{length}
use Rattle.norx.specs.Norx.{Width, word32, word64}
use Rattle.answers.proofs.Chain.{both, and_true}
use Rattle.rules.specs.Rules.{segment_bytes, most_segments, tag_bytes}
use Rattle.rules.specs.Limits.{widths_length, StartLimits, PartLimits, SealLimits, OpenLimits}
use Rattle.rules.proofs.Limits.{tag_long}
use Rattle.places.specs.declared.terms.Terms.{Terms}
use Rattle.cutting.specs.Cutting.{segment_ok, sealed_ok}
use Rattle.cutting.proofs.Cuts.{last_rule, last_ok}
use Rattle.segments.specs.Rule.{Rule, job_nonce_length, JobLimits, SealedRule}
use Rattle.segments.specs.Segments.{segment_nonce, segment_header}
use Rattle.segments.proofs.Checks.{nonce_long, header_long}

-- ---- the rule

pub rule_from : (i : ℕ) (last : Bool) (n : ℕ) → segment_ok i last n ≡ true → Rule i last n
unfolding segment_ok
rule_from i true n e = let r = last_rule i n e in (r.0, (r.1.0, omega (arith, r.1.1)))
rule_from i false n e =
    let a = both (eqb n segment_bytes) (ltb i (most_segments - 1)) e in
    let below : i < most_segments - 1 = ltb-true i (most_segments - 1) a.1 in
    (eqb-true n segment_bytes a.0, omega arith)

pub rule_to : (i : ℕ) (last : Bool) (n : ℕ) → Rule i last n → segment_ok i last n ≡ true
unfolding segment_ok
rule_to i true n h = last_ok i n h.0 h.1.0 (omega (arith, h.1.1))
rule_to i false n h =
    and_true (eqb n segment_bytes) (ltb i (most_segments - 1)) (eq-eqb n segment_bytes h.0) (lt-ltb i (most_segments - 1) (omega (arith, h.1)))

pub rule_below : (i : ℕ) (last : Bool) (n : ℕ) → Rule i last n → n ≤ 65536
rule_below i true n h = h.0
rule_below i false n h = omega (arith, h.0)

module _ (w : Width) (i : ℕ) (last : Bool) (n : ℕ) where
  pub sealed_from_lem : sealed_ok i last (tag_bytes w) n ≡ true → SealedRule w i last n
  unfolding sealed_ok
  sealed_from_lem e =
      let a = both (leb (tag_bytes w) n) (segment_ok i last (n - tag_bytes w)) e in
      rw (sym (tag_long w)) (leb-true (tag_bytes w) n a.0, rule_from i last (n - tag_bytes w) a.1)

  pub sealed_to : SealedRule w i last n → sealed_ok i last (tag_bytes w) n ≡ true
  unfolding sealed_ok
  sealed_to h =
      and_true _ _ (le-leb (tag_bytes w) n (rw (tag_long w) h.0)) (rule_to i last (n - tag_bytes w) (rw (tag_long w) h.1))

-- ---- the limits of one call, where a segment's are kept

pub job_nonce : (w : Width) → job_nonce_length w + 8 ≡ widths_length w
job_nonce word32 = refl
job_nonce word64 = refl

module _ (w : Width) (key nonce : List ℕ) (T : Terms) (note : List ℕ) (i : ℕ) (last : Bool) where
  abbrev own : List ℕ
  own = segment_nonce nonce i last

  abbrev header : List ℕ
  header = segment_header T note

  abbrev InJob : Type 0
  InJob = JobLimits w T.rounds (length key) (length nonce) (length note)

  begins : InJob → StartLimits w T.rounds (length key) (length own)
  begins h = record { rounds = h.rounds; key_long = h.key_long; nonce_long = nonce_long nonce i last ∙ ap (λ (k : ℕ). k + 8) h.nonce_long ∙ job_nonce w }

  parts : (n : ℕ) → InJob → n ≤ 65536 → PartLimits (length header) n 0
  parts n h small = record { header_within = omega (arith, header_long T note, h.note_within); body_within = omega arith; trailer_within = omega arith }

  job_from : StartLimits w T.rounds (length key) (length own) → length header ≤ 65536 → InJob
  job_from s h =
      let long : length nonce + 8 ≡ widths_length w = sym (nonce_long nonce i last) ∙ s.nonce_long in
      let job : job_nonce_length w + 8 ≡ widths_length w = job_nonce w in
      record { rounds = s.rounds; key_long = s.key_long; nonce_long = omega arith; note_within = omega (arith, header_long T note) }

  pub one_sealing : (n out : ℕ) → n ≤ 65536 → InJob → out ≡ n + widths_length w → SealLimits w T.rounds (length key) (length (segment_nonce nonce i last)) (length (segment_header T note)) n 0 out
  one_sealing n out small h e = record { begins = begins h; parts = parts n h small; exact = e }

  pub job_of_sealing : (n out : ℕ) → SealLimits w T.rounds (length key) (length (segment_nonce nonce i last)) (length (segment_header T note)) n 0 out
      → InJob × (out ≡ n + widths_length w)
  job_of_sealing n out h = (job_from h.begins h.parts.header_within, h.exact)

  pub one_opening : (n out : ℕ) → out ≤ 65536 → InJob → n ≡ out + widths_length w → OpenLimits w T.rounds (length key) (length (segment_nonce nonce i last)) (length (segment_header T note)) n 0 out
  one_opening n out small h e =
      let body : n - widths_length w ≡ out = omega arith in
      record { begins = begins h; tagged = omega arith; parts = rw body (parts out h small); exact = sym body }

  pub job_of_opening : (n out : ℕ) → OpenLimits w T.rounds (length key) (length (segment_nonce nonce i last)) (length (segment_header T note)) n 0 out
      → InJob × (n ≡ out + widths_length w)
  job_of_opening n out h = (job_from h.begins h.parts.header_within, omega (arith, h.exact, h.tagged))
