-- `lists::list_length`: all indices, the lengths of full segments and that of the last one, and what else each line has.
use mathlib.Core.Path.{◌≡◌, sym, ap, ap₂, ◌∙◌}
use Prim.Native.Nat.{ℕ, ◌+◌, ◌-◌, ◌*◌, ◌≤◌}
use native.Mathlib.Omega.{arith}
use native.Mathlib.Nat.{mul-le-mul}
use lib.ListN.{length}
use Rattle.rules.specs.Rules.{most_segments, longest_job}
use Rattle.cutting.specs.Cutting.{count_of}
use Rattle.decimal.specs.Decimal.{num_text}
use Rattle.lists.specs.Pieces.{index_digits}
use Rattle.lists.proofs.Lengths.{count_some, count_most}
use Rattle.lists.proofs.Writing.{no_length, the_length, whole_length}
use Rattle.lists.proofs.list_length.Goals as goal

some : (body lines : ℕ) → lines ≡ count_of body → 1 ≤ lines
some body lines e = omega (arith, e, count_some body)

few : (body lines : ℕ) → lines ≡ count_of body → body ≤ longest_job → lines ≤ most_segments
few body lines e h = omega (arith, e, count_most body h)

-- what the lines have, and then what their lengths have
lines_room : (lines plain indices : ℕ) → lines ≤ most_segments → plain ≤ 44 → indices ≤ 20 * lines → lines * plain + indices ≤ most_segments * 64
lines_room lines plain indices h p i = let room : lines * plain ≤ most_segments * 44 = mul-le-mul h p in omega arith

pub overflow_sub-full : goal.overflow_sub-full
overflow_sub-full c = omega (arith, some c.args.body c.count-lines.result c.count-lines.ensures)

pub overflow_mul-lengths : goal.overflow_mul-lengths
overflow_mul-lengths c = omega (arith, few c.args.body c.count-lines.result c.count-lines.ensures c.if-body-gt-LONGEST_JOB.false)

pub overflow_add-lengths : goal.overflow_add-lengths
overflow_add-lengths c = omega (arith, few c.args.body c.count-lines.result c.count-lines.ensures c.if-body-gt-LONGEST_JOB.false, c.number_length.ensures.1)

pub overflow_mul-result : goal.overflow_mul-result
overflow_mul-result c = let room : c.count-lines.result * c.plain_length.result ≤ most_segments * 44 = mul-le-mul (few c.args.body c.count-lines.result c.count-lines.ensures c.if-body-gt-LONGEST_JOB.false) c.plain_length.ensures.1 in omega arith

pub index_digits-requires : goal.index_digits-requires
index_digits-requires c = few c.args.body c.count-lines.result c.count-lines.ensures c.if-body-gt-LONGEST_JOB.false

pub overflow_add-result : goal.overflow_add-result
overflow_add-result c = omega (arith, lines_room c.count-lines.result c.plain_length.result c.index_digits.result (few c.args.body c.count-lines.result c.count-lines.ensures c.if-body-gt-LONGEST_JOB.false) c.plain_length.ensures.1 c.index_digits.ensures.1)

pub overflow_add-result-2 : goal.overflow_add-result-2
overflow_add-result-2 c = omega (arith, lines_room c.count-lines.result c.plain_length.result c.index_digits.result (few c.args.body c.count-lines.result c.count-lines.ensures c.if-body-gt-LONGEST_JOB.false) c.plain_length.ensures.1 c.index_digits.ensures.1, few c.args.body c.count-lines.result c.count-lines.ensures c.if-body-gt-LONGEST_JOB.false, c.number_length.ensures.1)

pub returns-then-body-gt-LONGEST_JOB : goal.returns-then-body-gt-LONGEST_JOB
returns-then-body-gt-LONGEST_JOB c = let x = c.args in no_length x.job x.revision x.body c.if-body-gt-LONGEST_JOB.true

pub returns : goal.returns
returns c =
    let x = c.args in
    let full = c.count-lines.result - 1 in
    let lines : c.count-lines.result ≡ full + 1 = omega (arith, some x.body c.count-lines.result c.count-lines.ensures) in
    let all : full + 1 ≡ count_of x.body = sym lines ∙ c.count-lines.ensures in
    let last = c.number_length.ensures.0 ∙ ap (λ (l : ℕ). length (num_text l)) c.segment_length.ensures in
    let plain = ap₂ (λ (k f : ℕ). k * f) lines c.plain_length.ensures.0 in
    let indices = c.index_digits.ensures.0 ∙ ap index_digits lines in
    ap₂ (λ (a b : ℕ). a + b) (ap₂ (λ (a b : ℕ). a + b) plain indices) (ap (λ (l : ℕ). full * 5 + l) last)
    ∙ sym (whole_length x.job x.revision x.body full all) ∙ sym (the_length x.job x.revision x.body c.if-body-gt-LONGEST_JOB.false)
