-- Writing part by part and line by line, how long that is, and what the writer then answers.
-- Assumes nothing.
use mathlib.Core.Path.{◌≡◌, refl, sym, ap, ap₂, ◌∙◌}
use mathlib.Core.Bool.{true}
use mathlib.Core.List.{List, [], ◌∷◌, ◌++◌, append_assoc, append-nil}
use Prim.Native.Nat.{ℕ, zero, suc, ◌+◌, ◌-◌, ◌*◌, ◌<◌, ◌≤◌, ◌^◌}
use native.Mathlib.Omega.{arith}
use native.Mathlib.Nat.{zero-add, suc-mul, add-mul, lt_of_lt_of_le}
use native.Mathlib.Numerals.{add-one}
use borrow.Author.Tests.{le-leb, lt-leb, leb-true, eqb-true, eq-eqb}
use lib.Dec.{leb, eqb, lit≤}
use lib.ListN.{length, set, take, drop, length-append, length-drop, drop_of_length-le}
use lib.Seq.{take_all, take_at, drop-drop}
use Rattle.std.specs.Prelude.{Ok}
use Rattle.answers.specs.declared.Refusal.TheVariants.{OverLimit, OutputLength}
use Rattle.answers.specs.Answers.{Answer, done_of, need_of}
use Rattle.answers.proofs.Tests.{cond_true, cond_false}
use Rattle.answers.proofs.Chain.{passed}
use Rattle.rules.specs.Rules.{segment_bytes, longest_job}
use Rattle.cutting.specs.Cutting.{count_of}
use Rattle.decimal.specs.Decimal.{digits, num_text}
use Rattle.decimal.specs.Laid.{laid, put_at, put_end}
use Rattle.decimal.proofs.Digits.{length_below}
use Rattle.decimal.proofs.Lay.{length_laid, laid_one, laid_next, laid_all, put_room}
use Rattle.fields.specs.Fields.{tab, newline}
use Rattle.lists.specs.Lists.{line_of, segment_length, lines_of, line_at, list_text}
use Rattle.lists.specs.Pieces.{front_text, rest_text, lines_behind, index_digits}
use Rattle.lists.specs.Written.{list_length, write_answer, write_out}
use Rattle.lists.proofs.Lengths.{length_full}
use Rattle.lists.proofs.OneLine.{line_length, front_length, front_rest}
use Rattle.lists.proofs.Parts.{full_text}
use Rattle.lists.proofs.Lines.{lines_same, with_line}

-- ---- A line, part by part

abbrev pub part : ℕ → ℕ → List ℕ
part n stop = num_text n ++ (stop ∷ [])

-- a number, and the byte behind it
pub part_laid : (l : List ℕ) (at n stop : ℕ) {end : ℕ} {m : List ℕ} → at + length (num_text n) < length l → end ≡ put_end (num_text n) at l → m ≡ put_at (num_text n) at l
    → (end + 1 ≡ at + length (num_text n ++ (stop ∷ []))) × (set m end stop ≡ laid l at (num_text n ++ (stop ∷ [])))
part_laid l at n stop {end} {m} h e f =
    let x = num_text n in
    let room = put_room (num_text n) at l (omega arith) in
    let place : end ≡ at + length (num_text n) = e ∙ room.0 in
    let text : m ≡ laid l at (num_text n) = f ∙ room.1 in
    let long : end < length m = omega (arith, ap length text, length_laid l at (num_text n) (omega arith)) in (
      omega (arith, length-append (num_text n) (stop ∷ [])),
      laid_one m end stop long ∙ ap₂ (λ (y : List ℕ) (k : ℕ). laid y k (stop ∷ [])) text place ∙ laid_next l at x (stop ∷ []) (omega arith),
    )

-- x, and y behind it
pub then_laid : (l x y : List ℕ) (at end : ℕ) {m n : List ℕ} → end ≡ at + length x → at + length x ≤ length l → m ≡ laid l at x → n ≡ laid m end y → n ≡ laid l at (x ++ y)
then_laid l x y at end e h hm hn = hn ∙ (λ i. laid (hm i) (e i) y) ∙ laid_next l at x y h

pub then_place : (x y : List ℕ) (at : ℕ) {end r : ℕ} → end ≡ at + length x → r ≡ end + length y → r ≡ at + length (x ++ y)
then_place x y at he hr = omega (arith, length-append x y)

pub two_parts : (j r : ℕ) → part j tab ++ part r tab ≡ front_text j r
unfolding front_text
two_parts j r = simp append_assoc

pub three_parts : (front : List ℕ) (i n : ℕ) → (front ++ part i tab) ++ part n newline ≡ front ++ rest_text i n
unfolding rest_text line_of
three_parts front i n = simp append_assoc

-- the ending of a full segment's line
pub full_ending : (n : ℕ) → n ≡ segment_bytes → 54 ∷ 53 ∷ 53 ∷ 51 ∷ 54 ∷ 10 ∷ [] ≡ num_text n ++ (newline ∷ [])
full_ending n e = sym full_text ∙ ap (λ (k : ℕ). num_text k ++ (newline ∷ [])) (sym e)

-- a copied text, as the code cuts the bytes that it is copied to
pub text_laid : (l x : List ℕ) (at : ℕ) {k : ℕ} → at + length x ≤ length l → k ≡ length l - at
    → take at l ++ ((x ++ drop (length x) (take k (drop at l))) ++ drop k (drop at l)) ≡ laid l at x
unfolding laid
text_laid l x at h e =
    let rest : List ℕ = drop at l in
    let all : take (length l - at) (drop at l) ≡ drop at l = take_all (length l - at) (drop at l) (omega (arith, length-drop at l)) in
    let none : drop (length l - at) (drop at l) ≡ [] = drop_of_length-le (drop at l) {i = length l - at} (omega (arith, length-drop at l)) in
    ap (λ (m : ℕ). take at l ++ ((x ++ drop (length x) (take m (drop at l))) ++ drop m (drop at l))) e
    ∙ (λ i. take at l ++ ((x ++ drop (length x) (all i)) ++ none i))
    ∙ ap (λ (y : List ℕ). take at l ++ y) (append-nil (x ++ drop (length x) (drop at l)) ∙ ap (λ (y : List ℕ). x ++ y) (drop-drop (length x) at l))

-- a front has room in 42 bytes, and is read back from where it was laid
pub front_most : (j r : ℕ) → j < 2 ^ 64 → r < 2 ^ 64 → length (front_text j r) ≤ 42
front_most j r hj hr =
    let a = length_below 19 j (lt_of_lt_of_le hj (lit≤ tt)) in
    let b = length_below 19 r (lt_of_lt_of_le hr (lit≤ tt)) in
    omega (arith, front_length j r)

pub front_taken : (l x : List ℕ) (n : ℕ) {m : List ℕ} → n ≡ length x → m ≡ laid l 0 x → take (n - 0) m ≡ x
unfolding laid
front_taken l x n e h =
    let long : length x ≡ n - 0 = omega arith in
    ap (take (n - 0)) h ∙ take_at x (drop (0 + length x) l) (n - 0) long

-- ---- Line by line

module _ (line : ℕ → List ℕ) where
  pub lines_next : (i : ℕ) → lines_of line (i + 1) ≡ lines_of line i ++ line i
  unfolding lines_of
  lines_next i = ap (lines_of line) (add-one i)

  pub length_next : (i : ℕ) → length (lines_of line (i + 1)) ≡ length (lines_of line i) + length (line i)
  length_next i = ap length (lines_next i) ∙ length-append (lines_of line i) (line i)

  -- line i of k has room among them
  pub line_room : (i k : ℕ) → i < k → length (lines_of line i) + length (line i) ≤ length (lines_of line k)
  line_room i k h =
      let u = with_line line i k h in
      omega (arith, ap length u.1, length-append (lines_of line i) (line i ++ u.0), length-append (line i) u.0)

  -- a line more, behind the first i
  pub more_laid : (i k at : ℕ) (l : List ℕ) {m o : List ℕ} → i < k → length l ≡ length (lines_of line k) → at ≡ length (lines_of line i)
      → m ≡ laid l 0 (lines_of line i) → o ≡ laid m at (line i) → o ≡ laid l 0 (lines_of line (i + 1))
  more_laid i k at l h e ha hm ho =
      let room = line_room i k h in
      then_laid l (lines_of line i) (line i) 0 at (ha ∙ sym (zero-add (length (lines_of line i)))) (omega arith) hm ho ∙ ap (laid l 0) (sym (lines_next i))

  pub all_laid : (i k : ℕ) (l : List ℕ) {o : List ℕ} → i ≡ k → length l ≡ length (lines_of line k) → o ≡ laid l 0 (lines_of line i) → o ≡ lines_of line k
  all_laid i k l hi e ho = ho ∙ ap (λ (m : ℕ). laid l 0 (lines_of line m)) hi ∙ laid_all l (lines_of line k) (sym e)

module _ (j r n : ℕ) where
  abbrev upto : ℕ → List ℕ
  upto i = lines_of (line_at j r n) i

  -- the list from its front
  pub from_front : (front : List ℕ) → front ≡ front_text j r → lines_behind front n ≡ list_text j r n
  unfolding lines_behind list_text
  from_front front e =
      lines_same (λ i. front ++ rest_text i (segment_length n i)) (line_at j r n) (count_of n)
      (λ i h. ap (λ (f : List ℕ). f ++ rest_text i (segment_length n i)) e ∙ front_rest j r i (segment_length n i))

  -- a line is its front, its index and length, a tab and a newline; the lengths of full segments have five digits
  one_line : (i : ℕ) → length (line_at j r n i) ≡ length (front_text j r) + 2 + length (num_text i) + length (num_text (segment_length n i))
  one_line i = omega (arith, line_length j r i (segment_length n i), front_length j r)

  five : (i : ℕ) → i + 1 < count_of n → length (num_text (segment_length n i)) ≡ 5
  unfolding num_text digits
  five i h = ap (λ (l : ℕ). length (num_text l)) (length_full n i h)

  full_lines : (k : ℕ) → k < count_of n → length (lines_of (line_at j r n) k) ≡ k * (length (front_text j r) + 2) + index_digits k + k * 5
  unfolding lines_of index_digits
  full_lines zero h = omega arith
  full_lines (suc k) h =
      let one : length (upto k ++ line_at j r n k) ≡ length (upto k) + length (line_at j r n k) = length-append (upto k) (line_at j r n k) in
      omega (arith, one, full_lines k (omega arith), one_line k, five k (omega arith), suc-mul k (length (front_text j r) + 2))

  pub whole_length : (k : ℕ) → k + 1 ≡ count_of n
      → length (list_text j r n) ≡ (k + 1) * (length (front_text j r) + 2) + index_digits (k + 1) + (k * 5 + length (num_text (segment_length n k)))
  unfolding list_text index_digits
  whole_length k e =
      let all : length (lines_of (line_at j r n) (count_of n)) ≡ length (lines_of (line_at j r n) k) + length (line_at j r n k) =
      ap (λ (m : ℕ). length (lines_of (line_at j r n) m)) (sym e) ∙ length_next (line_at j r n) k in
      let digits-all : index_digits (k + 1) ≡ index_digits k + length (num_text k) = ap index_digits (add-one k) in
      omega (arith, all, digits-all, full_lines k (omega arith), one_line k, add-mul k 1 (length (front_text j r) + 2))

  -- ---- Lengths and answers

  pub no_length : longest_job < n → 0 ≡ list_length j r n
  unfolding list_length
  no_length h = sym (cond_false (leb n longest_job) (length (list_text j r n)) 0 (lt-leb n longest_job h))

  pub the_length : n ≤ longest_job → list_length j r n ≡ length (list_text j r n)
  unfolding list_length
  the_length h = cond_true (leb n longest_job) (length (list_text j r n)) 0 (le-leb n longest_job h)

  module _ (out : List ℕ) where
    abbrev exact : Answer
    exact = need_of (eqb (length out) (length (list_text j r n))) OutputLength (Ok tt)

    -- what is known where the answer is 0
    pub done_within : done_of (write_answer j r n out) ≡ true → (n ≤ longest_job) × (length out ≡ length (list_text j r n))
    unfolding write_answer
    done_within e =
        let a = passed (leb n longest_job) OverLimit exact e in
        let b = passed (eqb (length out) (length (list_text j r n))) OutputLength (Ok tt) a.1 in
        (leb-true n longest_job a.0, eqb-true (length out) (length (list_text j r n)) b.0)

    pub answer_done : n ≤ longest_job → length out ≡ length (list_text j r n) → write_answer j r n out ≡ Ok tt
    unfolding write_answer need_of
    answer_done h e = rw (le-leb n longest_job h, eq-eqb (length out) (length (list_text j r n)) e) refl

    pub written : done_of (write_answer j r n out) ≡ true → list_text j r n ≡ write_out j r n out
    unfolding write_out
    written e = sym (cond_true (done_of (write_answer j r n out)) (list_text j r n) out e)
