-- Lists: one text is the list of one job, what a list's first lines are, and which line can follow.
-- Assumes nothing.
use mathlib.Core.Path.{◌≡◌, sym, ap, ap₂, ◌∙◌}
use mathlib.Core.Logic.{⊎_elim}
use mathlib.Core.List.{List, [], ◌++◌, append_assoc, append-nil}
use Prim.Native.Nat.{ℕ, suc, ◌+◌, ◌-◌, ◌*◌, ◌<◌, ◌≤◌}
use native.Mathlib.Omega.{arith}
use native.Mathlib.Numerals.{add-one}
use native.Mathlib.Nat.{eq-or-lt_of_le, le_refl}
use lib.ListN.{length}
use Rattle.std.proofs.lemmas.Bool.{cases_lt}
use Rattle.rules.specs.Rules.{segment_bytes, most_segments, longest_job}
use Rattle.cutting.specs.Cutting.{count_of}
use Rattle.lists.specs.Lists.{line_text, segment_length, lines_of, line_at, list_text}
use Rattle.lists.specs.Lines.{first_line, after_line, after_lines, first_lines}
use Rattle.lists.proofs.Lengths.{count_some, count_most, count_at, length_full, length_last, length_most, length_some, length_from, full_count, full_length, full_within}
use Rattle.lists.proofs.Lines.{Lined, first_after, first_none, lines_same, with_line, after_lines_lem, first_lines_lem, first_fewer, first_next, after_more, first_more, same_lines, no_more_lines}
use Rattle.lists.proofs.OneLine.{line_once, line_lined}

pub lined : (j r n i : ℕ) → Lined (line_at j r n i)
lined j r n i = line_lined j r i (segment_length n i)

-- ---- The first lines

-- the first m lines of a list are the list of a body of so many segments
pub cut : (j r n m : ℕ) → 1 ≤ m → m ≤ count_of n → (n' : ℕ) × (n' ≤ n) × (lines_of (line_at j r n) m ≡ list_text j r n')
unfolding list_text
cut j r n m p h =
    ⊎_elim (λ (e : m ≡ count_of n). (n, le_refl n, ap (lines_of (line_at j r n)) e))
    (λ (l : m < count_of n). (
      m * segment_bytes,
      full_within n m l,
      lines_same (line_at j r n) (line_at j r (m * segment_bytes)) m (λ i g. ap (line_text j r i) (length_full n i (omega arith) ∙ sym (full_length m i g)))
          ∙ ap (lines_of (line_at j r (m * segment_bytes))) (sym (full_count m p)),
    )) (eq-or-lt_of_le h)

-- as many as there are, or more
pub first_of_list : (j r n m : ℕ) → 1 ≤ m → (n' : ℕ) × (n' ≤ n) × (first_lines m (list_text j r n) ≡ list_text j r n')
unfolding list_text
first_of_list j r n m p =
    ⊎_elim
    (λ (h : m < count_of n).
    let u = cut j r n m p (omega arith) in
    (u.0, u.1, ap (first_lines m) (sym (append-nil (lines_of (line_at j r n) (count_of n)))) ∙ first_fewer (line_at j r n) (lined j r n) m (count_of n) [] (omega arith) ∙ u.2))
    (λ (g : count_of n ≤ m).
    let d : m ≡ count_of n + (m - count_of n) = omega arith in
    (n, le_refl n, ap (λ (k : ℕ). first_lines k (lines_of (line_at j r n) (count_of n))) d ∙ first_more (line_at j r n) (lined j r n) (count_of n) (m - count_of n))) (cases_lt m (count_of n))

-- ---- One text, one job

pub list_once : (j r n j' r' n' : ℕ) → list_text j r n ≡ list_text j' r' n' → (j ≡ j') × (r ≡ r') × (n ≡ n')
unfolding list_text
list_once j r n j' r' n' e =
    let a = line_at j r n in
    let b = line_at j' r' n' in
    let c : count_of n ≡ count_of n' =
    ⊎_elim (λ (h : count_of n < count_of n'). absurd (no_more_lines a b (lined j r n) (lined j' r' n') (count_of n) (count_of n') e h))
    (λ (g : count_of n' ≤ count_of n).
    ⊎_elim (λ (q : count_of n' ≡ count_of n). sym q) (λ (l : count_of n' < count_of n). absurd (no_more_lines b a (lined j' r' n') (lined j r n) (count_of n') (count_of n) (sym e) l)) (eq-or-lt_of_le g))
    (cases_lt (count_of n) (count_of n')) in
    let k : ℕ = count_of n - 1 in
    let same : line_at j r n (count_of n - 1) ≡ line_at j' r' n' (count_of n - 1) =
    same_lines a b (lined j r n) (lined j' r' n') (count_of n) (e ∙ ap (lines_of b) (sym c)) (count_of n - 1) (omega (arith, count_some n)) in
    let s = line_once j r k (segment_length n k) j' r' k (segment_length n' k) [] [] (ap (λ (x : List ℕ). x ++ []) same) in (
      s.0,
      s.1,
      length_from n ∙ ap (λ (l : ℕ). (count_of n - 1) * segment_bytes + l) s.3
          ∙ ap (λ (m : ℕ). (m - 1) * segment_bytes + segment_length n' (m - 1)) c ∙ sym (length_from n'),
    )

-- ---- A line more

-- what can follow k lines of a body that has n bytes so far
pub record CanFollow (n k l : ℕ) : Type 0 where
  pub full : n ≡ k * segment_bytes
  pub few : k < most_segments
  pub some : 1 ≤ l
  pub most : l ≤ segment_bytes

-- a text that begins with the list of n bytes, and whose first lines and one more are a list again: the line more is one that can follow
pub follows : (j r n j' r' n' k : ℕ) (t rest : List ℕ) → n' ≤ longest_job → k ≡ count_of n → t ≡ lines_of (line_at j r n) k ++ rest → 0 < length rest
    → first_lines (k + 1) t ≡ list_text j' r' n' → (l : ℕ) × (more : List ℕ) × CanFollow n k l × (rest ≡ line_text j r k l ++ more)
unfolding list_text
follows j r n j' r' n' k t rest hn hk h pos eq =
    let a = line_at j r n in
    let b = line_at j' r' n' in
    let e : lines_of (line_at j r n) k ++ first_line rest ≡ lines_of (line_at j' r' n') (count_of n') =
    sym (first_next a (lined j r n) k rest) ∙ ap (first_lines (suc k)) (sym h) ∙ ap (λ (m : ℕ). first_lines m t) (sym (add-one k)) ∙ eq in
    ⊎_elim
    (λ (l : k < count_of n').
    let u = with_line b k (count_of n') l in
    let next : List ℕ = line_at j' r' n' k in
    let same : lines_of (line_at j r n) k ≡ lines_of (line_at j' r' n') k =
    sym (first_lines_lem a (lined j r n) k (first_line rest)) ∙ ap (first_lines k) (e ∙ u.1) ∙ first_lines_lem b (lined j' r' n') k (next ++ u.0) in
    let there : first_line rest ≡ line_at j' r' n' k ++ u.0 =
    sym (after_lines_lem a (lined j r n) k (first_line rest)) ∙ ap (after_lines k) (e ∙ u.1) ∙ after_lines_lem b (lined j' r' n') k (next ++ u.0) in
    let last : line_at j r n (k - 1) ≡ line_at j' r' n' (k - 1) = same_lines a b (lined j r n) (lined j' r' n') k same (k - 1) (omega (arith, count_some n)) in
    let s = line_once j r (k - 1) (segment_length n (k - 1)) j' r' (k - 1) (segment_length n' (k - 1)) [] [] (ap (λ (x : List ℕ). x ++ []) last) in
    let before : count_of n - 1 ≡ k - 1 = omega arith in
    let is : n ≡ (k - 1) * segment_bytes + segment_length n (k - 1) = rw before at (length_from n) in
    let full : segment_length n' (k - 1) ≡ segment_bytes = length_full n' (k - 1) (omega (arith, count_some n)) in (
      segment_length n' k,
      u.0 ++ after_line rest,
      record {
        full = omega (arith, s.3, count_some n);
        few = omega (arith, count_most n' hn);
        some = length_some n' k l (omega (arith, count_some n));
        most = length_most n' k l;
      },
      sym (first_after rest) ∙ ap (λ (x : List ℕ). x ++ after_line rest) there ∙ append_assoc next u.0 (after_line rest)
          ∙ ap₂ (λ (x y : ℕ). line_text x y k (segment_length n' k) ++ (u.0 ++ after_line rest)) (sym s.0) (sym s.1),
    ))
    (λ (g : count_of n' ≤ k).
    let d : k ≡ count_of n' + (k - count_of n') = omega arith in
    let none : first_line rest ≡ [] =
    sym (after_lines_lem a (lined j r n) k (first_line rest)) ∙ ap (after_lines k) e ∙ ap (λ (m : ℕ). after_lines m (lines_of (line_at j' r' n') (count_of n'))) d
    ∙ after_more b (lined j' r' n') (count_of n') (k - count_of n') in
    absurd (omega (arith, first_none rest none))) (cases_lt k (count_of n'))

module _ (j r : ℕ) where
  -- a text whose first line is a list begins with that list's first line
  pub first_is : (t : List ℕ) (n : ℕ) → first_lines 1 t ≡ list_text j r n → (more : List ℕ) × (t ≡ line_text j r 0 (segment_length n 0) ++ more)
  unfolding list_text first_lines after_lines lines_of
  first_is t n e =
      let u = with_line (line_at j r n) 0 (count_of n) (count_some n) in
      (u.0 ++ after_line t, sym (first_after t) ∙ ap (λ (x : List ℕ). x ++ after_line t) (e ∙ u.1) ∙ append_assoc (line_at j r n 0) u.0 (after_line t))

  -- a first line alone is a list
  pub first_good : (t rest : List ℕ) (l : ℕ) → l ≤ segment_bytes → t ≡ line_text j r 0 l ++ rest → (count_of l ≡ 1) × (t ≡ list_text j r l ++ rest)
  unfolding list_text lines_of
  first_good t rest l h e =
      let s : count_of l ≡ 1 = count_at l 0 (omega arith) (λ p. omega arith) in
      let len : segment_length l 0 ≡ l = length_last l 0 (omega arith) ∙ omega arith in
      (s, e ∙ ap (λ (k : ℕ). line_text j r 0 k ++ rest) (sym len) ∙ ap (λ (k : ℕ). lines_of (line_at j r l) k ++ rest) (sym s))

  -- and so is a list with a line more that can follow
  pub next_good : (t rest rest' : List ℕ) (n k l : ℕ) → k ≡ count_of n → CanFollow n k l → t ≡ list_text j r n ++ rest → rest ≡ line_text j r k l ++ rest'
      → (count_of (n + l) ≡ k + 1) × (t ≡ list_text j r (n + l) ++ rest')
  unfolding list_text lines_of
  next_good t rest rest' n k l hk can ht hr =
      let hn = can.full in
      let lo = can.some in
      let hi = can.most in
      let s : count_of (n + l) ≡ k + 1 = count_at (n + l) k (omega arith) (λ p. omega arith) in
      let s' : count_of (n + l) ≡ suc k = s ∙ add-one k in
      let len : l ≡ segment_length (n + l) k = omega (arith, length_last (n + l) k (sym s)) in
      let same : lines_of (line_at j r n) k ≡ lines_of (line_at j r (n + l)) k =
      lines_same (line_at j r n) (line_at j r (n + l)) k (λ i g. ap (line_text j r i) (ap (λ (m : ℕ). segment_length m i) hn ∙ full_length k i g ∙ sym (length_full (n + l) i (omega arith)))) in (
        s,
        ht ∙ ap (λ (m : ℕ). lines_of (line_at j r n) m ++ rest) (sym hk) ∙ ap (λ (x : List ℕ). lines_of (line_at j r n) k ++ x) hr
            ∙ sym (append_assoc (lines_of (line_at j r n) k) (line_text j r k l) rest')
            ∙ ap₂ (λ (x : List ℕ) (m : ℕ). (x ++ line_text j r k m) ++ rest') same len
            ∙ ap (λ (m : ℕ). lines_of (line_at j r (n + l)) m ++ rest') (sym s'),
      )
