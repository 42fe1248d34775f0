-- Lines that each end with their only newline, joined: the first of them, and what stands behind.
-- Assumes nothing.
use mathlib.Core.Path.{◌≡◌, refl, sym, ap, ap₂, ◌∙◌}
use mathlib.Core.Bool.{Bool, true, false, cond}
use mathlib.Core.Logic.{⊎_elim}
use mathlib.Core.List.{List, [], ◌∷◌, ◌++◌, append_assoc, append-nil}
use Prim.Native.Nat.{ℕ, zero, suc, ◌+◌, ◌<◌, ◌≤◌}
use native.Mathlib.Omega.{arith}
use native.Mathlib.Nat.{not-suc-le-zero, add-zero, add-suc, eq-or-lt_of_le, le_of_suc-le-suc, le_refl}
use borrow.Author.Tests.{ne_eqb}
use lib.Dec.{eqb}
use lib.ListN.{length, length-append}
use Rattle.std.specs.List.{All}
use Rattle.std.proofs.lemmas.List.Elements.{All-head, All-tail}
use Rattle.fields.specs.Fields.{newline}
use Rattle.lists.specs.Lists.{lines_of}
use Rattle.lists.specs.Lines.{first_line, after_line, after_lines, first_lines}

-- ---- One line

abbrev pub NoNewline : ℕ → Type 0
NoNewline b = b ≡ newline → ⊥

-- bytes that are no newline, and a newline
abbrev pub Lined : List ℕ → Type 0
Lined l = (y : List ℕ) × All NoNewline y × (l ≡ y ++ (newline ∷ []))

first_of : (y more : List ℕ) → All NoNewline y → first_line (y ++ (newline ∷ more)) ≡ y ++ (newline ∷ [])
unfolding first_line
first_of [] more h = refl
first_of (b ∷ y) more h = rw (ne_eqb b newline (All-head NoNewline b y h)) (ap (λ (l : List ℕ). b ∷ l) (first_of y more (All-tail NoNewline b y h)))

after_of : (y more : List ℕ) → All NoNewline y → after_line (y ++ (newline ∷ more)) ≡ more
unfolding after_line
after_of [] more h = refl
after_of (b ∷ y) more h = rw (ne_eqb b newline (All-head NoNewline b y h)) (after_of y more (All-tail NoNewline b y h))

pub line_first : (l more : List ℕ) → Lined l → first_line (l ++ more) ≡ l
line_first l more b =
    ap (λ (x : List ℕ). first_line (x ++ more)) b.2 ∙ ap first_line (append_assoc b.0 (newline ∷ []) more) ∙ first_of b.0 more b.1 ∙ sym b.2

pub line_after : (l more : List ℕ) → Lined l → after_line (l ++ more) ≡ more
line_after l more b =
    ap (λ (x : List ℕ). after_line (x ++ more)) b.2 ∙ ap after_line (append_assoc b.0 (newline ∷ []) more) ∙ after_of b.0 more b.1

pub line_some : (l : List ℕ) → Lined l → 1 ≤ length l
line_some l b = omega (arith, ap length b.2, length-append b.0 (newline ∷ []))

first_after_by : (c : Bool) (b : ℕ) (t f a : List ℕ) → f ++ a ≡ t → (b ∷ cond c [] f) ++ cond c t a ≡ b ∷ t
first_after_by true b t f a e = refl
first_after_by false b t f a e = ap (λ (l : List ℕ). b ∷ l) e

pub first_after : (t : List ℕ) → first_line t ++ after_line t ≡ t
unfolding first_line after_line
first_after [] = refl
first_after (b ∷ t) = first_after_by (eqb b newline) b t (first_line t) (after_line t) (first_after t)

pub first_none : (t : List ℕ) → first_line t ≡ [] → length t ≡ 0
unfolding first_line
first_none [] e = refl
first_none (b ∷ t) e = absurd (omega (arith, ap length e))

-- ---- Lines joined

pub lines_same : (line other : ℕ → List ℕ) (k : ℕ) → ((i : ℕ) → i < k → line i ≡ other i) → lines_of line k ≡ lines_of other k
unfolding lines_of
lines_same line other zero h = refl
lines_same line other (suc k) h = ap₂ (λ (x y : List ℕ). x ++ y) (lines_same line other k (λ i l. h i (omega arith))) (h k (le_refl (suc k)))

module _ (line : ℕ → List ℕ) where
  -- the first m of k, and more
  split : (m k : ℕ) → m ≤ k → (more : List ℕ) × (lines_of line k ≡ lines_of line m ++ more)
  unfolding lines_of
  split zero zero h = ([], refl)
  split (suc m) zero h = absurd (not-suc-le-zero h)
  split m (suc k) h =
      ⊎_elim (λ (e : m ≡ suc k). ([], ap (lines_of line) (sym e) ∙ sym (append-nil (lines_of line m))))
      (λ (l : m < suc k).
      let s = split m k (le_of_suc-le-suc l) in
      (s.0 ++ line k, ap (λ (x : List ℕ). x ++ line k) s.1 ∙ append_assoc (lines_of line m) s.0 (line k))) (eq-or-lt_of_le h)

  -- the same, with line m written out
  pub with_line : (m k : ℕ) → m < k → (more : List ℕ) × (lines_of line k ≡ lines_of line m ++ (line m ++ more))
  unfolding lines_of
  with_line m k h =
      let s = split (suc m) k h in
      (s.0, s.1 ∙ append_assoc (lines_of line m) (line m) s.0)

  module _ (lined : (i : ℕ) → Lined (line i)) where
    pub after_lines_lem : (k : ℕ) (rest : List ℕ) → after_lines k (lines_of line k ++ rest) ≡ rest
    unfolding lines_of after_lines
    after_lines_lem zero rest = refl
    after_lines_lem (suc k) rest =
        ap (λ (x : List ℕ). after_line (after_lines k x)) (append_assoc (lines_of line k) (line k) rest)
        ∙ ap after_line (after_lines_lem k (line k ++ rest)) ∙ line_after (line k) rest (lined k)

    pub first_lines_lem : (k : ℕ) (rest : List ℕ) → first_lines k (lines_of line k ++ rest) ≡ lines_of line k
    unfolding lines_of first_lines
    first_lines_lem zero rest = refl
    first_lines_lem (suc k) rest =
        let e = append_assoc (lines_of line k) (line k) rest in
        ap₂ (λ (x y : List ℕ). x ++ y) (ap (first_lines k) e ∙ first_lines_lem k (line k ++ rest))
        (ap (λ (x : List ℕ). first_line (after_lines k x)) e ∙ ap first_line (after_lines_lem k (line k ++ rest)) ∙ line_first (line k) rest (lined k))

    -- fewer lines than there are
    pub first_fewer : (m k : ℕ) (rest : List ℕ) → m ≤ k → first_lines m (lines_of line k ++ rest) ≡ lines_of line m
    first_fewer m k rest h =
        let s = split m k h in
        ap (λ (x : List ℕ). first_lines m (x ++ rest)) s.1 ∙ ap (first_lines m) (append_assoc (lines_of line m) s.0 rest) ∙ first_lines_lem m (s.0 ++ rest)

    -- one line more
    pub first_next : (k : ℕ) (rest : List ℕ) → first_lines (suc k) (lines_of line k ++ rest) ≡ lines_of line k ++ first_line rest
    unfolding first_lines
    first_next k rest = ap₂ (λ (x y : List ℕ). x ++ first_line y) (first_lines_lem k rest) (after_lines_lem k rest)

    -- more lines than there are
    pub after_more : (k d : ℕ) → after_lines (k + d) (lines_of line k) ≡ []
    unfolding after_lines after_line
    after_more k zero = rw add-zero (ap (after_lines k) (sym (append-nil (lines_of line k))) ∙ after_lines_lem k [])
    after_more k (suc d) = rw add-suc (ap after_line (after_more k d))

    pub first_more : (k d : ℕ) → first_lines (k + d) (lines_of line k) ≡ lines_of line k
    unfolding first_lines first_line
    first_more k zero = rw add-zero (ap (first_lines k) (sym (append-nil (lines_of line k))) ∙ first_lines_lem k [])
    first_more k (suc d) =
        rw add-suc
        (ap₂ (λ (x y : List ℕ). x ++ first_line y) (first_more k d) (after_more k d) ∙ append-nil (lines_of line k))

    pub nth_line : (i k : ℕ) (rest : List ℕ) → i < k → first_line (after_lines i (lines_of line k ++ rest)) ≡ line i
    nth_line i k rest h =
        let u = with_line i k h in
        ap (λ (x : List ℕ). first_line (after_lines i (x ++ rest))) u.1
        ∙ ap (λ (x : List ℕ). first_line (after_lines i x)) (append_assoc (lines_of line i) (line i ++ u.0) rest)
        ∙ ap first_line (after_lines_lem i ((line i ++ u.0) ++ rest) ∙ append_assoc (line i) u.0 rest)
        ∙ line_first (line i) (u.0 ++ rest) (lined i)

-- ---- Two joins of lines

module _ (line other : ℕ → List ℕ) (lined : (i : ℕ) → Lined (line i)) (others : (i : ℕ) → Lined (other i)) where
  -- as many of each that are equal have equal lines
  pub same_lines : (k : ℕ) → lines_of line k ≡ lines_of other k → (i : ℕ) → i < k → line i ≡ other i
  same_lines k e i h =
      sym (nth_line line lined i k [] h) ∙ ap (λ (x : List ℕ). first_line (after_lines i (x ++ []))) e ∙ nth_line other others i k [] h

  -- none has more lines than one that it equals
  pub no_more_lines : (k m : ℕ) → lines_of line k ≡ lines_of other m → k < m → ⊥
  no_more_lines k m e h =
      let u = with_line other k m h in
      let none : other k ++ u.0 ≡ [] =
      sym (after_lines_lem other others k (other k ++ u.0)) ∙ ap (after_lines k) (sym (e ∙ u.1) ∙ sym (append-nil (lines_of line k))) ∙ after_lines_lem line lined k [] in
      omega (arith, ap length none, length-append (other k) u.0, line_some (other k) (others k))
