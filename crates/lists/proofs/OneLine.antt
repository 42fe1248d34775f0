-- A line of four numbers: it ends with its only newline, begins a text in one way, and how long it is.
-- Assumes nothing.
use mathlib.Core.Path.{◌≡◌, sym, ap, ◌∙◌}
use mathlib.Core.List.{List, [], ◌∷◌, ◌++◌, append_assoc, append_cancel_left, tail-eq_of_cons-eq}
use Prim.Native.Nat.{ℕ, ◌+◌, ◌<◌}
use native.Mathlib.Omega.{arith}
use lib.ListN.{length, length-append}
use Rattle.std.specs.List.{All}
use Rattle.std.proofs.lemmas.List.Elements.{All-cons, All-append, All-weaker}
use Rattle.decimal.specs.Decimal.{num_text, digits_of}
use Rattle.decimal.proofs.Digits.{Digit, num_digits, num_inj}
use Rattle.decimal.proofs.Runs.{run_then}
use Rattle.fields.specs.Fields.{tab, newline}
use Rattle.lists.specs.Lists.{line_of, line_text}
use Rattle.lists.specs.Pieces.{front_text, rest_text}
use Rattle.lists.proofs.Lines.{NoNewline, Lined}

-- a line and what stands behind it, field by field
abbrev pub from_body : ℕ → List ℕ → List ℕ
from_body n rest = num_text n ++ (newline ∷ rest)

abbrev pub from_index : ℕ → ℕ → List ℕ → List ℕ
from_index i n rest = num_text i ++ (tab ∷ from_body n rest)

abbrev pub from_revision : ℕ → ℕ → ℕ → List ℕ → List ℕ
from_revision r i n rest = num_text r ++ (tab ∷ from_index i n rest)

pub line_fields : (j r i n : ℕ) (rest : List ℕ) → line_text j r i n ++ rest ≡ num_text j ++ (tab ∷ from_revision r i n rest)
unfolding line_text line_of
line_fields j r i n rest = simp append_assoc

-- front and rest
pub front_rest : (j r i n : ℕ) → front_text j r ++ rest_text i n ≡ line_text j r i n
unfolding line_text line_of front_text rest_text
front_rest j r i n = simp append_assoc

pub front_length : (j r : ℕ) → length (front_text j r) ≡ length (num_text j) + length (num_text r) + 2
unfolding front_text
front_length j r = omega (arith, length-append (num_text j) (tab ∷ (num_text r ++ (tab ∷ []))), length-append (num_text r) (tab ∷ []))

pub rest_fields : (i n : ℕ) (rest : List ℕ) → rest_text i n ++ rest ≡ from_index i n rest
unfolding rest_text line_of
rest_fields i n rest = simp append_assoc

-- a number and a byte that is no digit behind it
pub num_then : (stop m n : ℕ) (a b : List ℕ) → stop < 48 → num_text m ++ (stop ∷ a) ≡ num_text n ++ (stop ∷ b) → (m ≡ n) × (a ≡ b)
num_then stop m n a b h e =
    let no : Digit stop → ⊥ = λ d. omega (arith, d.0) in
    let same : m ≡ n = num_inj m n (sym (run_then m stop a no) ∙ ap digits_of e ∙ run_then n stop b no) in
    let rest : stop ∷ a ≡ stop ∷ b = append_cancel_left (num_text n) (stop ∷ a) (stop ∷ b) (ap (λ (k : ℕ). num_text k ++ (stop ∷ a)) (sym same) ∙ e) in
    (same, tail-eq_of_cons-eq rest)

-- a text begins with one line in one way
pub line_once : (j r i n j' r' i' n' : ℕ) (a b : List ℕ) → line_text j r i n ++ a ≡ line_text j' r' i' n' ++ b → (j ≡ j') × (r ≡ r') × (i ≡ i') × (n ≡ n')
line_once j r i n j' r' i' n' a b e =
    let p = num_then tab j j' _ _ (omega arith) (sym (line_fields j r i n a) ∙ e ∙ line_fields j' r' i' n' b) in
    let q = num_then tab r r' _ _ (omega arith) p.1 in
    let s = num_then tab i i' _ _ (omega arith) q.1 in
    let u = num_then newline n n' a b (omega arith) s.1 in
    (p.0, q.0, s.0, u.0)

digits_plain : (n : ℕ) → All NoNewline (num_text n)
digits_plain n = All-weaker Digit NoNewline (λ b h e. omega arith) (num_text n) (num_digits n)

pub line_lined : (j r i n : ℕ) → Lined (line_text j r i n)
unfolding line_text line_of
line_lined j r i n =
    let then = λ (n : ℕ) (l : List ℕ) (h : All NoNewline l). All-append NoNewline (num_text n) (tab ∷ l) (digits_plain n) (All-cons NoNewline tab l (λ e. omega arith) h) in (
      num_text j ++ (tab ∷ (num_text r ++ (tab ∷ (num_text i ++ (tab ∷ num_text n))))),
      then j _ (then r _ (then i _ (digits_plain n))),
      simp append_assoc,
    )

pub line_length : (j r i n : ℕ) → length (line_text j r i n) ≡ length (num_text j) + length (num_text r) + length (num_text i) + length (num_text n) + 4
unfolding line_text line_of
line_length j r i n =
    omega (
      arith,
      length-append (num_text j) (tab ∷ (num_text r ++ (tab ∷ (num_text i ++ (tab ∷ (num_text n ++ (newline ∷ []))))))),
      length-append (num_text r) (tab ∷ (num_text i ++ (tab ∷ (num_text n ++ (newline ∷ []))))),
      length-append (num_text i) (tab ∷ (num_text n ++ (newline ∷ []))),
      length-append (num_text n) (newline ∷ []),
    )
