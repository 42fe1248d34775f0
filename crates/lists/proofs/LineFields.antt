-- A reader of fields on a line of a list: four fields, which are the texts of its numbers, and then what stands behind the line.
-- Assumes nothing.
use mathlib.Core.Path.{◌≡◌, refl, ap, ap₂, ◌∙◌}
use mathlib.Core.Bool.{true, false}
use mathlib.Core.List.{List, [], ◌∷◌, ◌++◌}
use Prim.Native.Nat.{ℕ, ◌+◌}
use native.Mathlib.Omega.{arith}
use borrow.Author.Tests.{ne_eqb}
use lib.ListN.{length, drop}
use lib.Seq.{drop-append-add}
use Rattle.std.specs.List.{All}
use Rattle.std.proofs.lemmas.List.Elements.{All-head, All-tail}
use Rattle.decimal.specs.Decimal.{num_text}
use Rattle.decimal.proofs.Digits.{Digit, num_digits}
use Rattle.fields.specs.Fields.{tab, newline, ends, field_of}
use Rattle.fields.proofs.Fields.{field_text, field_rest}
use Rattle.lists.specs.Promises.{bytes_at, next_at, GivesFields}
use Rattle.lists.proofs.OneLine.{from_body, from_index, from_revision, line_fields}

no_end : (b : ℕ) → Digit b → ends b ≡ false
no_end b h = rw (ne_eqb b tab (λ e. omega (arith, h.0)), ne_eqb b newline (λ e. omega (arith, h.0)))

-- digits, and a byte that ends a field
digits_field : (x : List ℕ) (stop : ℕ) (rest : List ℕ) → All Digit x → ends stop ≡ true → field_of (x ++ (stop ∷ rest)) ≡ x
unfolding field_of
digits_field [] stop rest h e = rw e
digits_field (b ∷ x) stop rest h e = rw (no_end b (All-head Digit b x h)) (ap (λ (l : List ℕ). b ∷ l) (digits_field x stop rest (All-tail Digit b x h) e))

-- a number at a place: the field there is its text, and the next place is behind the byte that ended it
number_field : (t : List ℕ) (at n stop : ℕ) (rest : List ℕ) → ends stop ≡ true → drop at t ≡ num_text n ++ (stop ∷ rest)
    → (bytes_at t at ≡ num_text n) × (drop (next_at t at) t ≡ rest)
number_field t at n stop rest s e =
    let f : field_of (drop at t) ≡ num_text n = ap field_of e ∙ digits_field (num_text n) stop rest (num_digits n) s in (
      field_text t at ∙ f,
      field_rest t at ∙ ap₂ (λ (x y : List ℕ). drop (length x + 1) y) f e ∙ drop-append-add (num_text n) (stop ∷ rest) 1,
    )

pub line_read : GivesFields
line_read t at j r i n rest line =
    let a = number_field t at j tab (from_revision r i n rest) refl (line ∙ line_fields j r i n rest) in
    let b = number_field t (next_at t at) r tab (from_index i n rest) refl a.1 in
    let c = number_field t (next_at t (next_at t at)) i tab (from_body n rest) refl b.1 in
    let d = number_field t (next_at t (next_at t (next_at t at))) n newline rest refl c.1 in
    record { first = a.0; second = b.0; third = c.0; fourth = d.0; behind = d.1 }
