-- Fields, byte by byte; that the bytes between a field's ends are the field's, and what the text has from the next place on.
-- Assumes nothing.
use mathlib.Core.Path.{◌≡◌, refl, sym, ap, ap₂, ◌∙◌}
use mathlib.Core.Bool.{Bool, true, false, cond}
use mathlib.Core.Logic.{⊎_elim}
use mathlib.Core.List.{List, [], ◌∷◌}
use Prim.Native.Nat.{ℕ, ◌+◌, ◌-◌, ◌<◌, ◌≤◌, min}
use native.Mathlib.Omega.{arith}
use native.Mathlib.Decide.{dec_lt}
use native.Mathlib.Nat.{le_refl, eq-or-lt_of_le}
use borrow.Author.Tests.{lt-ltb, le-ltb, ltb-false}
use lib.Dec.{ltb}
use lib.ListN.{length, length-drop, take, drop, drop_of_length-le}
use lib.Seq.{take_all, drop-drop}
use Rattle.std.specs.Prelude.{Some, None, not, position}
use Rattle.std.specs.List.{position_or_len}
use Rattle.std.proofs.lemmas.Bool.{cases_lt}
use Rattle.std.proofs.lemmas.List.Recursion.{is_position_or_len}
use Rattle.std.proofs.lemmas.List.Sums.{prefix_len-le-length}
use Rattle.std.proofs.lemmas.List.Quantifiers.{position-Some}
use Rattle.fields.specs.declared.Field.{Field}
use Rattle.fields.specs.Fields.{ends, field_of, within, field_end, field_at}

-- ---- How long a field is

-- as many bytes as stand before the first that ends it
field_long : (t : List ℕ) → length (field_of t) ≡ position_or_len ends t
unfolding field_of
field_long = is_position_or_len (λ t. length (field_of t)) ends refl (λ b t. by (ends b) b (field_of t))
  where
    by : (c : Bool) (b : ℕ) (f : List ℕ) → length (cond c [] (b ∷ f)) ≡ cond c 0 (1 + length f)
    by true b f = refl
    by false b f = omega arith

place_of : (c : Bool) (k n : ℕ) → Some n ≡ cond c (Some k) None → k ≡ n
place_of true k n e = cc
place_of false k n e = cc

no_place : (c : Bool) (k : ℕ) → None ≡ cond c (Some k) None → c ≡ false
no_place true k e = cc
no_place false k e = refl

ended : (t : List ℕ) (n : ℕ) → Some n ≡ position ends t → (length (field_of t) ≡ n) × (n < length t)
ended t n e = (field_long t ∙ place_of (ltb (position_or_len ends t) (length t)) (position_or_len ends t) n e, (position-Some ends t n 0 (sym e)).0)

unended : (t : List ℕ) → None ≡ position ends t → length (field_of t) ≡ length t
unended t e =
    let all : length t ≤ position_or_len ends t = ltb-false _ _ (no_place (ltb (position_or_len ends t) (length t)) (position_or_len ends t) e) in
    omega (arith, field_long t, prefix_len-le-length (λ b. not (ends b)) t)

-- ---- Places within a text

pub within_lt : (t : List ℕ) (at : ℕ) → at < length t → within t at ≡ at
within_lt t at h = rw (lt-ltb at (length t) h)

pub within_ge : (t : List ℕ) (at : ℕ) → length t ≤ at → within t at ≡ length t
within_ge t at h = rw (le-ltb at (length t) h)

pub within_le : (t : List ℕ) (n : ℕ) → n ≤ length t → within t n ≡ n
within_le t n h = ⊎_elim (λ e. within_ge t n (omega arith) ∙ sym e) (λ l. within_lt t n l) (eq-or-lt_of_le h)

pub within_min : (t : List ℕ) (at : ℕ) → min at (length t) ≡ within t at
within_min t at = ⊎_elim (λ (l : at < length t). omega (arith, within_lt t at l)) (λ (g : length t ≤ at). omega (arith, within_ge t at g)) (cases_lt at (length t))

drop_within : (t : List ℕ) (at : ℕ) → drop (within t at) t ≡ drop at t
drop_within t at = of (dec_lt at (length t))
  where
    of : Dec (at < length t) → drop (within t at) t ≡ drop at t
    of (yes l) = ap (λ (n : ℕ). drop n t) (within_lt t at l)
    of (no h) =
        let g : length t ≤ at = omega arith in
        ap (λ (n : ℕ). drop n t) (within_ge t at g) ∙ drop_of_length-le t {i = length t} (le_refl (length t)) ∙ sym (drop_of_length-le t {i = at} g)

-- ---- The field that the code puts together

module _ (t : List ℕ) (at from : ℕ) (place : from ≡ within t at) where
  -- what the code looks through, as it cuts it out
  left : take (length t - from) (drop from t) ≡ drop at t
  left = take_all (length t - from) (drop from t) (omega (arith, length-drop from t)) ∙ ap (λ (k : ℕ). drop k t) place ∙ drop_within t at

  -- how much that is
  long : length (drop at t) ≡ length t - within t at
  long = ap length (sym (drop_within t at)) ∙ length-drop (within t at) t

  pub field_ended : (n : ℕ) → Some n ≡ position ends (take (length t - from) (drop from t)) → ◌≡◌ {A = Field} (record { from = from; to = from + n; next = from + n + 1 }) (field_at t at)
  unfolding field_at
  field_ended n e =
      let p = ended (drop at t) n (e ∙ ap (position ends) left) in
      let to : from + n ≡ field_end t at = omega (arith, p.0, place) in
      let next : from + n + 1 ≡ within t (field_end t at + 1) =
      ap (λ (k : ℕ). k + 1) to ∙ sym (within_le t (field_end t at + 1) (omega (arith, to, place, p.1, long))) in
      λ i. record { from = place i; to = to i; next = next i }

  pub field_unended : None ≡ position ends (take (length t - from) (drop from t)) → ◌≡◌ {A = Field} (record { from = from; to = length t; next = length t }) (field_at t at)
  unfolding field_at
  field_unended e =
      let p = unended (drop at t) (e ∙ ap (position ends) left) in
      let to : length t ≡ field_end t at = omega (arith, p, long, within_min t at) in
      let next : length t ≡ within t (field_end t at + 1) = sym (within_ge t (field_end t at + 1) (omega (arith, to))) in
      λ i. record { from = place i; to = to i; next = next i }

-- ---- The bytes that a field names

take_by : (c : Bool) (b : ℕ) (t f : List ℕ) → take (length f) t ≡ f → take (length (cond c [] (b ∷ f))) (b ∷ t) ≡ cond c [] (b ∷ f)
take_by true b t f e = refl
take_by false b t f e = ap (λ (l : List ℕ). b ∷ l) e

field_take : (t : List ℕ) → take (length (field_of t)) t ≡ field_of t
unfolding field_of
field_take [] = refl
field_take (b ∷ t) = take_by (ends b) b t (field_of t) (field_take t)

-- the bytes between from and to are those of the text at the place, up to the next tab, newline or end
pub field_text : (t : List ℕ) (at : ℕ) → take ((field_at t at).to - (field_at t at).from) (drop (field_at t at).from t) ≡ field_of (drop at t)
unfolding field_at
field_text t at =
    let d : field_end t at - within t at ≡ length (field_of (drop at t)) = omega arith in
    ap₂ (λ (n : ℕ) (l : List ℕ). take n l) d (drop_within t at) ∙ field_take (drop at t)

-- from the next place on, the text has what stands behind the field and the byte that ended it
pub field_rest : (t : List ℕ) (at : ℕ) → drop (field_at t at).next t ≡ drop (length (field_of (drop at t)) + 1) (drop at t)
unfolding field_at
field_rest t at =
    let k : ℕ = length (field_of (drop at t)) + 1 in
    let e : field_end t at + 1 ≡ within t at + k = omega arith in
    drop_within t (field_end t at + 1) ∙ ap (λ (n : ℕ). drop n t) e ∙ sym (drop-drop k (within t at) t) ∙ ap (drop k) (drop_within t at)
