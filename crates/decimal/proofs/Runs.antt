-- The digits at a place, read one by one: before the turn i they are v's text and the digits from i on.
-- Assumes nothing.
use mathlib.Core.Path.{◌≡◌, refl, sym, ap, ◌∙◌}
use mathlib.Core.Bool.{Bool, true, false, cond}
use mathlib.Core.Logic.{⊎_elim}
use mathlib.Core.List.{List, [], ◌∷◌, ◌++◌, append_assoc, append-nil}
use Prim.Native.Nat.{ℕ, ◌+◌, ◌-◌, ◌<◌, ◌≤◌, ◌^◌}
use native.Mathlib.Omega.{arith}
use native.Mathlib.Numerals.{add-one}
use borrow.Author.Tests.{le-leb, lt-leb, eqb-true, eq-eqb}
use lib.ListN.{length, take, drop, get_or, length-append, drop_of_length-le}
use lib.Seq.{drop-cons, take-append_seam}
use Rattle.std.specs.Prelude.{Option, Some, None, eqb}
use Rattle.std.proofs.lemmas.Bool.{cases_lt}
use Rattle.std.specs.Bool.{then_some}
use Rattle.std.specs.List.{All}
use Rattle.std.proofs.lemmas.List.Elements.{All-head, All-tail}
use Rattle.decimal.specs.Decimal.{digit, num_text, is_digit, digits_of, NumberIs, FoundIs}
use Rattle.decimal.proofs.Digits.{Digit, num_digits, num_take, num_inj, length_pos}
use Rattle.decimal.proofs.Reading.{one_inv, one_is}

-- ---- One byte

pub is_digit_lem : (b : ℕ) → Digit b → is_digit b ≡ true
unfolding is_digit
is_digit_lem b h = rw (le-leb 48 b h.0, le-leb b 57 h.1)

pub no_digit : (b : ℕ) → (Digit b → ⊥) → is_digit b ≡ false
unfolding is_digit
no_digit b h =
    ⊎_elim (λ (l : b < 48). rw (lt-leb 48 b l))
    (λ (g : 48 ≤ b).
    ⊎_elim (λ (m : 57 < b). rw (le-leb 48 b g, lt-leb b 57 m)) (λ (k : b ≤ 57). absurd (h (g, k))) (cases_lt 57 b)) (cases_lt b 48)

value_digit : (b v : ℕ) → NumberIs (b ∷ []) (Some v) → is_digit b ≡ true
value_digit b v p = let s = one_inv b v p.1 in is_digit_lem b (omega (arith, s), omega (arith, s))

nothing_digit : (b : ℕ) → NumberIs (b ∷ []) None → is_digit b ≡ false
nothing_digit b none = no_digit b (λ h. none (b - 48) (omega arith) (one_is b h.0 h.1))

-- ---- The digits that a text begins with

pub run_all : (x rest : List ℕ) → All Digit x → digits_of (x ++ rest) ≡ x ++ digits_of rest
unfolding digits_of
run_all [] rest h = refl
run_all (b ∷ x) rest h = rw (is_digit_lem b (All-head Digit b x h)) (ap (λ (l : List ℕ). b ∷ l) (run_all x rest (All-tail Digit b x h)))

-- a number's text is all of its digits; and so it is where a byte that is none stands behind it
pub run_num : (n : ℕ) → digits_of (num_text n) ≡ num_text n
unfolding digits_of
run_num n = ap digits_of (sym (append-nil (num_text n))) ∙ run_all (num_text n) [] (num_digits n) ∙ append-nil (num_text n)

pub run_then : (n b : ℕ) (rest : List ℕ) → (Digit b → ⊥) → digits_of (num_text n ++ (b ∷ rest)) ≡ num_text n
unfolding digits_of
run_then n b rest h =
    let none : digits_of (b ∷ rest) ≡ [] = rw (no_digit b h) in
    run_all (num_text n) (b ∷ rest) (num_digits n) ∙ ap (λ (l : List ℕ). num_text n ++ l) none ∙ append-nil (num_text n)

run_more : (t : List ℕ) (i : ℕ) → i < length t → is_digit (get_or t i 0) ≡ true → digits_of (drop i t) ≡ get_or t i 0 ∷ digits_of (drop (i + 1) t)
unfolding digits_of
run_more t i h e = ap digits_of (drop-cons t i 0 h) ∙ rw (e, add-one)

run_stop : (t : List ℕ) (i : ℕ) → i < length t → is_digit (get_or t i 0) ≡ false → digits_of (drop i t) ≡ []
unfolding digits_of
run_stop t i h e = ap digits_of (drop-cons t i 0 h) ∙ rw e

run_end : (t : List ℕ) (i : ℕ) → length t ≤ i → digits_of (drop i t) ≡ []
unfolding digits_of
run_end t i h = ap digits_of (drop_of_length-le t {i = i} h)

-- they and what stands behind them are the text
run_split_by : (c : Bool) (b : ℕ) (t d : List ℕ) → d ++ drop (length d) t ≡ t → cond c (b ∷ d) [] ++ drop (length (cond c (b ∷ d) [])) (b ∷ t) ≡ b ∷ t
run_split_by true b t d e = ap (λ (l : List ℕ). b ∷ l) e
run_split_by false b t d e = refl

pub run_split : (t : List ℕ) → digits_of t ++ drop (length (digits_of t)) t ≡ t
unfolding digits_of
run_split [] = refl
run_split (b ∷ t) = run_split_by (is_digit b) b t (digits_of t) (run_split t)

run_whole : (t : List ℕ) → length t ≤ length (digits_of t) → digits_of t ≡ t
run_whole t h =
    sym (append-nil (digits_of t)) ∙ ap (λ (l : List ℕ). digits_of t ++ l) (sym (drop_of_length-le t {i = length (digits_of t)} h)) ∙ run_split t

-- ---- The turns

module _ (t : List ℕ) (at : ℕ) where
  abbrev found : List ℕ
  found = digits_of (drop at t)

  pub record Begun (v i : ℕ) : Type 0 where
    pub fits : v < 2 ^ 64
    pub place : i ≡ at + length (num_text v)
    pub within : i ≤ length t
    pub text : digits_of (drop at t) ≡ num_text v ++ digits_of (drop i t)

  pub none_beyond : length t ≤ at → FoundIs t at None
  none_beyond h n lt e = omega (arith, ap length (sym (run_end t at h) ∙ e), length_pos n)

  pub none_there : at < length t → NumberIs (get_or t at 0 ∷ []) None → FoundIs t at None
  none_there h none n lt e = omega (arith, ap length (sym (run_stop t at h (nothing_digit _ none)) ∙ e), length_pos n)

  pub begins : (v : ℕ) → at < length t → NumberIs (get_or t at 0 ∷ []) (Some v) → Begun v (at + 1)
  begins v h p = record {
    fits = p.0;
    place = ap (λ (l : List ℕ). at + length l) p.1;
    within = omega arith;
    text = run_more t at h (value_digit _ v p) ∙ ap (λ (l : List ℕ). l ++ digits_of (drop (at + 1) t)) p.1;
  }

  module _ (v i : ℕ) (b : Begun v i) where
    abbrev byte : ℕ
    byte = get_or t i 0

    -- a digit more
    longer : (d : ℕ) → i < length t → NumberIs (get_or t i 0 ∷ []) (Some d) → digits_of (drop at t) ≡ (num_text v ++ (digit d ∷ [])) ++ digits_of (drop (i + 1) t)
    longer d h p =
        let is : get_or t i 0 ≡ digit d = (one_inv _ d p.1).0 in
        b.text ∙ ap (λ (l : List ℕ). num_text v ++ l) (run_more t i h (value_digit _ d p))
        ∙ sym (append_assoc (num_text v) (get_or t i 0 ∷ []) (digits_of (drop (i + 1) t)))
        ∙ ap (λ (k : ℕ). (num_text v ++ (k ∷ [])) ++ digits_of (drop (i + 1) t)) is

    pub goes_on : (d w : ℕ) → i < length t → NumberIs (get_or t i 0 ∷ []) (Some d) → NumberIs (num_text v ++ (digit d ∷ [])) (Some w) → Begun w (i + 1)
    goes_on d w h p q = record {
      fits = q.0;
      place = omega (arith, b.place, ap length q.1, length-append (num_text v) (digit d ∷ []));
      within = omega arith;
      text = longer d h p ∙ ap (λ (l : List ℕ). l ++ digits_of (drop (i + 1) t)) q.1;
    }

    pub goes_wrong : (d : ℕ) → i < length t → NumberIs (get_or t i 0 ∷ []) (Some d) → NumberIs (num_text v ++ (digit d ∷ [])) None → FoundIs t at None
    goes_wrong d h p none n lt e =
        let x : List ℕ = num_text v ++ (digit d ∷ []) in
        let more : List ℕ = digits_of (drop (i + 1) t) in
        let is : num_text n ≡ x ++ more = sym e ∙ longer d h p in
        let some : 1 ≤ length x = omega (arith, length-append (num_text v) (digit d ∷ [])) in
        let r = num_take n (length x) some (omega (arith, ap length is, length-append x more)) in
        none r.0 (omega (arith, r.1)) (sym (take-append_seam x more) ∙ ap (take (length x)) (sym is) ∙ r.2)

    ended : digits_of (drop i t) ≡ [] → FoundIs t at (Some (v, i))
    ended e =
        let is : digits_of (drop at t) ≡ num_text v = b.text ∙ ap (λ (l : List ℕ). num_text v ++ l) e ∙ append-nil (num_text v) in
        ((b.fits, is), b.place ∙ ap (λ (l : List ℕ). at + length l) (sym is))

    pub stops : i < length t → NumberIs (get_or t i 0 ∷ []) None → FoundIs t at (Some (v, i))
    stops h none = ended (run_stop t i h (nothing_digit _ none))

    pub ends : length t ≤ i → FoundIs t at (Some (v, i))
    ends h = ended (run_end t i h)

-- ---- A word

-- it is a number where they are all of it
pub word_is : (d : List ℕ) (v end : ℕ) → FoundIs d 0 (Some (v, end)) → NumberIs d (then_some (eqb end (length d)) v)
word_is d v end p = by (eqb end (length d)) refl
  where
    by : (whole : Bool) → eqb end (length d) ≡ whole → NumberIs d (then_some whole v)
    by true e = (p.0.0, sym (run_whole d (omega (arith, p.1, eqb-true end (length d) e))) ∙ p.0.1)
    by false e = λ n lt is.
        let all : digits_of d ≡ d = ap digits_of is ∙ run_num n ∙ sym is in
        let whole : eqb end (length d) ≡ true = eq-eqb end (length d) (omega (arith, p.1, ap length all)) in
        cc

pub word_none : (d : List ℕ) → FoundIs d 0 None → NumberIs d None
word_none d none n lt e = none n lt (ap digits_of e ∙ run_num n)

-- ---- One way

pub found_unique : (t : List ℕ) (at : ℕ) (a b : Option (ℕ × ℕ)) → FoundIs t at a → FoundIs t at b → a ≡ b
found_unique t at (Some (m, end)) (Some (n, end')) p q = λ i. Some (num_inj m n (sym p.0.1 ∙ q.0.1) i, (p.1 ∙ sym q.1) i)
found_unique t at (Some (m, end)) None p q = absurd (q m p.0.0 p.0.1)
found_unique t at None (Some (n, end')) p q = absurd (p n q.0.0 q.0.1)
found_unique t at None None p q = refl
