-- The words that spell bytes: which form a word is in, and that it spells no other bytes.
-- Assumes nothing.
use mathlib.Core.Path.{◌≡◌, refl, sym, ap, ap₂, subst, ◌∙◌}
use mathlib.Core.Logic.{inl, inr, ⊎_elim}
use mathlib.Core.List.{List, [], ◌∷◌, ◌++◌}
use Prim.Native.Nat.{ℕ, zero, suc, ◌*◌, ◌<◌, ◌≤◌}
use native.Mathlib.Omega.{arith}
use lib.ListN.{length, get_or, take, drop, replicate, length-replicate}
use Rattle.std.specs.Prelude.{Option, Some, None}
use Rattle.norx.specs.Texts.{Bytes}
use Rattle.decimal.specs.Decimal.{num_text}
use Rattle.decimal.proofs.Digits.{length_pos, num_inj}
use Rattle.spelled.specs.Spelled.{hex_text, AsPairs, AsTimes, Spells, ReadIs, IsDigit, AllDigits, Starred}
use Rattle.spelled.proofs.Hex.{no_digit, length_hex, hex_inj, hex_digits}

-- ---- Pairs

pub pairs_length : (w l : List ℕ) → AsPairs w l → length w ≡ 2 * length l
pairs_length w l p = ap length p.2 ∙ length_hex l

pub pairs_digits : (w l : List ℕ) → AsPairs w l → AllDigits w
pairs_digits w l p = subst AllDigits (sym p.2) (hex_digits l p.0)

-- ---- So many times

pub first_two : (w : List ℕ) → 2 ≤ length w → AllDigits (take 2 w) → IsDigit (get_or w 0 0) × IsDigit (get_or w 1 0)
first_two [] h all = absurd (omega arith)
first_two (a ∷ []) h all = absurd (omega arith)
first_two (a ∷ b ∷ w) h all = (all 0 (omega arith), all 1 (omega arith))

one_byte : (b : ℕ) → b < 256 → Bytes (b ∷ [])
one_byte b h zero = h
one_byte b h (suc i) = omega arith

-- what stands in `a5*300`
pub times_starred : (w l : List ℕ) → AsTimes w l → Starred w
unfolding hex_text
times_starred w l (b, n, hb, hn, e, el) = (omega (arith, ap length e, length_pos n), ap (λ (x : List ℕ). get_or x 2 0) e)

pub times_digits : (w l : List ℕ) → AsTimes w l → AllDigits (take 2 w)
unfolding hex_text
times_digits w l (b, n, hb, hn, e, el) = subst AllDigits (sym (ap (take 2) e)) (hex_digits (b ∷ []) (one_byte b hb))

pub times_number : (w l : List ℕ) → AsTimes w l → drop 3 w ≡ num_text (length l)
unfolding hex_text
times_number w l (b, n, hb, hn, e, el) = ap (drop 3) e ∙ ap num_text (sym (length-replicate n b) ∙ ap length (sym el))

pub times_some : (w l : List ℕ) → AsTimes w l → 1 ≤ length l
times_some w l (b, n, hb, hn, e, el) = omega (arith, ap length el, length-replicate n b)

-- ---- One form for each word

no_pairs : (w l : List ℕ) → Starred w → AsPairs w l → ⊥
no_pairs w l h p = no_digit 42 (inl (omega arith)) (subst IsDigit h.1 (pairs_digits w l p 2 (omega (arith, h.0))))

pub starred_times : (w : List ℕ) → Starred w → (l : List ℕ) → Spells w l → AsTimes w l
starred_times w h l = ⊎_elim (λ n. absurd (omega (arith, ap length n.0, h.0))) (⊎_elim (λ p. absurd (no_pairs w l h p)) (λ t. t))

pub other_pairs : (w : List ℕ) → (w ≡ 45 ∷ [] → ⊥) → (Starred w → ⊥) → (l : List ℕ) → Spells w l → AsPairs w l
other_pairs w none star l = ⊎_elim (λ n. absurd (none n.0)) (⊎_elim (λ p. p) (λ t. absurd (star (times_starred w l t))))

-- a word spells one list of bytes at most
times_unique : (w x y : List ℕ) → AsTimes w x → AsTimes w y → x ≡ y
unfolding hex_text
times_unique w x y (a, m, ha, hm, e, ex) (b, n, hb, hn, f, fy) =
    let k : m ≡ n = num_inj m n (ap (drop 3) (sym e ∙ f)) in
    let p : hex_text (a ∷ []) ≡ hex_text (b ∷ []) = ap (take 2) (sym e ∙ f) in
    ex ∙ ap₂ (λ (i c : ℕ). replicate i c) k (ap (λ (t : List ℕ). get_or t 0 0) (hex_inj (a ∷ []) (b ∷ []) p)) ∙ sym fy

pub spells_unique : (w x y : List ℕ) → Spells w x → Spells w y → x ≡ y
spells_unique w x y (inl p) (inl q) = p.1 ∙ sym q.1
spells_unique w x y (inl p) (inr (inl q)) = absurd (omega (arith, ap length p.0, pairs_length w y q))
spells_unique w x y (inl p) (inr (inr q)) = absurd (omega (arith, ap length p.0, (times_starred w y q).0))
spells_unique w x y (inr (inl p)) (inl q) = absurd (omega (arith, ap length q.0, pairs_length w x p))
spells_unique w x y (inr (inl p)) (inr (inl q)) = hex_inj x y (sym p.2 ∙ q.2)
spells_unique w x y (inr (inl p)) (inr (inr q)) = absurd (no_pairs w x (times_starred w y q) p)
spells_unique w x y (inr (inr p)) (inl q) = absurd (omega (arith, ap length q.0, (times_starred w x p).0))
spells_unique w x y (inr (inr p)) (inr (inl q)) = absurd (no_pairs w y (times_starred w x p) q)
spells_unique w x y (inr (inr p)) (inr (inr q)) = times_unique w x y p q

-- ---- What reading gives

pub read_as : (S T : List ℕ → Type 0) (o a : List ℕ) (r : Option ℕ) → ((l : List ℕ) → S l → T l) → ((l : List ℕ) → T l → S l) → ReadIs S o a r → ReadIs T o a r
read_as S T o a (Some n) to from (l, s, k, room, e) = (l, to l s, k, room, e)
read_as S T o a None to from (none, same) = ((λ l t. none l (from l t)), same)

pub read_unique : (w o a b : List ℕ) (r s : Option ℕ) → ReadIs (Spells w) o a r → ReadIs (Spells w) o b s → (r ≡ s) × (a ≡ b)
read_unique w o a b (Some m) (Some n) (x, p, hm, rm, ea) (y, q, hn, rn, eb) =
    let e : x ≡ y = spells_unique w x y p q in
    let k : m ≡ n = omega (arith, ap length e) in
    (ap Some k, ea ∙ ap₂ (λ (l : List ℕ) (i : ℕ). l ++ drop i o) e k ∙ sym eb)
read_unique w o a b (Some m) None (x, p, hm, rm, ea) (none, same) = absurd (none x p (omega arith))
read_unique w o a b None (Some n) (none, same) (y, q, hn, rn, eb) = absurd (none y q (omega arith))
read_unique w o a b None None (none, same) (none2, same2) = (refl, same ∙ sym same2)
