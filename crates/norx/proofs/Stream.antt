-- A part byte by byte: pieces may be cut anywhere, what lies within a block is one xor, and the whole with its end is the part by blocks.
-- Assumes nothing.
use mathlib.Core.Path.{◌≡◌, refl, sym, ap, ap₂, ◌∙◌}
use mathlib.Core.Bool.{Bool, cond}
use mathlib.Core.Logic.{⊎_elim}
use mathlib.Core.List.{List, [], ◌∷◌, ◌++◌}
use Prim.Native.Nat.{ℕ, zero, suc, ◌+◌, ◌*◌, ◌/◌, ◌%◌, ◌<◌, ◌≤◌}
use native.Mathlib.Nat.{not-suc-le-zero, add-zero, zero-mul, suc-mul, suc-add, add-suc, div-add-mod', mod-eq-sub-div-mul, mul-mod_left, eq-zero-or-pos}
use native.Mathlib.Omega.{arith}
use borrow.Author.Tests.{eq-eqb, ne_eqb}
use lib.Arith.{digits_mod}
use lib.ListN.{length, take, drop, length-drop, take-append-drop}
use lib.Seq.{take-add, length-take-le}
use Rattle.norx.specs.Norx.{Width, rate, run, State, xor_block, entered, padded, after_blocks, after_part}
use Rattle.norx.specs.Stream.{placed, entered_at, fed, ended}
use Rattle.norx.proofs.Bytes.{Bytes, zeros, bytes_drop, bytes_take, bytes_run, bytes_padded, bytes_zeros}
use Rattle.norx.proofs.Slices.{empty, blocks_le}
use Rattle.norx.proofs.Overlay.{block_twice, bytes_placed, placed_more, padded_split}
use Rattle.norx.proofs.Rate.{length_run}
use Rattle.norx.specs.Blocks.{fulls, left}
use Rattle.norx.proofs.Blocks.{rate_pos, left_short, after_suc, part_none, part_last}

pub mod_suc : (i R : ℕ) → suc (i % R) < R → suc i % R ≡ suc (i % R)
mod_suc i R h =
    let e : suc i ≡ i / R * R + suc (i % R) = omega (arith, div-add-mod' i R) in
    ap (λ (k : ℕ). k % R) e ∙ digits_mod (i / R) h

module _ (w : Width) (l m : ℕ) where
  pub entered_start : (s : State) (i : ℕ) → i % rate w ≡ 0 → entered_at w l m s i ≡ entered w l m s
  unfolding entered_at
  entered_start s i h = ap (λ (b : Bool). cond b (entered w l m s) s) (eq-eqb (i % rate w) 0 h)

  pub entered_within : (s : State) (i : ℕ) → (i % rate w ≡ 0 → ⊥) → entered_at w l m s i ≡ s
  unfolding entered_at
  entered_within s i h = ap (λ (b : Bool). cond b (entered w l m s) s) (ne_eqb (i % rate w) 0 h)

  -- pieces may be cut anywhere
  pub fed-append : (a b : List ℕ) (s : State) (i : ℕ) → fed w l m s i (a ++ b) ≡ fed w l m (fed w l m s i a) (i + length a) b
  unfolding fed
  fed-append [] b s i = rw add-zero
  fed-append (x ∷ a) b s i = fed-append a b _ (suc i) ∙ rw (suc-add, add-suc)

  -- what stays within a block is one xor of the bytes at their place
  pub fed_within : (d : List ℕ) (b : ℕ) (s : State) (i : ℕ) → i % rate w + suc (length d) ≤ rate w → Bytes (b ∷ d)
      → fed w l m s i (b ∷ d) ≡ xor_block w (entered_at w l m s i) (placed (i % rate w) (b ∷ d))
  unfolding fed
  fed_within [] b s i h hb = refl
  fed_within (c ∷ d) b s i h hb =
      let t : State = xor_block w (entered_at w l m s i) (placed (i % rate w) (b ∷ [])) in
      let e : suc i % rate w ≡ suc (i % rate w) = mod_suc i (rate w) (omega arith) in
      let z : suc i % rate w ≡ 0 → ⊥ = λ q. omega arith in
      fed_within d c t (suc i) (omega arith) (λ j. hb (suc j))
      ∙ ap₂ (λ (u : State) (k : ℕ). xor_block w u (placed k (c ∷ d))) (entered_within t (suc i) z) e
      ∙ block_twice w (entered_at w l m s i) (placed (i % rate w) (b ∷ [])) (placed (suc (i % rate w)) (c ∷ d))
      (bytes_placed (i % rate w) (b ∷ []) (bytes_take 1 (b ∷ c ∷ d) hb)) (bytes_placed (suc (i % rate w)) (c ∷ d) (λ j. hb (suc j)))
      ∙ ap (xor_block w (entered_at w l m s i)) (placed_more (i % rate w) b (c ∷ d))

  pub fed_some : (d : List ℕ) (s : State) (i : ℕ) → 0 < length d → i % rate w + length d ≤ rate w → Bytes d
      → fed w l m s i d ≡ xor_block w (entered_at w l m s i) (placed (i % rate w) d)
  fed_some [] s i p h hb = absurd (not-suc-le-zero p)
  fed_some (b ∷ d) s i p h hb = fed_within d b s i h hb

  pub ended_some : (s : State) (n : ℕ) → 0 < n → ended w l m s n ≡ xor_block w (entered_at w l m s n) (padded (rate w) (zeros (n % rate w)))
  unfolding ended
  ended_some s zero h = absurd (not-suc-le-zero h)
  ended_some s (suc n) h = refl

  module _ (s : State) (d : List ℕ) (bytes : Bytes d) where
    -- the full blocks
    pub fed_fulls : (q : ℕ) → q * rate w ≤ length d → fed w l m s 0 (take (q * rate w) d) ≡ after_blocks w l m s d q
    unfolding fed after_blocks
    fed_fulls zero h = rw zero-mul
    fed_fulls (suc q) h =
        let R : ℕ = rate w in
        let pos : 0 < R = rate_pos w in
        let le : q * R + R ≤ length d = rw (suc-mul q (rate w)) at h in
        let len : length (take (q * R) d) ≡ q * R = length-take-le (q * R) d (omega arith) in
        let one : length (run R q d) ≡ R = length_run R q d h in
        let at : 0 + length (take (q * R) d) ≡ q * R = omega arith in
        let whole : q * R % R ≡ 0 = mul-mod_left q R in
        ap (λ (k : ℕ). fed w l m s 0 (take k d)) (suc-mul q R)
        ∙ ap (fed w l m s 0) (take-add (q * R) R d)
        ∙ fed-append (take (q * R) d) (run R q d) s 0
        ∙ ap₂ (λ (t : State) (k : ℕ). fed w l m t k (run R q d)) (fed_fulls q (omega arith)) at
        ∙ fed_some (run R q d) (after_blocks w l m s d q) (q * R) (omega arith) (omega arith) (bytes_run R q d bytes)
        ∙ ap₂ (λ (t : State) (k : ℕ). xor_block w t (placed k (run R q d))) (entered_start (after_blocks w l m s d q) (q * R) whole) whole
        ∙ after_suc w l m s d q h

    abbrev full : State
    full = after_blocks w l m s d (fulls w d)

    -- the bytes left after the full blocks
    pub fed_left : fed w l m s 0 d ≡ fed w l m (after_blocks w l m s d (fulls w d)) (fulls w d * rate w) (left w d)
    fed_left =
        let R : ℕ = rate w in
        let q : ℕ = fulls w d in
        let le : q * R ≤ length d = blocks_le (length d) R (rate_pos w) in
        let len : length (take (q * R) d) ≡ q * R = length-take-le (q * R) d le in
        let at : 0 + length (take (q * R) d) ≡ q * R = omega arith in
        ap (fed w l m s 0) (sym (take-append-drop (q * R) d))
        ∙ fed-append (take (q * R) d) (drop (q * R) d) s 0
        ∙ ap₂ (λ (t : State) (k : ℕ). fed w l m t k (drop (q * R) d)) (fed_fulls q le) at

    left_mod : length d % rate w ≡ length (left w d)
    left_mod = mod-eq-sub-div-mul (length d) (rate w) ∙ sym (length-drop (fulls w d * rate w) d)

    -- the end, where the full blocks leave nothing
    end_whole : length (left w d) ≡ 0 → 0 < length d → ended w l m (fed w l m s 0 d) (length d) ≡ xor_block w (entered w l m full) (padded (rate w) (left w d))
    unfolding fed
    end_whole h p =
        ended_some (fed w l m s 0 d) (length d) p
        ∙ ap₂ (λ (t : State) (k : ℕ). xor_block w t (padded (rate w) (zeros k))) (entered_start (fed w l m s 0 d) (length d) (left_mod ∙ h)) (left_mod ∙ h)
        ∙ ap₂ (λ (t : State) (x : List ℕ). xor_block w (entered w l m t) (padded (rate w) x))
        (fed_left ∙ ap (fed w l m full (fulls w d * rate w)) (empty (left w d) h)) (sym (empty (left w d) h))

    -- the end, where bytes are left
    end_left : 0 < length (left w d) → 0 < length d → ended w l m (fed w l m s 0 d) (length d) ≡ xor_block w (entered w l m full) (padded (rate w) (left w d))
    end_left h p =
        let R : ℕ = rate w in
        let x : List ℕ = left w d in
        let small : length x < R = left_short w d in
        let whole : fulls w d * R % R ≡ 0 = mul-mod_left (fulls w d) R in
        let bx : Bytes x = bytes_drop (fulls w d * R) d bytes in
        let t : fed w l m s 0 d ≡ xor_block w (entered w l m full) x =
        fed_left ∙ fed_some x full (fulls w d * R) h (omega arith) bx
        ∙ ap₂ (λ (t : State) (k : ℕ). xor_block w t (placed k x)) (entered_start full (fulls w d * R) whole) whole in
        ended_some (fed w l m s 0 d) (length d) p
        ∙ ap₂ (λ (t : State) (k : ℕ). xor_block w t (padded R (zeros k)))
        (entered_within (fed w l m s 0 d) (length d) (λ e. omega (arith, left_mod)) ∙ t) left_mod
        ∙ block_twice w (entered w l m full) x (padded R (zeros (length x))) bx (bytes_padded R (zeros (length x)) (bytes_zeros (length x)))
        ∙ ap (xor_block w (entered w l m full)) (padded_split R x small)

    end_none : length d ≡ 0 → ended w l m (fed w l m s 0 d) (length d) ≡ after_part w l m s d
    unfolding ended fed
    end_none e = ap₂ (λ (x : List ℕ) (n : ℕ). ended w l m (fed w l m s 0 x) n) (empty d e) e ∙ part_none w l m s d e

    end_some : 0 < length d → ended w l m (fed w l m s 0 d) (length d) ≡ after_part w l m s d
    end_some p =
        ⊎_elim (λ (e : length (left w d) ≡ 0). end_whole e p) (λ (h : 0 < length (left w d)). end_left h p) (eq-zero-or-pos (length (left w d)))
        ∙ part_last w l m s d (λ e. omega arith)

    -- the whole, byte by byte, with its end, is the part by blocks
    pub fed_part : ended w l m (fed w l m s 0 d) (length d) ≡ after_part w l m s d
    fed_part = ⊎_elim end_none end_some (eq-zero-or-pos (length d))
