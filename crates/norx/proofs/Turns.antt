-- The full blocks of a text as one loop goes through them, taken in as they are or, in opening, as the message of the ciphertext that they are.
-- Assumes nothing.
use mathlib.Core.Path.{◌≡◌, refl, sym, ap, ap₂, ◌∙◌}
use mathlib.Core.Bool.{Bool, true, false, cond}
use mathlib.Core.List.{List, [], ◌∷◌, ◌++◌}
use Prim.Native.Nat.{ℕ, zero, suc, ◌+◌, ◌*◌, ◌≤◌, ◌<◌}
use native.Mathlib.Nat.{zero-mul, suc-mul, div-eq_of_lt}
use native.Mathlib.Numerals.{add-one}
use native.Mathlib.Omega.{arith}
use borrow.Author.Tests.{eq-eqb}
use lib.Bits.{bit_xor, xor_zero_r}
use lib.Dec.{eqb}
use lib.ListN.{length, take, drop, set, replicate, length-append, length-drop}
use lib.Seq.{take_all, drop-drop, set-get_or, length-take-le}
use Rattle.norx.specs.Norx.{Width, word32, word64, rate, word_of, run, xors, State, row, rows, word_at, row_at, xor_row, f_of, p_of, on_diagonals, xor_block, rate_of, marked, entered, after_blocks, body_mark, cipher_blocks, message_blocks}
use Rattle.norx.proofs.Bytes.{Bytes, bytes_run}
use Rattle.norx.proofs.Words.{length-rate_of}
use Rattle.norx.proofs.Rate.{length_run, rate_add}
use Rattle.norx.specs.Blocks.{fulls}
use Rattle.norx.specs.Turns.{put, after_turns, shown, after_all_turns, out_after_turns}
use Rattle.norx.proofs.Slices.{put_next}
use Rattle.norx.specs.Whole.{four, Whole, four_rows}
use Rattle.norx.proofs.Blocks.{after_suc, cipher_suc}
use Rattle.norx.proofs.Messages.{readied, message_suc, state_suc}

module _ (w : Width) (l m : ℕ) (opening : Bool) (s : State) (d : List ℕ) where
  pub length_shown : (i : ℕ) → length (shown w l m opening s d i) ≡ i * rate w
  unfolding shown
  length_shown zero = omega arith
  length_shown (suc i) =
      let x : State = xor_block w (entered w l m (after_turns w l m opening s d i)) (run (rate w) i d) in
      length-append (shown w l m opening s d i) (rate_of w x) ∙ ap₂ (λ (a b : ℕ). a + b) (length_shown i) (length-rate_of w x) ∙ sym (suc-mul i (rate w))

  -- no block yet
  pub shown_none : (writing : Bool) (o : List ℕ) → o ≡ cond writing (shown w l m opening s d 0 ++ drop 0 o) o
  unfolding shown
  shown_none true o = refl
  shown_none false o = refl

  -- one block more
  module _ (i : ℕ) {t e : State} {b : List ℕ} (ht : t ≡ after_turns w l m opening s d i) (he : e ≡ entered w l m t) (hb : b ≡ run (rate w) i d) where
    ready : e ≡ entered w l m (after_turns w l m opening s d i)
    ready = he ∙ ap (entered w l m) ht

    pub turns_next : {u : State} → u ≡ cond opening (xor_block w e (xors (rate_of w e) b)) (xor_block w e b) → u ≡ after_turns w l m opening s d (i + 1)
    unfolding after_turns
    turns_next hu = rw add-one (hu ∙ (λ k. cond opening (xor_block w (ready k) (xors (rate_of w (ready k)) (hb k))) (xor_block w (ready k) (hb k))))

    pub shown_next : (writing : Bool) (o : List ℕ) {out new : List ℕ} → out ≡ cond writing (shown w l m opening s d i ++ drop (i * rate w) o) o
        → new ≡ cond writing (put out (i * rate w) (rate_of w (xor_block w e b)) (rate w)) out
        → new ≡ cond writing (shown w l m opening s d (i + 1) ++ drop ((i + 1) * rate w) o) o
    unfolding shown
    shown_next true o ho hn =
        let y : List ℕ = rate_of w (xor_block w (entered w l m (after_turns w l m opening s d i)) (run (rate w) i d)) in
        let hy : rate_of w (xor_block w e b) ≡ y = ap₂ (λ (z : State) (p : List ℕ). rate_of w (xor_block w z p)) ready hb in
        rw add-one
        (hn ∙ (λ k. put (ho k) (i * rate w) (hy k) (rate w))
        ∙ put_next (shown w l m opening s d i) (drop (i * rate w) o) y (i * rate w) (rate w) (length_shown i)
        ∙ ap (λ (z : List ℕ). (shown w l m opening s d i ++ y) ++ z) (drop-drop (rate w) (i * rate w) o ∙ ap (λ (k : ℕ). drop k o) (sym (suc-mul i (rate w)))))
    shown_next false o ho hn = hn ∙ ho

pub length_show : (writing : Bool) (a n : ℕ) (y out : List ℕ) {new : List ℕ} → length y ≡ n → (writing ≡ true → a + n ≤ length out)
    → new ≡ cond writing (put out a y n) out → length new ≡ length out
length_show true a n y out hy fits e =
    let le : a + n ≤ length out = fits refl in
    ap length e ∙ length-append (take a out) (y ++ drop n (drop a out))
    ∙ ap₂ (λ (p q : ℕ). p + q) (length-take-le a out (omega arith)) (length-append y (drop n (drop a out)))
    ∙ omega (arith, length-drop n (drop a out), length-drop a out)
length_show false a n y out hy fits e = ap length e

-- a text that has no full block
module _ (w : Width) (l m : ℕ) (opening : Bool) (s : State) (d : List ℕ) (short : length d < rate w) where
  none : fulls w d ≡ 0
  none = div-eq_of_lt short

  pub turns_short : s ≡ after_all_turns w l m opening s d
  unfolding after_turns
  turns_short = ap (after_turns w l m opening s d) (sym none)

  pub shown_short : (o : List ℕ) → o ≡ out_after_turns w l m opening s d o
  shown_short o =
      let nothing : drop (0 * rate w) o ≡ drop 0 o = ap (λ (k : ℕ). drop k o) (zero-mul (rate w)) in
      shown_none w l m opening s d (eqb (length o) (length d)) o
      ∙ ap (λ (x : List ℕ). cond (eqb (length o) (length d)) (shown w l m opening s d 0 ++ x) o) (sym nothing)
      ∙ ap (λ (n : ℕ). cond (eqb (length o) (length d)) (shown w l m opening s d n ++ drop (n * rate w) o) o) (sym none)

-- what stands in an output of the text's length
pub written : (a b : ℕ) (p q r o : List ℕ) {new : List ℕ} → a ≡ b → new ≡ cond (eqb a b) (p ++ r) o → p ≡ q → new ≡ q ++ r
written a b p q r o h hn hp = hn ∙ ap (λ (t : Bool). cond t (p ++ r) o) (eq-eqb a b h) ∙ ap (λ (x : List ℕ). x ++ r) hp

-- ---- what they are

module _ (w : Width) (l m : ℕ) (s : State) (d : List ℕ) where
  -- blocks taken in as they are
  pub turns_plain : (i : ℕ) → i * rate w ≤ length d → after_turns w l m false s d i ≡ after_blocks w l m s d i
  unfolding after_turns after_blocks
  turns_plain zero h = refl
  turns_plain (suc i) h =
      let le : i * rate w + rate w ≤ length d = rw (suc-mul i (rate w)) at h in
      ap (λ (t : State). xor_block w (entered w l m t) (run (rate w) i d)) (turns_plain i (omega arith)) ∙ after_suc w l m s d i h

  -- one block alone
  pub turns_one : length d ≡ rate w → after_turns w l m false s d 1 ≡ xor_block w (entered w l m s) d
  unfolding after_turns
  turns_one h = ap (λ (k : ℕ). xor_block w (entered w l m s) (take (rate w) (drop k d))) (zero-mul (rate w)) ∙ ap (xor_block w (entered w l m s)) (take_all (rate w) d (omega arith))

module _ (w : Width) (l : ℕ) (s : State) (d : List ℕ) where
  pub shown_plain : (i : ℕ) → i * rate w ≤ length d → shown w l body_mark false s d i ≡ cipher_blocks w l s d i
  unfolding shown cipher_blocks
  shown_plain zero h = refl
  shown_plain (suc i) h =
      let le : i * rate w + rate w ≤ length d = rw (suc-mul i (rate w)) at h in
      ap₂ (λ (p : List ℕ) (t : State). p ++ rate_of w t) (shown_plain i (omega arith))
      (ap (λ (t : State). xor_block w (entered w l body_mark t) (run (rate w) i d)) (turns_plain w l body_mark s d i (omega arith)) ∙ after_suc w l body_mark s d i h)
      ∙ cipher_suc w l s d i h

  -- blocks of ciphertext
  pub turns_opened : (i : ℕ) → i * rate w ≤ length d → after_turns w l body_mark true s d i ≡ after_blocks w l body_mark s (message_blocks w l s d i) i
  unfolding after_turns after_blocks
  turns_opened zero h = refl
  turns_opened (suc i) h =
      let le : i * rate w + rate w ≤ length d = rw (suc-mul i (rate w)) at h in
      ap (λ (t : State). xor_block w (entered w l body_mark t) (xors (rate_of w (entered w l body_mark t)) (run (rate w) i d))) (turns_opened i (omega arith))
      ∙ state_suc w l s d i h

  pub shown_opened : Bytes d → (i : ℕ) → i * rate w ≤ length d → shown w l body_mark true s d i ≡ message_blocks w l s d i
  unfolding shown message_blocks
  shown_opened hd zero h = refl
  shown_opened hd (suc i) h =
      let le : i * rate w + rate w ≤ length d = rw (suc-mul i (rate w)) at h in
      ap₂ (λ (p : List ℕ) (t : State). p ++ rate_of w (xor_block w (entered w l body_mark t) (run (rate w) i d))) (shown_opened hd i (omega arith)) (turns_opened i (omega arith))
      ∙ ap (λ (x : List ℕ). message_blocks w l s d i ++ x) (rate_add w (readied w l s d i) (run (rate w) i d) (length_run (rate w) i d h) (bytes_run (rate w) i d hd))
      ∙ message_suc w l s d i h

-- ---- the mark and P alone

-- no mark leaves a state as it is
pub unmarked : (s : State) → marked 0 s ≡ s
unfolding marked
unmarked s =
    ap (λ (x : ℕ). set s 3 (set (row_at s 3) 3 x)) (xor_zero_r (word_at (row_at s 3) 3))
    ∙ ap (set s 3) (set-get_or (row_at s 3) 3 0) ∙ set-get_or s 3 []

-- a row that is zeros but for its last word, xored into row 3, is a mark
pub marked_by_row : (w : Width) (m : ℕ) (s : State) → Whole w s → rows (row_at s 0) (row_at s 1) (row_at s 2) (xor_row (row_at s 3) (row 0 0 0 m)) ≡ marked m s
unfolding xor_row marked
marked_by_row w m s (four_rows {a} {b} {c} ha hb hc (four {a = x} {b = y} {c = z} {d = v} h0 h1 h2 h3)) =
    λ k. rows a b c (row (xor_zero_r x k) (xor_zero_r y k) (xor_zero_r z k) (bit_xor v m))

-- the words of a row, and the rows of a state, laid out anew
abbrev row_again : List ℕ → List ℕ
row_again r = row (word_at r 0) (word_at r 1) (word_at r 2) (word_at r 3)

abbrev again : State → State
again s = rows (row_again (row_at s 0)) (row_again (row_at s 1)) (row_again (row_at s 2)) (row_at s 3)

again_marked : (w : Width) (m : ℕ) (s : State) → Whole w s → again (marked m s) ≡ marked m s
unfolding marked
again_marked w m s (four_rows (four h0 h1 h2 h3) (four i0 i1 i2 i3) (four j0 j1 j2 j3) (four k0 k1 k2 k3)) = refl

again_p_of : (w : Width) (l : ℕ) (s : State) → again s ≡ s → again (p_of w l s) ≡ p_of w l s
unfolding p_of f_of on_diagonals
again_p_of w zero s h = h
again_p_of w (suc l) s h = refl

zero_row : (r : List ℕ) → xor_row r (row 0 0 0 0) ≡ row_again r
unfolding xor_row
zero_row r = λ k. xor_zero_r (word_at r 0) k ∷ xor_zero_r (word_at r 1) k ∷ xor_zero_r (word_at r 2) k ∷ xor_zero_r (word_at r 3) k ∷ []

zero_block : (w : Width) (s : State) → xor_block w s (replicate (rate w) 0) ≡ again s
unfolding xor_block word_of
zero_block word32 s = λ k. zero_row (row_at s 0) k ∷ zero_row (row_at s 1) k ∷ zero_row (row_at s 2) k ∷ row_at s 3 ∷ []
zero_block word64 s = λ k. zero_row (row_at s 0) k ∷ zero_row (row_at s 1) k ∷ zero_row (row_at s 2) k ∷ row_at s 3 ∷ []

-- a block of zeros is the mark and P alone
pub entered_zeros : (w : Width) (l m : ℕ) (s : State) → Whole w s → xor_block w (entered w l m s) (replicate (rate w) 0) ≡ entered w l m s
unfolding entered
entered_zeros w l m s h = zero_block w (entered w l m s) ∙ again_p_of w l (marked m s) (again_marked w m s h)
