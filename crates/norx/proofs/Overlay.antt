-- Blocks laid over each other: two xored in one after the other are one, and zeros behind a block change nothing.
-- Assumes nothing.
use mathlib.Core.Path.{◌≡◌, refl, sym, ap, ◌∙◌, subst}
use mathlib.Core.List.{List, [], ◌∷◌, ◌++◌}
use Prim.Native.Nat.{ℕ, zero, suc, ◌+◌, ◌-◌, ◌*◌, ◌<◌, ◌≤◌}
use native.Mathlib.Nat.{le_refl}
use native.Mathlib.Omega.{arith}
use lib.Bits.{bit_xor, xor_zero_r}
use lib.ListN.{length, get_or, take, drop, length-append, length-set, replicate-append-replicate}
use lib.Seq.{take-nil, get_or-drop, take-set-le, take_at}
use Rattle.norx.specs.Norx.{Width, word_bytes, row_bytes, rate, word_of, run, xors, State, word_at, row_at, row_of, xor_row, xor_block, rate_of, xor_at, padded}
use Rattle.norx.specs.Stream.{placed}
use Rattle.norx.proofs.Xor.{xor_assoc, xors-nil, take-xors, run_xors, xors-zeros, xor_at-xors}
use Rattle.norx.proofs.Bytes.{Bytes, zeros, length-zeros, zeros_at, bytes_run, bytes_append, bytes_zeros}
use Rattle.norx.proofs.Words.{word_xors, length-rate_of}
use Rattle.norx.proofs.Slices.{drop-replicate}
use Rattle.norx.proofs.Rate.{rate_add}

-- ---- two blocks, one after the other

row_twice : (w : Width) (r a b : List ℕ) → Bytes a → Bytes b → xor_row (xor_row r (row_of w a)) (row_of w b) ≡ xor_row r (row_of w (xors a b))
unfolding xor_row
row_twice w r a b ha hb = λ k. word 0 k ∷ word 1 k ∷ word 2 k ∷ word 3 k ∷ []
  where
    word : (j : ℕ) → bit_xor (bit_xor (word_at r j) (word_of (run (word_bytes w) j a))) (word_of (run (word_bytes w) j b))
        ≡ bit_xor (word_at r j) (word_of (run (word_bytes w) j (xors a b)))
    word j =
        xor_assoc (word_at r j) (word_of (run (word_bytes w) j a)) (word_of (run (word_bytes w) j b))
        ∙ ap (bit_xor (word_at r j))
        (sym (ap word_of (run_xors (word_bytes w) j a b)
        ∙ word_xors (run (word_bytes w) j a) (run (word_bytes w) j b) (bytes_run (word_bytes w) j a ha) (bytes_run (word_bytes w) j b hb)))

pub block_twice : (w : Width) (s : State) (a b : List ℕ) → Bytes a → Bytes b → xor_block w (xor_block w s a) b ≡ xor_block w s (xors a b)
unfolding xor_block
block_twice w s a b ha hb = λ k. one 0 k ∷ one 1 k ∷ one 2 k ∷ row_at s 3 ∷ []
  where
    one : (i : ℕ) → xor_row (xor_row (row_at s i) (row_of w (run (row_bytes w) i a))) (row_of w (run (row_bytes w) i b))
        ≡ xor_row (row_at s i) (row_of w (run (row_bytes w) i (xors a b)))
    one i =
        row_twice w (row_at s i) (run (row_bytes w) i a) (run (row_bytes w) i b) (bytes_run (row_bytes w) i a ha) (bytes_run (row_bytes w) i b hb)
        ∙ ap (λ (l : List ℕ). xor_row (row_at s i) (row_of w l)) (sym (run_xors (row_bytes w) i a b))

-- ---- zeros behind

-- the same bytes at each place, one list maybe with more zeros behind
abbrev pub Same : List ℕ → List ℕ → Type 0
Same a b = (i : ℕ) → get_or a i 0 ≡ get_or b i 0

same_take : (n : ℕ) (a b : List ℕ) → Same a b → Same (take n a) (take n b)
same_take zero a b h i = refl
same_take (suc n) [] [] h i = refl
same_take (suc n) [] (y ∷ b) h zero = h 0
same_take (suc n) [] (y ∷ b) h (suc i) = subst (λ (l : List ℕ). get_or l i 0 ≡ get_or (take n b) i 0) (take-nil n) (same_take n [] b (λ j. h (suc j)) i)
same_take (suc n) (x ∷ a) [] h zero = h 0
same_take (suc n) (x ∷ a) [] h (suc i) = subst (λ (l : List ℕ). get_or (take n a) i 0 ≡ get_or l i 0) (take-nil n) (same_take n a [] (λ j. h (suc j)) i)
same_take (suc n) (x ∷ a) (y ∷ b) h zero = h 0
same_take (suc n) (x ∷ a) (y ∷ b) h (suc i) = same_take n a b (λ j. h (suc j)) i

same_run : (n i : ℕ) (a b : List ℕ) → Same a b → Same (run n i a) (run n i b)
same_run n i a b h =
    same_take n (drop (i * n) a) (drop (i * n) b) (λ j. get_or-drop (i * n) a j 0 ∙ h (i * n + j) ∙ sym (get_or-drop (i * n) b j 0))

word_same : (a b : List ℕ) → Same a b → word_of a ≡ word_of b
unfolding word_of
word_same [] [] h = refl
word_same [] (y ∷ b) h = λ k. word_same [] b (λ j. h (suc j)) k * 256 + h 0 k
word_same (x ∷ a) [] h = λ k. word_same a [] (λ j. h (suc j)) k * 256 + h 0 k
word_same (x ∷ a) (y ∷ b) h = λ k. word_same a b (λ j. h (suc j)) k * 256 + h 0 k

pub row_same : (w : Width) (a b : List ℕ) → Same a b → row_of w a ≡ row_of w b
row_same w a b h = λ k. word 0 k ∷ word 1 k ∷ word 2 k ∷ word 3 k ∷ []
  where
    word : (j : ℕ) → word_of (run (word_bytes w) j a) ≡ word_of (run (word_bytes w) j b)
    word j = word_same (run (word_bytes w) j a) (run (word_bytes w) j b) (same_run (word_bytes w) j a b h)

pub block_same : (w : Width) (s : State) (a b : List ℕ) → Same a b → xor_block w s a ≡ xor_block w s b
unfolding xor_block
block_same w s a b h = λ k. one 0 k ∷ one 1 k ∷ one 2 k ∷ row_at s 3 ∷ []
  where
    one : (i : ℕ) → xor_row (row_at s i) (row_of w (run (row_bytes w) i a)) ≡ xor_row (row_at s i) (row_of w (run (row_bytes w) i b))
    one i = ap (xor_row (row_at s i)) (row_same w (run (row_bytes w) i a) (run (row_bytes w) i b) (same_run (row_bytes w) i a b h))

pub same_zeros : (l : List ℕ) (n : ℕ) → Same (l ++ zeros n) l
same_zeros [] n i = zeros_at n i
same_zeros (x ∷ l) n zero = refl
same_zeros (x ∷ l) n (suc i) = same_zeros l n i

xors_zeros_behind : (x b : List ℕ) (n : ℕ) → length b + n ≤ length x → xors x (b ++ zeros n) ≡ xors x b
unfolding xors
xors_zeros_behind [] [] zero h = refl
xors_zeros_behind [] [] (suc n) h = let z : ⊥ = omega arith in absurd z
xors_zeros_behind [] (y ∷ b) n h = let z : ⊥ = omega arith in absurd z
xors_zeros_behind (x ∷ a) [] zero h = refl
xors_zeros_behind (x ∷ a) [] (suc n) h = (λ k. xor_zero_r x k ∷ xors_zeros_behind a [] n (omega arith) k) ∙ ap (λ (l : List ℕ). x ∷ l) (xors-nil a)
xors_zeros_behind (x ∷ a) (y ∷ b) n h = ap (λ (l : List ℕ). bit_xor x y ∷ l) (xors_zeros_behind a b n (omega arith))

-- the bytes of s0..s11 after a block of fewer bytes
pub rate_add_short : (w : Width) (s : State) (b : List ℕ) → length b ≤ rate w → Bytes b → rate_of w (xor_block w s b) ≡ xors (rate_of w s) b
rate_add_short w s b e h =
    let n : ℕ = rate w - length b in
    let len : length (b ++ zeros n) ≡ rate w = length-append b (zeros n) ∙ omega (arith, length-zeros n) in
    ap (rate_of w) (block_same w s b (b ++ zeros n) (λ i. sym (same_zeros b n i)))
    ∙ rate_add w s (b ++ zeros n) len (bytes_append b (zeros n) h (bytes_zeros n))
    ∙ xors_zeros_behind (rate_of w s) b n (omega (arith, length-rate_of w s))

-- ---- a byte beside bytes

pub bytes_placed : (j : ℕ) (l : List ℕ) → Bytes l → Bytes (placed j l)
bytes_placed j l h = bytes_append (zeros j) l (bytes_zeros j) h

pub length-placed : (j : ℕ) (l : List ℕ) → length (placed j l) ≡ j + length l
length-placed j l = length-append (zeros j) l ∙ ap (λ (k : ℕ). k + length l) (length-zeros j)

pub placed_more : (j b : ℕ) (l : List ℕ) → xors (placed j (b ∷ [])) (placed (suc j) l) ≡ placed j (b ∷ l)
unfolding xors
placed_more zero b l = ap (λ (x : ℕ). x ∷ l) (xor_zero_r b)
placed_more (suc j) b l = ap (λ (t : List ℕ). 0 ∷ t) (placed_more j b l)

-- ---- the padding

pub length-padded : (R : ℕ) (l : List ℕ) → length l ≤ R → length (padded R l) ≡ R
unfolding padded
length-padded R l h = simp (length-set, length-append, length-zeros) (omega arith)

pub take-padded : (R : ℕ) (l : List ℕ) → length l < R → take (length l) (padded R l) ≡ l
unfolding padded
take-padded R l h =
    let le : length l ≤ R - 1 = omega arith in
    take-set-le (length l) _ (R - 1) _ le ∙ take-set-le (length l) _ (length l) _ (le_refl (length l)) ∙ take_at l (zeros (R - length l)) (length l) refl

-- as code pads: the bytes copied into zeros, and the two xored in
pub filled_of : (R : ℕ) (l : List ℕ) {b : List ℕ} → b ≡ l ++ drop (length l) (zeros R) → b ≡ l ++ zeros (R - length l)
filled_of R l e = e ∙ ap (λ (y : List ℕ). l ++ y) (drop-replicate (length l) R 0)

pub padded_of : (R : ℕ) (l : List ℕ) {b : List ℕ} {k : ℕ} → b ≡ l ++ zeros (R - length l) → k ≡ length l → xor_at (xor_at b k 1) (R - 1) 128 ≡ padded R l
unfolding padded
padded_of R l e h = λ i. xor_at (xor_at (e i) (h i) 1) (R - 1) 128

-- the padding of as many zeros
padded_zeros : (R k : ℕ) → k ≤ R → padded R (zeros k) ≡ xor_at (xor_at (zeros R) k 1) (R - 1) 128
unfolding padded
padded_zeros R k h =
    (λ i. xor_at (xor_at (zeros k ++ zeros (R - length-zeros k i)) (length-zeros k i) 1) (R - 1) 128)
    ∙ (let e : k + (R - k) ≡ R = omega arith in rw (replicate-append-replicate, e))

-- the bytes and then the padding of their place are the padded bytes
pub padded_split : (R : ℕ) (l : List ℕ) → length l < R → xors l (padded R (zeros (length l))) ≡ padded R l
unfolding padded
padded_split R l h =
    let z : List ℕ = zeros R in
    let n : length z ≡ R = length-zeros R in
    let p : length l ≤ R = omega arith in
    ap (xors l) (padded_zeros R (length l) p)
    ∙ sym (xor_at-xors l (xor_at z (length l) 1) (R - 1) 128 (simp length-set (omega arith)))
    ∙ ap (λ (t : List ℕ). xor_at t (R - 1) 128) (sym (xor_at-xors l z (length l) 1 (omega arith)))
    ∙ ap (λ (t : List ℕ). xor_at (xor_at t (length l) 1) (R - 1) 128) (xors-zeros l R p)

-- the bytes left of a ciphertext in a block of zeros: xored in, they leave their message
pub recovered_of : (w : Width) (e : State) (x : List ℕ) {b r : List ℕ} {u : State} → length x ≤ rate w → Bytes x → b ≡ x ++ zeros (rate w - length x)
    → u ≡ xor_block w e b → r ≡ rate_of w u → take (length x) r ≡ xors (take (length x) (rate_of w e)) x
recovered_of w e x h hx hb hu hr =
    let n : ℕ = rate w - length x in
    let len : length (x ++ zeros n) ≡ rate w = length-append x (zeros n) ∙ omega (arith, length-zeros n) in
    ap (take (length x))
    (hr ∙ ap (rate_of w) (hu ∙ ap (xor_block w e) hb) ∙ rate_add w e (x ++ zeros n) len (bytes_append x (zeros n) hx (bytes_zeros n)))
    ∙ take-xors (length x) (rate_of w e) (x ++ zeros n) ∙ ap (xors (take (length x) (rate_of w e))) (take_at x (zeros n) (length x) refl)
