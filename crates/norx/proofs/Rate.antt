-- What a block xored into a state does to the bytes of s0..s11.
-- Assumes nothing.
use mathlib.Core.Path.{◌≡◌, sym, ap, ◌∙◌}
use mathlib.Core.List.{List, ◌++◌}
use Prim.Native.Nat.{ℕ, zero, suc, ◌+◌, ◌*◌, ◌≤◌}
use native.Mathlib.Nat.{suc-mul, zero-mul}
use native.Mathlib.Omega.{arith}
use lib.Bits.{bit_xor}
use lib.ListN.{length, drop, length-drop}
use lib.Seq.{take_all, drop-drop, length-take-le}
use Rattle.norx.specs.Norx.{Width, word_bytes, row_bytes, rate, word_of, bytes_of, run, xors, State, word_at, row_at, row_of, bytes_of_row, xor_row, xor_block, rate_of}
use Rattle.norx.proofs.Xor.{xors_cut}
use Rattle.norx.proofs.Bytes.{Bytes, bytes_run}
use Rattle.norx.proofs.Words.{length-bytes_of, length-bytes_of_row, bytes_word, bytes_xor}

word_add : (k x : ℕ) (p : List ℕ) → length p ≡ k → Bytes p → bytes_of k (bit_xor x (word_of p)) ≡ xors (bytes_of k x) p
word_add k x p e h =
    bytes_xor k x (word_of p) ∙ ap (xors (bytes_of k x)) (ap (λ (n : ℕ). bytes_of n (word_of p)) (sym e) ∙ bytes_word p h)

pub length_run : (n i : ℕ) (l : List ℕ) → suc i * n ≤ length l → length (run n i l) ≡ n
length_run n i l h =
    let le : i * n + n ≤ length l = rw (suc-mul i n) at h in
    length-take-le n (drop (i * n) l) (omega (arith, length-drop (i * n) l))

-- k + 1 lists joined, from the j'th
abbrev joined : (ℕ → List ℕ) → ℕ → ℕ → List ℕ
joined f j zero = f j
joined f j (suc k) = f j ++ joined f (suc j) k

-- lists of n bytes, each xored with its run of l
xors-runs : (n : ℕ) (f : ℕ → List ℕ) (l : List ℕ) → ((j : ℕ) → length (f j) ≡ n) → (k j : ℕ) → length (drop (j * n) l) ≡ suc k * n
    → joined (λ j. xors (f j) (run n j l)) j k ≡ xors (joined f j k) (drop (j * n) l)
xors-runs n f l hf zero j e = ap (xors (f j)) (take_all n (drop (j * n) l) (omega arith))
xors-runs n f l hf (suc k) j e =
    let len : length (drop (j * n) l) ≡ suc k * n + n = rw (suc-mul (suc k) n) at e in
    let next : drop n (drop (j * n) l) ≡ drop (suc j * n) l = rw (drop-drop, suc-mul j n) in
    ap (λ (t : List ℕ). xors (f j) (run n j l) ++ t)
    (xors-runs n f l hf k (suc j) (ap length (sym next) ∙ length-drop n (drop (j * n) l) ∙ omega arith) ∙ ap (xors (joined f (suc j) k)) (sym next))
    ∙ sym (xors_cut n (f j) (joined f (suc j) k) (drop (j * n) l) (hf j) (omega arith))

pub row_add : (w : Width) (r b : List ℕ) → length b ≡ row_bytes w → Bytes b → bytes_of_row w (xor_row r (row_of w b)) ≡ xors (bytes_of_row w r) b
unfolding bytes_of_row xor_row
row_add w r b e h =
    (λ k. word 0 (omega arith) k ++ (word 1 (omega arith) k ++ (word 2 (omega arith) k ++ word 3 (omega arith) k)))
    ∙ xors-runs (word_bytes w) (λ j. bytes_of (word_bytes w) (word_at r j)) b (λ j. length-bytes_of (word_bytes w) (word_at r j)) 3 0 (rw zero-mul e)
    ∙ rw zero-mul
  where
    word : (j : ℕ) → suc j * word_bytes w ≤ length b
        → bytes_of (word_bytes w) (bit_xor (word_at r j) (word_of (run (word_bytes w) j b))) ≡ xors (bytes_of (word_bytes w) (word_at r j)) (run (word_bytes w) j b)
    word j le = word_add (word_bytes w) (word_at r j) (run (word_bytes w) j b) (length_run (word_bytes w) j b le) (bytes_run (word_bytes w) j b h)

pub rate_add : (w : Width) (s : State) (b : List ℕ) → length b ≡ rate w → Bytes b → rate_of w (xor_block w s b) ≡ xors (rate_of w s) b
unfolding rate_of xor_block
rate_add w s b e h =
    (λ k. one 0 (omega arith) k ++ (one 1 (omega arith) k ++ one 2 (omega arith) k))
    ∙ xors-runs (row_bytes w) (λ i. bytes_of_row w (row_at s i)) b (λ i. length-bytes_of_row w (row_at s i)) 2 0 (rw zero-mul (e ∙ omega arith))
    ∙ rw zero-mul
  where
    one : (i : ℕ) → suc i * row_bytes w ≤ length b
        → bytes_of_row w (xor_row (row_at s i) (row_of w (run (row_bytes w) i b))) ≡ xors (bytes_of_row w (row_at s i)) (run (row_bytes w) i b)
    one i le = row_add w (row_at s i) (run (row_bytes w) i b) (length_run (row_bytes w) i b le) (bytes_run (row_bytes w) i b h)
