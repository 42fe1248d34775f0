-- Lists of bytes, and what keeps them so.
-- Assumes nothing.
use mathlib.Core.Path.{◌≡◌, refl}
use mathlib.Core.List.{List, [], ◌∷◌, ◌++◌}
use Prim.Native.Nat.{ℕ, zero, suc, ◌-◌, ◌*◌, ◌/◌, ◌%◌, ◌<◌}
use native.Mathlib.Nat.{mod-lt, zero-lt-suc}
use native.Mathlib.Omega.{arith}
use lib.Bits.{bit_xor, xor_lt}
use lib.ListN.{length, get_or, take, drop, set, replicate, length-replicate}
pub use Rattle.norx.specs.Texts.{Bytes}
use Rattle.norx.specs.Norx.{Width, run, bytes_of, bytes_of_row, rate_of, row_at, word_at, word_bytes, xor_at, padded}

abbrev pub zeros : ℕ → List ℕ
zeros n = replicate n 0

pub length-zeros : (n : ℕ) → length (zeros n) ≡ n
length-zeros n = length-replicate n 0

pub zeros_at : (n i : ℕ) → get_or (zeros n) i 0 ≡ 0
zeros_at zero i = refl
zeros_at (suc n) zero = refl
zeros_at (suc n) (suc i) = zeros_at n i

pub bytes_nil : Bytes []
bytes_nil i = zero-lt-suc 255

pub bytes_cons : (x : ℕ) (l : List ℕ) → x < 256 → Bytes l → Bytes (x ∷ l)
bytes_cons x l p h zero = p
bytes_cons x l p h (suc i) = h i

pub bytes_take : (n : ℕ) (l : List ℕ) → Bytes l → Bytes (take n l)
bytes_take zero l h = bytes_nil
bytes_take (suc n) [] h = bytes_nil
bytes_take (suc n) (x ∷ l) h = bytes_cons x (take n l) (h 0) (bytes_take n l (λ j. h (suc j)))

pub bytes_drop : (n : ℕ) (l : List ℕ) → Bytes l → Bytes (drop n l)
bytes_drop zero l h = h
bytes_drop (suc n) [] h = h
bytes_drop (suc n) (x ∷ l) h = bytes_drop n l (λ j. h (suc j))

pub bytes_run : (n i : ℕ) (l : List ℕ) → Bytes l → Bytes (run n i l)
bytes_run n i l h = bytes_take n (drop (i * n) l) (bytes_drop (i * n) l h)

pub bytes_append : (a b : List ℕ) → Bytes a → Bytes b → Bytes (a ++ b)
bytes_append [] b ha hb = hb
bytes_append (x ∷ a) b ha hb = bytes_cons x (a ++ b) (ha 0) (bytes_append a b (λ k. ha (suc k)) hb)

pub bytes_zeros : (n : ℕ) → Bytes (zeros n)
bytes_zeros n i = omega (arith, zeros_at n i)

pub bytes_set : (l : List ℕ) (i x : ℕ) → Bytes l → x < 256 → Bytes (set l i x)
bytes_set [] i x h p = h
bytes_set (y ∷ l) zero x h p = bytes_cons x l p (λ j. h (suc j))
bytes_set (y ∷ l) (suc i) x h p = bytes_cons y (set l i x) (h 0) (bytes_set l i x (λ k. h (suc k)) p)

bytes_xor_at : (l : List ℕ) (i v : ℕ) → Bytes l → v < 256 → Bytes (xor_at l i v)
bytes_xor_at l i v h p = bytes_set l i (bit_xor (get_or l i 0) v) h (xor_lt 8 (get_or l i 0) v (h i) p)

pub bytes_padded : (R : ℕ) (l : List ℕ) → Bytes l → Bytes (padded R l)
unfolding padded
bytes_padded R l h =
    bytes_xor_at (xor_at (l ++ zeros (R - length l)) (length l) 1) (R - 1) 128
    (bytes_xor_at (l ++ zeros (R - length l)) (length l) 1 (bytes_append l (zeros (R - length l)) h (bytes_zeros (R - length l))) (omega arith)) (omega arith)

pub bytes_bytes_of : (k x : ℕ) → Bytes (bytes_of k x)
unfolding bytes_of
bytes_bytes_of zero x = bytes_nil
bytes_bytes_of (suc k) x = bytes_cons (x % 256) (bytes_of k (x / 256)) (mod-lt x (omega arith)) (bytes_bytes_of k (x / 256))

pub bytes_row : (w : Width) (r : List ℕ) → Bytes (bytes_of_row w r)
unfolding bytes_of_row
bytes_row w r =
    let b : ℕ → List ℕ = λ j. bytes_of (word_bytes w) (word_at r j) in
    let h : (j : ℕ) → Bytes (b j) = λ j. bytes_bytes_of (word_bytes w) (word_at r j) in
    bytes_append (b 0) (b 1 ++ (b 2 ++ b 3)) (h 0) (bytes_append (b 1) (b 2 ++ b 3) (h 1) (bytes_append (b 2) (b 3) (h 2) (h 3)))

pub bytes_rate : (w : Width) (s : List (List ℕ)) → Bytes (rate_of w s)
unfolding rate_of
bytes_rate w s =
    bytes_append (bytes_of_row w (row_at s 0)) (bytes_of_row w (row_at s 1) ++ bytes_of_row w (row_at s 2)) (bytes_row w (row_at s 0))
    (bytes_append (bytes_of_row w (row_at s 1)) (bytes_of_row w (row_at s 2)) (bytes_row w (row_at s 1)) (bytes_row w (row_at s 2)))
