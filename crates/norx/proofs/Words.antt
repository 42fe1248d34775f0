-- Bytes and words go over into each other.
-- Assumes nothing.
use mathlib.Core.Path.{◌≡◌, refl, sym, ap, ◌∙◌}
use mathlib.Core.List.{List, [], ◌∷◌}
use Prim.Native.Nat.{ℕ, zero, suc, ◌+◌, ◌*◌, ◌/◌, ◌%◌, ◌^◌, ◌<◌}
use native.Mathlib.Nat.{zero-lt-suc, pow-suc, div-lt_iff_lt-mul}
use native.Mathlib.Omega.{arith}
use lib.Bits.{bit_xor, xor_shr, xor_mod, xor_block, xor_zero_r}
use lib.ListN.{length, length-append}
use lib.Pow.{high, low, split}
use Rattle.norx.specs.Norx.{Width, word_of, bytes_of, bytes_of_row, rate_of, rate, row_bytes, xors}
use Rattle.norx.proofs.Bytes.{Bytes}

pub length-bytes_of : (k x : ℕ) → length (bytes_of k x) ≡ k
unfolding bytes_of
length-bytes_of zero x = refl
length-bytes_of (suc k) x = ap suc (length-bytes_of k (x / 256))

pub length-bytes_of_row : (w : Width) (r : List ℕ) → length (bytes_of_row w r) ≡ row_bytes w
unfolding bytes_of_row
length-bytes_of_row w r = simp (length-append, length-bytes_of) (omega arith)

pub length-rate_of : (w : Width) (s : List (List ℕ)) → length (rate_of w s) ≡ rate w
unfolding rate_of
length-rate_of w s = simp (length-append, length-bytes_of_row) (omega arith)

-- the bytes of a word of bytes are those bytes
pub bytes_word : (l : List ℕ) → Bytes l → bytes_of (length l) (word_of l) ≡ l
unfolding bytes_of word_of
bytes_word [] h = refl
bytes_word (b ∷ l) h =
    λ i. low (word_of l) 8 {lo = b} (h 0) i ∷ (ap (bytes_of (length l)) (high (word_of l) 8 {lo = b} (h 0)) ∙ bytes_word l (λ j. h (suc j))) i

-- the word of a word's bytes is that word
pub word_bytes_lem : (k x : ℕ) → x < 256 ^ k → word_of (bytes_of k x) ≡ x
unfolding bytes_of word_of
word_bytes_lem zero x h = omega arith
word_bytes_lem (suc k) x h =
    ap (λ (y : ℕ). y * 256 + x % 256) (word_bytes_lem k (x / 256) ((div-lt_iff_lt-mul (zero-lt-suc 255)).1 (rw (pow-suc 256 k) at h))) ∙ split x 8

-- xor of words is xor of their bytes
pub bytes_xor : (k x y : ℕ) → bytes_of k (bit_xor x y) ≡ xors (bytes_of k x) (bytes_of k y)
unfolding bytes_of xors
bytes_xor zero x y = refl
bytes_xor (suc k) x y = λ i. xor_mod x y 8 i ∷ (ap (bytes_of k) (xor_shr x y 8) ∙ bytes_xor k (x / 256) (y / 256)) i

pub word_xors : (a b : List ℕ) → Bytes a → Bytes b → word_of (xors a b) ≡ bit_xor (word_of a) (word_of b)
unfolding xors word_of
word_xors [] b ha hb = refl
word_xors (x ∷ a) [] ha hb = sym (xor_zero_r (word_of (x ∷ a)))
word_xors (x ∷ a) (y ∷ b) ha hb =
    ap (λ (t : ℕ). t * 256 + bit_xor x y) (word_xors a b (λ j. ha (suc j)) (λ j. hb (suc j)))
    ∙ sym (xor_block 8 (word_of a) (word_of b) x y (ha 0) (hb 0))
