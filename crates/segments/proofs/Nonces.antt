-- A segment's nonce tells its index and its flag.
-- Assumes nothing.
use mathlib.Core.Path.{◌≡◌, refl, sym, ap, ◌∙◌}
use mathlib.Core.Bool.{Bool, true, false}
use mathlib.Core.List.{List, [], ◌∷◌}
use Prim.Native.Nat.{ℕ, ◌+◌, ◌*◌, ◌/◌, ◌%◌, ◌<◌}
use native.Mathlib.Omega.{arith}
use lib.ListN.{length, drop}
use lib.Seq.{drop_at}
use Rattle.norx.specs.Norx.{bytes_of}
use Rattle.norx.specs.Front.{eight_bytes}
use Rattle.cutting.specs.Cutting.{segment_number}
use Rattle.segments.specs.Segments.{segment_nonce}
use Rattle.segments.specs.Nonces.{OneNonceEach}

-- three bytes of a number below 256 to the third give it back
unfoldable low : List ℕ → ℕ
low [] = 0
low (a ∷ []) = 0
low (a ∷ b ∷ []) = 0
low (a ∷ b ∷ c ∷ l) = a + b * 256 + c * 65536

low_of : (x : ℕ) → x < 16777216 → low (eight_bytes x) ≡ x
unfolding eight_bytes bytes_of low
low_of x h = let is : x % 256 + x / 256 % 256 * 256 + x / 256 / 256 % 256 * 65536 ≡ x = omega arith in is

numbers : (i j : ℕ) (a b : Bool) → segment_number i a ≡ segment_number j b → (i ≡ j) × (a ≡ b)
unfolding segment_number
numbers i j true true e = (omega arith, refl)
numbers i j true false e = absurd (omega arith)
numbers i j false true e = absurd (omega arith)
numbers i j false false e = (omega arith, refl)

below : (i : ℕ) (a : Bool) → i < 1048576 → segment_number i a < 16777216
unfolding segment_number
below i true h = omega arith
below i false h = omega arith

pub one_nonce_each : OneNonceEach
unfolding segment_nonce
one_nonce_each nonce i j a b hi hj e =
    let m : ℕ = segment_number i a in
    let n : ℕ = segment_number j b in
    let same : eight_bytes m ≡ eight_bytes n =
    sym (drop_at nonce (eight_bytes m) (length nonce) refl) ∙ ap (drop (length nonce)) e ∙ drop_at nonce (eight_bytes n) (length nonce) refl in
    numbers i j a b (sym (low_of m (below i a hi)) ∙ ap low same ∙ low_of n (below j b hj))
