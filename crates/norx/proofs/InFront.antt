-- Bytes that stand in the front of a longer list, written there.
-- Assumes nothing.
use Rattle.std.specs.Prelude.{◌≡◌, ℕ, List, ◌++◌, ◌+◌, ◌-◌, ◌≤◌, length, take, drop, true, refl}
use Rattle.std.proofs.Common.{sym, ap, ◌∙◌, arith, append_assoc, take-append-drop, length-take-le}
use Rattle.std.proofs.lemmas.List.{take-append-le, drop-append-le}
use lib.Seq.{take_at}
use lib.ListN.{length-drop}
use Rattle.norx.specs.Turns.{put}
use Rattle.norx.proofs.Turns.{length_show}
use Rattle.norx.proofs.Slices.{span}

put_front : (k r ys : List ℕ) (a : ℕ) → a + length ys ≤ length k → put (k ++ r) a ys (length ys) ≡ put k a ys (length ys) ++ r
put_front k r ys a h =
    let first = take-append-le a k r (omega arith) in
    let rest = drop-append-le a k r (omega arith) in
    let behind = drop-append-le (length ys) (drop a k) r (omega (arith, length-drop a k)) in
    rw (first, rest, behind) (simp append_assoc)

-- the front n of a list in which bytes are laid at a place there
pub put_in_front : (n a : ℕ) (l ys : List ℕ) → a + length ys ≤ n → n ≤ length l
    → take n (take a l ++ (ys ++ drop (a + length ys - a) (drop a l))) ≡ put (take n l) a ys (length ys)
put_in_front n a l ys h k =
    let long : length (take n l) ≡ n = length-take-le n l k in
    let same = length_show true a (length ys) ys (take n l) refl (λ _. omega (arith, long)) refl in
    rw span
    (ap (λ (x : List ℕ). take n (put x a ys (length ys))) (sym (take-append-drop n l))
    ∙ ap (take n) (put_front (take n l) (drop n l) ys a (omega (arith, long)))
    ∙ take_at (put (take n l) a ys (length ys)) (drop n l) n (same ∙ long))
