-- Bytes as code lays them into a block of zeros, and as it cuts them off behind the full blocks of a text. At every width.
-- Assumes nothing.
use Rattle.std.proofs.Common.{◌≡◌, List, ◌++◌, ℕ, ◌+◌, ◌-◌, ◌*◌, ◌≤◌, cond, leb, length, take, drop, ap, sym, ◌∙◌, append_assoc, arith}
use Rattle.std.proofs.lemmas.Bool.{le-leb}
use Rattle.norx.specs.Norx.{Width, rate}
use Rattle.norx.specs.Blocks.{fulls, left}
use Rattle.norx.specs.Stream.{placed}
use Rattle.norx.specs.Turns.{put}
use Rattle.norx.proofs.Bytes.{zeros}
use Rattle.norx.proofs.Slices.{drop-replicate, take-replicate, tail}

-- laid at place j of a block of R zeros
pub laid_of : (R j : ℕ) (d : List ℕ) {z b : List ℕ} → j + length d ≤ R → z ≡ zeros R → b ≡ cond (leb (j + length d) R) (put z j d (length d)) z
    → b ≡ placed j d ++ zeros (R - j - length d)
laid_of R j d h hz hb =
    let rest : drop (length d) (drop j (zeros R)) ≡ zeros (R - j - length d) =
    ap (drop (length d)) (drop-replicate j R 0) ∙ drop-replicate (length d) (R - j) 0 in
    hb ∙ (λ i. cond (le-leb (j + length d) R h i) (put (hz i) j d (length d)) (hz i))
    ∙ (λ i. take-replicate j R 0 (omega arith) i ++ (d ++ rest i)) ∙ sym (append_assoc (zeros j) d (zeros (R - j - length d)))

-- cut off behind the full blocks, which have k bytes
pub left_of : (w : Width) (d : List ℕ) {k : ℕ} → k ≡ fulls w d * rate w → take (length d - k) (drop k d) ≡ left w d
left_of w d {k} e = tail k d ∙ ap (λ (i : ℕ). drop i d) e
