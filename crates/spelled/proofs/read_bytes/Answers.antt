-- `spelled::read_bytes`: by the form that the word is in.
use mathlib.Core.Path.{◌≡◌, ap}
use mathlib.Core.Logic.{inl, inr}
use mathlib.Core.List.{List, [], ◌∷◌}
use Prim.Native.Nat.{ℕ}
use native.Mathlib.Omega.{arith}
use lib.ListN.{length, get_or}
use Rattle.spelled.specs.Spelled.{AsPairs, AsTimes, Spells, Starred}
use Rattle.spelled.proofs.Spells.{starred_times, other_pairs, read_as}
use Rattle.spelled.proofs.read_bytes.Goals as goal
use Rattle.spelled.proofs.read_bytes.Goals.{in_default-via-then-word-lt1, in_default-via-else-word-lt1+then-word-lt2+in_default-1, in_default-via-else-word-lt1+else-word-lt2+then-word-lt4, in_default-via-else-word-lt1+else-word-lt2+else-word-lt4+in_default-1}

pub returns-in-42 : goal.returns-in-42
returns-in-42 c =
    let x = c.args in
    let word = x.word.now in
    let star : Starred word = (omega arith, omega arith) in
    read_as (AsTimes word) (Spells word) x.out.now _ c.read_times.result (λ l t. inr (inr t)) (starred_times word star) c.read_times.ensures

pub returns-in_default : goal.returns-in_default
returns-in_default c =
    let x = c.args in
    let word = x.word.now in
    let none : word ≡ 45 ∷ [] → ⊥ = λ e. grind (arith, ap length e, ap (λ (w : List ℕ). get_or w 0 0) e) in
    let star : Starred word → ⊥ = λ s. grind (arith, s.0, s.1) in
    read_as (AsPairs word) (Spells word) x.out.now _ c.read_pairs.result (λ l p. inr (inl p)) (other_pairs word none star) c.read_pairs.ensures
