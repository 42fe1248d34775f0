-- `spelled::pair`: the first digit sixteen times, and the second.
use mathlib.Core.Path.{sym, ap₂, ◌∙◌}
use mathlib.Core.List.{[], ◌∷◌}
use Prim.Native.Nat.{ℕ}
use native.Mathlib.Omega.{arith}
use Rattle.spelled.proofs.Hex.{hex_pair}
use Rattle.spelled.proofs.pair.Goals as goal

pub returns : goal.returns
returns c =
    let high = c.in_ok-digit.ensures in
    let low = c.in_ok-digit-2.ensures in
    (omega (arith, high.0, low.0), hex_pair _ _ high.0 low.0 ∙ ap₂ (λ (a b : ℕ). a ∷ b ∷ []) (sym high.1) (sym low.1))
