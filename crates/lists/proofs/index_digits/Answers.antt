-- `lists::index_digits`: before each turn at most so many digits of each index are counted.
use mathlib.Core.Path.{refl, sym, ap, ◌∙◌}
use Prim.Native.Nat.{ℕ, suc, ◌*◌}
use native.Mathlib.Omega.{arith}
use native.Mathlib.Nat.{pow-suc}
use Rattle.lists.proofs.Indices.{counted_one, counted_more, counted_all, counted_most}
use Rattle.lists.proofs.index_digits.Goals as goal

pub loop-power-init : goal.loop-power-init
loop-power-init c = (0, refl, sym (counted_one c.args.n), omega arith)

pub overflow_add-digits : goal.overflow_add-digits
overflow_add-digits c =
    let l = c.loop-power in
    let n = c.args.n in
    omega (arith, l.invariant.2, counted_most (suc l.invariant.0) n c.requires, c.requires)

pub loop-power-preserved : goal.loop-power-preserved
loop-power-preserved c =
    let l = c.loop-power in
    let n = c.args.n in
    let k = l.invariant.0 in (
      suc k,
      ap (λ (p : ℕ). p * 10) l.invariant.1 ∙ sym (pow-suc 10 (suc k)),
      omega (arith, l.invariant.2, counted_more k n, l.invariant.1),
      omega (arith, l.invariant.3),
    )

pub returns : goal.returns
returns c =
    let l = c.loop-power in
    let n = c.args.n in
    let k = l.invariant.0 in
    let all = counted_all k n (omega (arith, c.loop-power-test.false, l.invariant.1)) in
    (l.invariant.2 ∙ all, omega (arith, l.invariant.2, counted_most (suc k) n c.requires))
