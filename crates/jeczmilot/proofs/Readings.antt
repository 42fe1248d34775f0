-- A text is read in one way also in the numbers of a C caller, and 0 says that it is one that the writer can write.
-- Assumes nothing.
use mathlib.Core.Path.{◌≡◌, refl, sym, ap, ◌∙◌}
use mathlib.Core.Logic.{◌↔◌}
use mathlib.Core.List.{List}
use Prim.Native.Nat.{ℕ}
use native.Mathlib.Omega.{arith}
use Rattle.std.specs.Prelude.{Ok, Err}
use Rattle.lists.specs.Written.{CanWrite}
use Rattle.lists.specs.Readings.{Reading, ReadAs}
use Rattle.lists.proofs.Exact.{read_once, takes_exactly}
use Rattle.jeczmilot.specs.declared.ListNumbers.{ListNumbers}
use Rattle.jeczmilot.specs.Readings.{numbers_of, ReadAsNumbers, ZeroExactly}

pub numbers_once : (t : List ℕ) (r r' : ListNumbers) → ReadAsNumbers t r → ReadAsNumbers t r' → r ≡ r'
numbers_once t r r' p q = p.2 ∙ ap numbers_of (read_once t p.0 q.0 p.1 q.1) ∙ sym q.2

taken_zero : (t : List ℕ) (a : Reading) → ReadAs t a → ((numbers_of a).bad ≡ 0) ↔ CanWrite t
taken_zero t (Ok says) p = ((λ e. (takes_exactly t (Ok says) p).0 tt), (λ c. refl))
taken_zero t (Err bad) p = ((λ e. absurd (omega (arith, p.from))), (λ c. absurd ((takes_exactly t (Err bad) p).1 c)))

pub zero_exactly : ZeroExactly
zero_exactly t r p =
    let e : r.bad ≡ (numbers_of p.0).bad = ap (λ (s : ListNumbers). s.bad) p.2 in
    let z = taken_zero t p.0 p.1 in
    ((λ h. z.0 (sym e ∙ h)), (λ c. e ∙ z.1 c))
