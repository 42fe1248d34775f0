-- `dispatch::terms`: put together.
use mathlib.Core.Path.{ap₂}
use Prim.Native.Nat.{ℕ}
use Rattle.places.specs.declared.terms.Edition.{Edition}
use Rattle.places.specs.declared.terms.Terms.{Terms}
use Rattle.dispatch.proofs.terms.Goals as goal

abbrev made : ℕ → Edition → Terms
made l e = record { rounds = l; edition = e }

pub returns : goal.returns
returns c = ap₂ made c.low.ensures c.edition-edition.ensures
