-- `dispatch::label`: put together.
use mathlib.Core.Path.{ap₂}
use Prim.Native.Nat.{ℕ}
use Rattle.places.specs.declared.terms.Edition.{Edition}
use Rattle.places.specs.declared.Part.{Part}
use Rattle.places.specs.declared.Label.{Label}
use Rattle.dispatch.proofs.label.Goals as goal

abbrev made : ℕ → Edition → Part → Label
made offset e p = record { edition = e; part = p; offset = offset }

pub returns : goal.returns
returns c = ap₂ (made c.args.a.fourth) c.edition.ensures c.part.ensures
