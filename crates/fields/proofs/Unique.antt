-- Any two results that the contract of a public function allows are equal, with the reader that is lent. Stated over the contracts' own readings, and for a function over a reader over its clauses, of which two hold at once.
-- Assumes nothing.
use mathlib.Core.Path.{◌≡◌, sym, ap, ◌∙◌}
use seplogic.Ra.Ura.{Ura}
use base.Logic.{SProp, ent, sep, fst∗, snd∗}
use prog.Memory.{Memory}
use prog.Routine.{Routine}
use types.Logic.{Logic}
use contract.Lifetimes.{Lfts}
use contract.Monad.{Fun, fact, fact_i, fact_use}
use denote.Triple.Clauses.{AtExit}
use borrow.Fn.World.{ArgsD, ResD}
use borrow.Fn.Kinds.{ended_of}
use Rattle.fields.specs.declared.Field.{Field}
use Rattle.fields.specs.contracts.field_at.{signature as signature-field-at}
use Rattle.fields.proofs.field_at.Kinds as kinds-field-at
use Rattle.fields.proofs.field_at.Reads.{Post as Post-field-at}
use Rattle.fields.specs.contracts.field_from.{signature as signature-field-from}
use Rattle.fields.proofs.field_from.Kinds as kinds-field-from
use Rattle.fields.proofs.field_from.Reads.{Post as Post-field-from}
use Rattle.fields.specs.contracts.Reader.new.{signature as signature-new, ended as ended-new, clauses as clauses-new}
use Rattle.fields.specs.contracts.Reader.next_field.{signature as signature-next-field, ended as ended-next-field, clauses as clauses-next-field}

pub one_field_at : (κs : Lfts 1) (a : ArgsD signature-field-at κs) (r r' : ResD signature-field-at κs) (s s' : AtExit (ended_of 1 kinds-field-at.ps kinds-field-at.r) κs)
    → Post-field-at κs a r s → Post-field-at κs a r' s' → r ≡ r'
one_field_at κs a r r' s s' p q = p ∙ sym q

pub one_field_from : (κs : Lfts 1) (a : ArgsD signature-field-from κs) (r r' : ResD signature-field-from κs) (s s' : AtExit (ended_of 1 kinds-field-from.ps kinds-field-from.r) κs)
    → Post-field-from κs a r s → Post-field-from κs a r' s' → r ≡ r'
one_field_from κs a r r' s s' p q = p ∙ sym q

module _ {M : Type 1} {𝓤 : Ura M} (𝓛 : Logic 𝓤) (mem : Memory → SProp 𝓤) (run : Routine → Fun 𝓤) where
  -- what follows from two facts
  both : (φ ψ χ : Type 0) → (φ → ψ → χ) → ent 𝓤 (sep 𝓤 (fact 𝓤 φ) (fact 𝓤 ψ)) (fact 𝓤 χ)
  both φ ψ χ f =
      fact_use 𝓤 φ (fst∗ 𝓤 (fact 𝓤 φ) (fact 𝓤 ψ)) (λ p. fact_use 𝓤 ψ (snd∗ 𝓤 (fact 𝓤 φ) (fact 𝓤 ψ)) (λ q. fact_i 𝓤 χ (sep 𝓤 (fact 𝓤 φ) (fact 𝓤 ψ)) (f p q)))

  pub one_new : (κs : Lfts 1) (a : ArgsD signature-new κs) (r r' : ResD signature-new κs) (s s' : AtExit ended-new κs)
      → ent 𝓤 (sep 𝓤 ((clauses-new 𝓛 mem run κs a).ensures tt r s) ((clauses-new 𝓛 mem run κs a).ensures tt r' s')) (fact 𝓤 (r ≡ r'))
  one_new κs a r r' s s' = both _ _ _ (λ p q i. record { text = (p.0 ∙ sym q.0) i; at = (p.1 ∙ sym q.1) i })

  pub one_next_field : (κs : Lfts 2) (a : ArgsD signature-next-field κs) (r r' : ResD signature-next-field κs) (s s' : AtExit ended-next-field κs)
      → ent 𝓤 (sep 𝓤 ((clauses-next-field 𝓛 mem run κs a).ensures tt r s) ((clauses-next-field 𝓛 mem run κs a).ensures tt r' s')) (fact 𝓤 ((r ≡ r') × (s.0.now ≡ s'.0.now)))
  one_next_field κs a r r' s s' =
      both _ _ _
      (λ p q.
      let f = p.0 ∙ sym q.0 in
      (f, (λ i. record { text = (p.1 ∙ sym q.1) i; at = (p.2 ∙ ap (λ (g : Field). g.next) f ∙ sym q.2) i })))
