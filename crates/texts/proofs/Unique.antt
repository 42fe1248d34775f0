-- Any two results that the contract of a public function allows are equal, with what every lent buffer then holds. Stated over the contracts' own readings.
-- Assumes nothing.
use mathlib.Core.Path.{◌≡◌, sym, ◌∙◌}
use mathlib.Core.Logic.{⊎_elim}
use lib.ListN.{length}
use Rattle.std.proofs.lemmas.Bool.{cases_lt}
use denote.Triple.Clauses.{AtExit}
use contract.Lifetimes.{Lfts}
use borrow.Fn.World.{ArgsD, ResD}
use borrow.Fn.Kinds.{ended_of}
use Rattle.texts.specs.contracts.same.{signature as signature-same}
use Rattle.texts.proofs.same.Kinds as kinds-same
use Rattle.texts.proofs.same.Reads.{Post as Post-same}
use Rattle.texts.specs.contracts.clear.{signature as signature-clear}
use Rattle.texts.proofs.clear.Kinds as kinds-clear
use Rattle.texts.proofs.clear.Reads.{Post as Post-clear}
use Rattle.texts.specs.contracts.copy.{signature as signature-copy}
use Rattle.texts.proofs.copy.Kinds as kinds-copy
use Rattle.texts.proofs.copy.Reads.{Post as Post-copy}

pub one_same : (κs : Lfts 2) (a : ArgsD signature-same κs) (r r' : ResD signature-same κs) (s s' : AtExit (ended_of 2 kinds-same.ps kinds-same.r) κs)
    → Post-same κs a r s → Post-same κs a r' s' → r ≡ r'
one_same κs a r r' s s' p q = p ∙ sym q

pub one_clear : (κs : Lfts 1) (a : ArgsD signature-clear κs) (r r' : ResD signature-clear κs) (s s' : AtExit (ended_of 1 kinds-clear.ps kinds-clear.r) κs)
    → Post-clear κs a r s → Post-clear κs a r' s' → s.0.now ≡ s'.0.now
one_clear κs a r r' s s' p q = p ∙ sym q

pub one_copy : (κs : Lfts 2) (a : ArgsD signature-copy κs) (r r' : ResD signature-copy κs) (s s' : AtExit (ended_of 2 kinds-copy.ps kinds-copy.r) κs)
    → Post-copy κs a r s → Post-copy κs a r' s' → s.1.0.now ≡ s'.1.0.now
one_copy κs a r r' s s' p q =
    ⊎_elim (λ h. p.1 h ∙ sym (q.1 h)) (λ h. p.0 h ∙ sym (q.0 h)) (cases_lt (length a.1.0.now) (length a.0.now))
