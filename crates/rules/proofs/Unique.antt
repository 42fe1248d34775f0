-- Any two results that the contract of a public function allows are equal, with what every lent buffer then holds. Stated over the contracts' own readings.
-- Assumes nothing.
use mathlib.Core.Path.{◌≡◌, sym, ◌∙◌}
use denote.Triple.Clauses.{AtExit}
use contract.Lifetimes.{Lfts}
use borrow.Fn.World.{ArgsD, ResD}
use borrow.Fn.Kinds.{ended_of}
use Rattle.rules.specs.contracts.rounds_ok.{signature as signature-rounds-ok}
use Rattle.rules.proofs.rounds_ok.Kinds as kinds-rounds-ok
use Rattle.rules.proofs.rounds_ok.Reads.{Post as Post-rounds-ok}
use Rattle.rules.specs.contracts.lengths_ok.{signature as signature-lengths-ok}
use Rattle.rules.proofs.lengths_ok.Kinds as kinds-lengths-ok
use Rattle.rules.proofs.lengths_ok.Reads.{Post as Post-lengths-ok}
use Rattle.rules.specs.contracts.calls.within.{signature as signature-within}
use Rattle.rules.proofs.calls.within.Kinds as kinds-within
use Rattle.rules.proofs.calls.within.Reads.{Post as Post-within}
use Rattle.rules.specs.contracts.calls.seal_checks.{signature as signature-seal-checks}
use Rattle.rules.proofs.calls.seal_checks.Kinds as kinds-seal-checks
use Rattle.rules.proofs.calls.seal_checks.Reads.{Post as Post-seal-checks}
use Rattle.rules.specs.contracts.calls.open_checks.{signature as signature-open-checks}
use Rattle.rules.proofs.calls.open_checks.Kinds as kinds-open-checks
use Rattle.rules.proofs.calls.open_checks.Reads.{Post as Post-open-checks}

pub one_rounds_ok : (κs : Lfts 0) (a : ArgsD signature-rounds-ok κs) (r r' : ResD signature-rounds-ok κs) (s s' : AtExit (ended_of 0 kinds-rounds-ok.ps kinds-rounds-ok.r) κs)
    → Post-rounds-ok κs a r s → Post-rounds-ok κs a r' s' → r ≡ r'
one_rounds_ok κs a r r' s s' p q = p ∙ sym q

pub one_lengths_ok : (κs : Lfts 0) (a : ArgsD signature-lengths-ok κs) (r r' : ResD signature-lengths-ok κs) (s s' : AtExit (ended_of 0 kinds-lengths-ok.ps kinds-lengths-ok.r) κs)
    → Post-lengths-ok κs a r s → Post-lengths-ok κs a r' s' → r ≡ r'
one_lengths_ok κs a r r' s s' p q = p ∙ sym q

pub one_within : (κs : Lfts 0) (a : ArgsD signature-within κs) (r r' : ResD signature-within κs) (s s' : AtExit (ended_of 0 kinds-within.ps kinds-within.r) κs)
    → Post-within κs a r s → Post-within κs a r' s' → r ≡ r'
one_within κs a r r' s s' p q = p ∙ sym q

pub one_seal_checks : (κs : Lfts 0) (a : ArgsD signature-seal-checks κs) (r r' : ResD signature-seal-checks κs) (s s' : AtExit (ended_of 0 kinds-seal-checks.ps kinds-seal-checks.r) κs)
    → Post-seal-checks κs a r s → Post-seal-checks κs a r' s' → r ≡ r'
one_seal_checks κs a r r' s s' p q = p ∙ sym q

pub one_open_checks : (κs : Lfts 0) (a : ArgsD signature-open-checks κs) (r r' : ResD signature-open-checks κs) (s s' : AtExit (ended_of 0 kinds-open-checks.ps kinds-open-checks.r) κs)
    → Post-open-checks κs a r s → Post-open-checks κs a r' s' → r ≡ r'
one_open_checks κs a r r' s s' p q = p ∙ sym q
