-- Any two results that the contract of a public function allows are equal, with what every lent buffer then holds. Stated over the contracts' own readings.
-- Assumes nothing.
use mathlib.Core.Path.{◌≡◌, sym, ◌∙◌}
use denote.Triple.Clauses.{AtExit}
use contract.Lifetimes.{Lfts}
use borrow.Fn.World.{ArgsD, ResD}
use borrow.Fn.Kinds.{ended_of}
use Rattle.answers.specs.contracts.number.{signature as signature-number}
use Rattle.answers.proofs.number.Kinds as kinds-number
use Rattle.answers.proofs.number.Reads.{Post as Post-number}
use Rattle.answers.specs.contracts.need.{signature as signature-need}
use Rattle.answers.proofs.need.Kinds as kinds-need
use Rattle.answers.proofs.need.Reads.{Post as Post-need}
use Rattle.answers.specs.contracts.reported.{signature as signature-reported}
use Rattle.answers.proofs.reported.Kinds as kinds-reported
use Rattle.answers.proofs.reported.Reads.{Post as Post-reported}

pub one_number : (κs : Lfts 0) (a : ArgsD signature-number κs) (r r' : ResD signature-number κs) (s s' : AtExit (ended_of 0 kinds-number.ps kinds-number.r) κs)
    → Post-number κs a r s → Post-number κs a r' s' → r ≡ r'
one_number κs a r r' s s' p q = p ∙ sym q

pub one_need : (κs : Lfts 0) (a : ArgsD signature-need κs) (r r' : ResD signature-need κs) (s s' : AtExit (ended_of 0 kinds-need.ps kinds-need.r) κs)
    → Post-need κs a r s → Post-need κs a r' s' → r ≡ r'
one_need κs a r r' s s' p q = p ∙ sym q

pub one_reported : (κs : Lfts 0) (a : ArgsD signature-reported κs) (r r' : ResD signature-reported κs) (s s' : AtExit (ended_of 0 kinds-reported.ps kinds-reported.r) κs)
    → Post-reported κs a r s → Post-reported κs a r' s' → r ≡ r'
one_reported κs a r r' s s' p q = p ∙ sym q
