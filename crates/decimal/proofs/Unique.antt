-- Any two results that the contract of a public function allows are equal, with what the lent buffer then holds. Stated over the contracts' own readings.
-- Assumes nothing.
use mathlib.Core.Path.{◌≡◌, sym, ◌∙◌}
use denote.Triple.Clauses.{AtExit}
use contract.Lifetimes.{Lfts}
use borrow.Fn.World.{ArgsD, ResD}
use borrow.Fn.Kinds.{ended_of}
use Rattle.decimal.proofs.Reading.{number_unique}
use Rattle.decimal.proofs.Runs.{found_unique}
use Rattle.decimal.specs.contracts.read_number.{signature as signature-read-number}
use Rattle.decimal.proofs.read_number.Kinds as kinds-read-number
use Rattle.decimal.proofs.read_number.Reads.{Post as Post-read-number}
use Rattle.decimal.specs.contracts.number_at.{signature as signature-number-at}
use Rattle.decimal.proofs.number_at.Kinds as kinds-number-at
use Rattle.decimal.proofs.number_at.Reads.{Post as Post-number-at}
use Rattle.decimal.specs.contracts.number_length.{signature as signature-number-length}
use Rattle.decimal.proofs.number_length.Kinds as kinds-number-length
use Rattle.decimal.proofs.number_length.Reads.{Post as Post-number-length}
use Rattle.decimal.specs.contracts.put_number.{signature as signature-put-number}
use Rattle.decimal.proofs.put_number.Kinds as kinds-put-number
use Rattle.decimal.proofs.put_number.Reads.{Post as Post-put-number}

pub one_read_number : (κs : Lfts 1) (a : ArgsD signature-read-number κs) (r r' : ResD signature-read-number κs) (s s' : AtExit (ended_of 1 kinds-read-number.ps kinds-read-number.r) κs)
    → Post-read-number κs a r s → Post-read-number κs a r' s' → r ≡ r'
one_read_number κs a r r' s s' p q = number_unique a.0.now r r' p q

pub one_number_at : (κs : Lfts 1) (a : ArgsD signature-number-at κs) (r r' : ResD signature-number-at κs) (s s' : AtExit (ended_of 1 kinds-number-at.ps kinds-number-at.r) κs)
    → Post-number-at κs a r s → Post-number-at κs a r' s' → r ≡ r'
one_number_at κs a r r' s s' p q = found_unique a.0.now a.1.0 r r' p q

pub one_number_length : (κs : Lfts 0) (a : ArgsD signature-number-length κs) (r r' : ResD signature-number-length κs) (s s' : AtExit (ended_of 0 kinds-number-length.ps kinds-number-length.r) κs)
    → Post-number-length κs a r s → Post-number-length κs a r' s' → r ≡ r'
one_number_length κs a r r' s s' p q = p.0 ∙ sym q.0

pub one_put_number : (κs : Lfts 1) (a : ArgsD signature-put-number κs) (r r' : ResD signature-put-number κs) (s s' : AtExit (ended_of 1 kinds-put-number.ps kinds-put-number.r) κs)
    → Post-put-number κs a r s → Post-put-number κs a r' s' → (r ≡ r') × (s.1.0.now ≡ s'.1.0.now)
one_put_number κs a r r' s s' p q = (p.0 ∙ sym q.0, p.1 ∙ sym q.1)
