-- Any two results that the contract of a public function allows are equal, with what the lent buffer then holds. Stated over the contracts' own readings.
-- Assumes nothing.
use mathlib.Core.Path.{◌≡◌, sym, ◌∙◌}
use denote.Triple.Clauses.{AtExit}
use contract.Lifetimes.{Lfts}
use borrow.Fn.World.{ArgsD, ResD}
use borrow.Fn.Kinds.{ended_of}
use Rattle.lists.proofs.Exact.{read_once}
use Rattle.lists.specs.contracts.list_length.{signature as signature-list-length}
use Rattle.lists.proofs.list_length.Kinds as kinds-list-length
use Rattle.lists.proofs.list_length.Reads.{Post as Post-list-length}
use Rattle.lists.specs.contracts.write_list.{signature as signature-write-list}
use Rattle.lists.proofs.write_list.Kinds as kinds-write-list
use Rattle.lists.proofs.write_list.Reads.{Post as Post-write-list}
use Rattle.lists.specs.contracts.read_list.{signature as signature-read-list}
use Rattle.lists.proofs.read_list.Kinds as kinds-read-list
use Rattle.lists.proofs.read_list.Reads.{Post as Post-read-list}

pub one_list_length : (κs : Lfts 0) (a : ArgsD signature-list-length κs) (r r' : ResD signature-list-length κs) (s s' : AtExit (ended_of 0 kinds-list-length.ps kinds-list-length.r) κs)
    → Post-list-length κs a r s → Post-list-length κs a r' s' → r ≡ r'
one_list_length κs a r r' s s' p q = p ∙ sym q

pub one_write_list : (κs : Lfts 1) (a : ArgsD signature-write-list κs) (r r' : ResD signature-write-list κs) (s s' : AtExit (ended_of 1 kinds-write-list.ps kinds-write-list.r) κs)
    → Post-write-list κs a r s → Post-write-list κs a r' s' → (r ≡ r') × (s.1.1.1.0.now ≡ s'.1.1.1.0.now)
one_write_list κs a r r' s s' p q = (p.0 ∙ sym q.0, p.1 ∙ sym q.1)

pub one_read_list : (κs : Lfts 1) (a : ArgsD signature-read-list κs) (r r' : ResD signature-read-list κs) (s s' : AtExit (ended_of 1 kinds-read-list.ps kinds-read-list.r) κs)
    → Post-read-list κs a r s → Post-read-list κs a r' s' → r ≡ r'
one_read_list κs a r r' s s' p q = read_once a.0.now r r' p q
