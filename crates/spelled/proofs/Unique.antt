-- Any two results that the contract of a public function allows are equal, with what the lent buffer then holds. Stated over the contracts' own readings.
-- Assumes nothing.
use mathlib.Core.Path.{◌≡◌, sym, ◌∙◌}
use denote.Triple.Clauses.{AtExit}
use contract.Lifetimes.{Lfts}
use borrow.Fn.World.{ArgsD, ResD}
use borrow.Fn.Kinds.{ended_of}
use Rattle.spelled.proofs.Spells.{read_unique}
use Rattle.spelled.specs.contracts.read_bytes.{signature as signature-read-bytes}
use Rattle.spelled.proofs.read_bytes.Kinds as kinds-read-bytes
use Rattle.spelled.proofs.read_bytes.Reads.{Post as Post-read-bytes}
use Rattle.spelled.specs.contracts.write_bytes.{signature as signature-write-bytes}
use Rattle.spelled.proofs.write_bytes.Kinds as kinds-write-bytes
use Rattle.spelled.proofs.write_bytes.Reads.{Post as Post-write-bytes}

pub one_read_bytes : (κs : Lfts 2) (a : ArgsD signature-read-bytes κs) (r r' : ResD signature-read-bytes κs) (s s' : AtExit (ended_of 2 kinds-read-bytes.ps kinds-read-bytes.r) κs)
    → Post-read-bytes κs a r s → Post-read-bytes κs a r' s' → (r ≡ r') × (s.1.0.now ≡ s'.1.0.now)
one_read_bytes κs a r r' s s' p q = read_unique a.0.now a.1.0.now s.1.0.now s'.1.0.now r r' p q

pub one_write_bytes : (κs : Lfts 2) (a : ArgsD signature-write-bytes κs) (r r' : ResD signature-write-bytes κs) (s s' : AtExit (ended_of 2 kinds-write-bytes.ps kinds-write-bytes.r) κs)
    → Post-write-bytes κs a r s → Post-write-bytes κs a r' s' → (r ≡ r') × (s.1.0.now ≡ s'.1.0.now)
one_write_bytes κs a r r' s s' p q = (p.0 ∙ sym q.0, p.1 ∙ sym q.1)
