-- Any two results that the contract of an exported function allows are equal, with what every lent buffer then holds: the contract is that of jeczmilot's function, and so is the theorem.
-- Assumes nothing.
use mathlib.Core.Path.{◌≡◌}
use denote.Triple.Clauses.{AtExit}
use contract.Lifetimes.{Lfts}
use borrow.Fn.World.{ArgsD, ResD}
use borrow.Fn.Kinds.{ended_of}
use Rattle.jeczmilot.proofs.Unique as jeczmilot
use Rattle.jeczmilot_c.specs.contracts.norx_seal.{signature as signature-norx-seal}
use Rattle.jeczmilot_c.proofs.norx_seal.Kinds as kinds-norx-seal
use Rattle.jeczmilot_c.proofs.norx_seal.Reads.{Post as Post-norx-seal}
use Rattle.jeczmilot_c.specs.contracts.norx_open.{signature as signature-norx-open}
use Rattle.jeczmilot_c.proofs.norx_open.Kinds as kinds-norx-open
use Rattle.jeczmilot_c.proofs.norx_open.Reads.{Post as Post-norx-open}
use Rattle.jeczmilot_c.specs.contracts.norx_segment_seal.{signature as signature-norx-segment-seal}
use Rattle.jeczmilot_c.proofs.norx_segment_seal.Kinds as kinds-norx-segment-seal
use Rattle.jeczmilot_c.proofs.norx_segment_seal.Reads.{Post as Post-norx-segment-seal}
use Rattle.jeczmilot_c.specs.contracts.norx_segment_open.{signature as signature-norx-segment-open}
use Rattle.jeczmilot_c.proofs.norx_segment_open.Kinds as kinds-norx-segment-open
use Rattle.jeczmilot_c.proofs.norx_segment_open.Reads.{Post as Post-norx-segment-open}
use Rattle.jeczmilot_c.specs.contracts.norx_list_length.{signature as signature-norx-list-length}
use Rattle.jeczmilot_c.proofs.norx_list_length.Kinds as kinds-norx-list-length
use Rattle.jeczmilot_c.proofs.norx_list_length.Reads.{Post as Post-norx-list-length}
use Rattle.jeczmilot_c.specs.contracts.norx_list_write.{signature as signature-norx-list-write}
use Rattle.jeczmilot_c.proofs.norx_list_write.Kinds as kinds-norx-list-write
use Rattle.jeczmilot_c.proofs.norx_list_write.Reads.{Post as Post-norx-list-write}
use Rattle.jeczmilot_c.specs.contracts.norx_list_read.{signature as signature-norx-list-read}
use Rattle.jeczmilot_c.proofs.norx_list_read.Kinds as kinds-norx-list-read
use Rattle.jeczmilot_c.proofs.norx_list_read.Reads.{Post as Post-norx-list-read}

pub one_norx_seal : (κs : Lfts 6) (a : ArgsD signature-norx-seal κs) (r r' : ResD signature-norx-seal κs) (s s' : AtExit (ended_of 6 kinds-norx-seal.ps kinds-norx-seal.r) κs)
    → Post-norx-seal κs a r s → Post-norx-seal κs a r' s' → (r ≡ r') × (s.1.1.1.1.1.1.1.0.now ≡ s'.1.1.1.1.1.1.1.0.now)
one_norx_seal = jeczmilot.one_norx_seal

pub one_norx_open : (κs : Lfts 6) (a : ArgsD signature-norx-open κs) (r r' : ResD signature-norx-open κs) (s s' : AtExit (ended_of 6 kinds-norx-open.ps kinds-norx-open.r) κs)
    → Post-norx-open κs a r s → Post-norx-open κs a r' s' → (r ≡ r') × (s.1.1.1.1.1.1.1.0.now ≡ s'.1.1.1.1.1.1.1.0.now)
one_norx_open = jeczmilot.one_norx_open

pub one_norx_segment_seal : (κs : Lfts 5) (a : ArgsD signature-norx-segment-seal κs) (r r' : ResD signature-norx-segment-seal κs) (s s' : AtExit (ended_of 5 kinds-norx-segment-seal.ps kinds-norx-segment-seal.r) κs)
    → Post-norx-segment-seal κs a r s → Post-norx-segment-seal κs a r' s' → (r ≡ r') × (s.1.1.1.1.1.1.1.1.1.1.0.now ≡ s'.1.1.1.1.1.1.1.1.1.1.0.now)
one_norx_segment_seal = jeczmilot.one_norx_segment_seal

pub one_norx_segment_open : (κs : Lfts 5) (a : ArgsD signature-norx-segment-open κs) (r r' : ResD signature-norx-segment-open κs) (s s' : AtExit (ended_of 5 kinds-norx-segment-open.ps kinds-norx-segment-open.r) κs)
    → Post-norx-segment-open κs a r s → Post-norx-segment-open κs a r' s' → (r ≡ r') × (s.1.1.1.1.1.1.1.1.1.1.1.0.now ≡ s'.1.1.1.1.1.1.1.1.1.1.1.0.now)
one_norx_segment_open = jeczmilot.one_norx_segment_open

pub one_norx_list_length : (κs : Lfts 0) (a : ArgsD signature-norx-list-length κs) (r r' : ResD signature-norx-list-length κs) (s s' : AtExit (ended_of 0 kinds-norx-list-length.ps kinds-norx-list-length.r) κs)
    → Post-norx-list-length κs a r s → Post-norx-list-length κs a r' s' → r ≡ r'
one_norx_list_length = jeczmilot.one_norx_list_length

pub one_norx_list_write : (κs : Lfts 1) (a : ArgsD signature-norx-list-write κs) (r r' : ResD signature-norx-list-write κs) (s s' : AtExit (ended_of 1 kinds-norx-list-write.ps kinds-norx-list-write.r) κs)
    → Post-norx-list-write κs a r s → Post-norx-list-write κs a r' s' → (r ≡ r') × (s.1.1.1.0.now ≡ s'.1.1.1.0.now)
one_norx_list_write = jeczmilot.one_norx_list_write

pub one_norx_list_read : (κs : Lfts 1) (a : ArgsD signature-norx-list-read κs) (r r' : ResD signature-norx-list-read κs) (s s' : AtExit (ended_of 1 kinds-norx-list-read.ps kinds-norx-list-read.r) κs)
    → Post-norx-list-read κs a r s → Post-norx-list-read κs a r' s' → r ≡ r'
one_norx_list_read = jeczmilot.one_norx_list_read
