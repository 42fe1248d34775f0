-- Any two results that the contract of a public function allows are equal, with what every lent buffer then holds. Stated over the contracts' own readings.
-- Assumes nothing.
use mathlib.Core.Path.{◌≡◌, sym, ◌∙◌}
use denote.Triple.Clauses.{AtExit}
use contract.Lifetimes.{Lfts}
use borrow.Fn.World.{ArgsD, ResD}
use borrow.Fn.Kinds.{ended_of}
use Rattle.dispatch.specs.contracts.make.{signature as signature-make}
use Rattle.dispatch.proofs.make.Kinds as kinds-make
use Rattle.dispatch.proofs.make.Reads.{Post as Post-make}
use Rattle.dispatch.specs.contracts.put.{signature as signature-put}
use Rattle.dispatch.proofs.put.Kinds as kinds-put
use Rattle.dispatch.proofs.put.Reads.{Post as Post-put}
use Rattle.dispatch.specs.contracts.constant.{signature as signature-constant}
use Rattle.dispatch.proofs.constant.Kinds as kinds-constant
use Rattle.dispatch.proofs.constant.Reads.{Post as Post-constant}
use Rattle.dispatch.specs.contracts.is_call.{signature as signature-is-call}
use Rattle.dispatch.proofs.is_call.Kinds as kinds-is-call
use Rattle.dispatch.proofs.is_call.Reads.{Post as Post-is-call}
use Rattle.dispatch.specs.contracts.jobs.segment.{signature as signature-segment}
use Rattle.dispatch.proofs.jobs.segment.Kinds as kinds-segment
use Rattle.dispatch.proofs.jobs.segment.Reads.{Post as Post-segment}
use Rattle.dispatch.specs.contracts.jobs.receiver.{signature as signature-receiver}
use Rattle.dispatch.proofs.jobs.receiver.Kinds as kinds-receiver
use Rattle.dispatch.proofs.jobs.receiver.Reads.{Post as Post-receiver}
use Rattle.dispatch.specs.contracts.jobs.take.{signature as signature-take}
use Rattle.dispatch.proofs.jobs.take.Kinds as kinds-take
use Rattle.dispatch.proofs.jobs.take.Reads.{Post as Post-take}
use Rattle.dispatch.specs.contracts.jobs.put.{signature as signature-put-receiver}
use Rattle.dispatch.proofs.jobs.put.Kinds as kinds-put-receiver
use Rattle.dispatch.proofs.jobs.put.Reads.{Post as Post-put-receiver}
use Rattle.dispatch.specs.contracts.jobs.list.{signature as signature-list}
use Rattle.dispatch.proofs.jobs.list.Kinds as kinds-list
use Rattle.dispatch.proofs.jobs.list.Reads.{Post as Post-list}
use Rattle.dispatch.specs.contracts.kept.call.{signature as signature-call}
use Rattle.dispatch.proofs.kept.call.Kinds as kinds-call
use Rattle.dispatch.proofs.kept.call.Reads.{Post as Post-call}

pub one_make : (κs : Lfts 2) (a : ArgsD signature-make κs) (r r' : ResD signature-make κs) (s s' : AtExit (ended_of 2 kinds-make.ps kinds-make.r) κs)
    → Post-make κs a r s → Post-make κs a r' s' → (r ≡ r') × (s.1.1.1.1.0.now ≡ s'.1.1.1.1.0.now)
one_make κs a r r' s s' p q = (p.0 ∙ sym q.0, p.1 ∙ sym q.1)

pub one_put : (κs : Lfts 0) (a : ArgsD signature-put κs) (r r' : ResD signature-put κs) (s s' : AtExit (ended_of 0 kinds-put.ps kinds-put.r) κs)
    → Post-put κs a r s → Post-put κs a r' s' → r ≡ r'
one_put κs a r r' s s' p q = p ∙ sym q

pub one_constant : (κs : Lfts 0) (a : ArgsD signature-constant κs) (r r' : ResD signature-constant κs) (s s' : AtExit (ended_of 0 kinds-constant.ps kinds-constant.r) κs)
    → Post-constant κs a r s → Post-constant κs a r' s' → r ≡ r'
one_constant κs a r r' s s' p q = p ∙ sym q

pub one_is_call : (κs : Lfts 0) (a : ArgsD signature-is-call κs) (r r' : ResD signature-is-call κs) (s s' : AtExit (ended_of 0 kinds-is-call.ps kinds-is-call.r) κs)
    → Post-is-call κs a r s → Post-is-call κs a r' s' → r ≡ r'
one_is_call κs a r r' s s' p q = p ∙ sym q

pub one_segment : (κs : Lfts 2) (a : ArgsD signature-segment κs) (r r' : ResD signature-segment κs) (s s' : AtExit (ended_of 2 kinds-segment.ps kinds-segment.r) κs)
    → Post-segment κs a r s → Post-segment κs a r' s' → (r ≡ r') × (s.1.1.0.now ≡ s'.1.1.0.now)
one_segment κs a r r' s s' p q = (p.0 ∙ sym q.0, p.1 ∙ sym q.1)

pub one_receiver : (κs : Lfts 1) (a : ArgsD signature-receiver κs) (r r' : ResD signature-receiver κs) (s s' : AtExit (ended_of 1 kinds-receiver.ps kinds-receiver.r) κs)
    → Post-receiver κs a r s → Post-receiver κs a r' s' → r ≡ r'
one_receiver κs a r r' s s' p q = p ∙ sym q

pub one_take : (κs : Lfts 2) (a : ArgsD signature-take κs) (r r' : ResD signature-take κs) (s s' : AtExit (ended_of 2 kinds-take.ps kinds-take.r) κs)
    → Post-take κs a r s → Post-take κs a r' s' → (r ≡ r') × (s.1.1.1.0.now ≡ s'.1.1.1.0.now)
one_take κs a r r' s s' p q = (p.0 ∙ sym q.0, p.1 ∙ sym q.1)

pub one_put_receiver : (κs : Lfts 0) (a : ArgsD signature-put-receiver κs) (r r' : ResD signature-put-receiver κs) (s s' : AtExit (ended_of 0 kinds-put-receiver.ps kinds-put-receiver.r) κs)
    → Post-put-receiver κs a r s → Post-put-receiver κs a r' s' → r ≡ r'
one_put_receiver κs a r r' s s' p q = p ∙ sym q

pub one_list : (κs : Lfts 1) (a : ArgsD signature-list κs) (r r' : ResD signature-list κs) (s s' : AtExit (ended_of 1 kinds-list.ps kinds-list.r) κs)
    → Post-list κs a r s → Post-list κs a r' s' → (r ≡ r') × (s.1.0.now ≡ s'.1.0.now)
one_list κs a r r' s s' p q = (p.0 ∙ sym q.0, p.1 ∙ sym q.1)

pub one_call : (κs : Lfts 2) (a : ArgsD signature-call κs) (r r' : ResD signature-call κs) (s s' : AtExit (ended_of 2 kinds-call.ps kinds-call.r) κs)
    → Post-call κs a r s → Post-call κs a r' s' → (r ≡ r') × (s.1.1.1.1.0.now ≡ s'.1.1.1.1.0.now)
one_call κs a r r' s s' p q = (p.0 ∙ sym q.0, p.1 ∙ sym q.1)
