-- Any two results that the contract of a public function allows are equal, with what every lent buffer then holds. Stated over the contracts' own readings.
-- Assumes nothing.
use mathlib.Core.Path.{◌≡◌, sym, ◌∙◌}
use denote.Triple.Clauses.{AtExit}
use contract.Lifetimes.{Lfts}
use borrow.Fn.World.{ArgsD, ResD}
use borrow.Fn.Kinds.{ended_of}
use Rattle.cutting.specs.contracts.count.{signature as signature-count}
use Rattle.cutting.proofs.count.Kinds as kinds-count
use Rattle.cutting.proofs.count.Reads.{Post as Post-count}
use Rattle.cutting.specs.contracts.begin.{signature as signature-begin}
use Rattle.cutting.proofs.begin.Kinds as kinds-begin
use Rattle.cutting.proofs.begin.Reads.{Post as Post-begin}
use Rattle.cutting.specs.contracts.end.{signature as signature-end}
use Rattle.cutting.proofs.end.Kinds as kinds-end
use Rattle.cutting.proofs.end.Reads.{Post as Post-end}
use Rattle.cutting.specs.contracts.segment_ok.{signature as signature-segment-ok}
use Rattle.cutting.proofs.segment_ok.Kinds as kinds-segment-ok
use Rattle.cutting.proofs.segment_ok.Reads.{Post as Post-segment-ok}
use Rattle.cutting.specs.contracts.number.{signature as signature-number}
use Rattle.cutting.proofs.number.Kinds as kinds-number
use Rattle.cutting.proofs.number.Reads.{Post as Post-number}
use Rattle.cutting.specs.contracts.take_links.{signature as signature-take-links}
use Rattle.cutting.proofs.take_links.Kinds as kinds-take-links
use Rattle.cutting.proofs.take_links.Reads.{Post as Post-take-links}

pub one_count : (κs : Lfts 0) (a : ArgsD signature-count κs) (r r' : ResD signature-count κs) (s s' : AtExit (ended_of 0 kinds-count.ps kinds-count.r) κs)
    → Post-count κs a r s → Post-count κs a r' s' → r ≡ r'
one_count κs a r r' s s' p q = p ∙ sym q

pub one_begin : (κs : Lfts 0) (a : ArgsD signature-begin κs) (r r' : ResD signature-begin κs) (s s' : AtExit (ended_of 0 kinds-begin.ps kinds-begin.r) κs)
    → Post-begin κs a r s → Post-begin κs a r' s' → r ≡ r'
one_begin κs a r r' s s' p q = p ∙ sym q

pub one_end : (κs : Lfts 0) (a : ArgsD signature-end κs) (r r' : ResD signature-end κs) (s s' : AtExit (ended_of 0 kinds-end.ps kinds-end.r) κs)
    → Post-end κs a r s → Post-end κs a r' s' → r ≡ r'
one_end κs a r r' s s' p q = p ∙ sym q

pub one_segment_ok : (κs : Lfts 0) (a : ArgsD signature-segment-ok κs) (r r' : ResD signature-segment-ok κs) (s s' : AtExit (ended_of 0 kinds-segment-ok.ps kinds-segment-ok.r) κs)
    → Post-segment-ok κs a r s → Post-segment-ok κs a r' s' → r ≡ r'
one_segment_ok κs a r r' s s' p q = p ∙ sym q

pub one_number : (κs : Lfts 0) (a : ArgsD signature-number κs) (r r' : ResD signature-number κs) (s s' : AtExit (ended_of 0 kinds-number.ps kinds-number.r) κs)
    → Post-number κs a r s → Post-number κs a r' s' → r ≡ r'
one_number κs a r r' s s' p q = p ∙ sym q

pub one_take_links : (κs : Lfts 0) (a : ArgsD signature-take-links κs) (r r' : ResD signature-take-links κs) (s s' : AtExit (ended_of 0 kinds-take-links.ps kinds-take-links.r) κs)
    → Post-take-links κs a r s → Post-take-links κs a r' s' → r ≡ r'
one_take_links κs a r r' s s' p q = p ∙ sym q
