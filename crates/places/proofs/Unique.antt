-- Any two results that the contract of a public function allows are equal, with what every lent buffer then holds. Stated over the contracts' own readings.
-- Assumes nothing.
use mathlib.Core.Path.{◌≡◌, sym, ◌∙◌}
use denote.Triple.Clauses.{AtExit}
use contract.Lifetimes.{Lfts}
use borrow.Fn.World.{ArgsD, ResD}
use borrow.Fn.Kinds.{ended_of}
use Rattle.places.specs.contracts.closed_place.{signature as signature-closed-place}
use Rattle.places.proofs.closed_place.Kinds as kinds-closed-place
use Rattle.places.proofs.closed_place.Reads.{Post as Post-closed-place}
use Rattle.places.specs.contracts.fresh_place.{signature as signature-fresh-place}
use Rattle.places.proofs.fresh_place.Kinds as kinds-fresh-place
use Rattle.places.proofs.fresh_place.Reads.{Post as Post-fresh-place}
use Rattle.places.specs.contracts.rank.{signature as signature-rank}
use Rattle.places.proofs.rank.Kinds as kinds-rank
use Rattle.places.proofs.rank.Reads.{Post as Post-rank}
use Rattle.places.specs.contracts.ends.{signature as signature-ends}
use Rattle.places.proofs.ends.Kinds as kinds-ends
use Rattle.places.proofs.ends.Reads.{Post as Post-ends}
use Rattle.places.specs.contracts.exact.{signature as signature-exact}
use Rattle.places.proofs.exact.Kinds as kinds-exact
use Rattle.places.proofs.exact.Reads.{Post as Post-exact}
use Rattle.places.specs.contracts.start_answer.{signature as signature-start-answer}
use Rattle.places.proofs.start_answer.Kinds as kinds-start-answer
use Rattle.places.proofs.start_answer.Reads.{Post as Post-start-answer}
use Rattle.places.specs.contracts.piece_answer.{signature as signature-piece-answer}
use Rattle.places.proofs.piece_answer.Kinds as kinds-piece-answer
use Rattle.places.proofs.piece_answer.Reads.{Post as Post-piece-answer}
use Rattle.places.specs.contracts.close_answer.{signature as signature-close-answer}
use Rattle.places.proofs.close_answer.Kinds as kinds-close-answer
use Rattle.places.proofs.close_answer.Reads.{Post as Post-close-answer}
use Rattle.places.specs.contracts.after.{signature as signature-after}
use Rattle.places.proofs.after.Kinds as kinds-after
use Rattle.places.proofs.after.Reads.{Post as Post-after}
use Rattle.places.specs.contracts.front.front.{signature as signature-front-front}
use Rattle.places.proofs.front.front.Kinds as kinds-front-front
use Rattle.places.proofs.front.front.Reads.{Post as Post-front-front}

pub one_closed_place : (κs : Lfts 0) (a : ArgsD signature-closed-place κs) (r r' : ResD signature-closed-place κs) (s s' : AtExit (ended_of 0 kinds-closed-place.ps kinds-closed-place.r) κs)
    → Post-closed-place κs a r s → Post-closed-place κs a r' s' → r ≡ r'
one_closed_place κs a r r' s s' p q = p ∙ sym q

pub one_fresh_place : (κs : Lfts 0) (a : ArgsD signature-fresh-place κs) (r r' : ResD signature-fresh-place κs) (s s' : AtExit (ended_of 0 kinds-fresh-place.ps kinds-fresh-place.r) κs)
    → Post-fresh-place κs a r s → Post-fresh-place κs a r' s' → r ≡ r'
one_fresh_place κs a r r' s s' p q = p ∙ sym q

pub one_rank : (κs : Lfts 0) (a : ArgsD signature-rank κs) (r r' : ResD signature-rank κs) (s s' : AtExit (ended_of 0 kinds-rank.ps kinds-rank.r) κs)
    → Post-rank κs a r s → Post-rank κs a r' s' → r ≡ r'
one_rank κs a r r' s s' p q = p ∙ sym q

pub one_ends : (κs : Lfts 0) (a : ArgsD signature-ends κs) (r r' : ResD signature-ends κs) (s s' : AtExit (ended_of 0 kinds-ends.ps kinds-ends.r) κs)
    → Post-ends κs a r s → Post-ends κs a r' s' → r ≡ r'
one_ends κs a r r' s s' p q = p ∙ sym q

pub one_exact : (κs : Lfts 0) (a : ArgsD signature-exact κs) (r r' : ResD signature-exact κs) (s s' : AtExit (ended_of 0 kinds-exact.ps kinds-exact.r) κs)
    → Post-exact κs a r s → Post-exact κs a r' s' → r ≡ r'
one_exact κs a r r' s s' p q = p ∙ sym q

pub one_start_answer : (κs : Lfts 0) (a : ArgsD signature-start-answer κs) (r r' : ResD signature-start-answer κs) (s s' : AtExit (ended_of 0 kinds-start-answer.ps kinds-start-answer.r) κs)
    → Post-start-answer κs a r s → Post-start-answer κs a r' s' → r ≡ r'
one_start_answer κs a r r' s s' p q = p ∙ sym q

pub one_piece_answer : (κs : Lfts 0) (a : ArgsD signature-piece-answer κs) (r r' : ResD signature-piece-answer κs) (s s' : AtExit (ended_of 0 kinds-piece-answer.ps kinds-piece-answer.r) κs)
    → Post-piece-answer κs a r s → Post-piece-answer κs a r' s' → r ≡ r'
one_piece_answer κs a r r' s s' p q = p ∙ sym q

pub one_close_answer : (κs : Lfts 0) (a : ArgsD signature-close-answer κs) (r r' : ResD signature-close-answer κs) (s s' : AtExit (ended_of 0 kinds-close-answer.ps kinds-close-answer.r) κs)
    → Post-close-answer κs a r s → Post-close-answer κs a r' s' → r ≡ r'
one_close_answer κs a r r' s s' p q = p ∙ sym q

pub one_after : (κs : Lfts 0) (a : ArgsD signature-after κs) (r r' : ResD signature-after κs) (s s' : AtExit (ended_of 0 kinds-after.ps kinds-after.r) κs)
    → Post-after κs a r s → Post-after κs a r' s' → r ≡ r'
one_after κs a r r' s s' p q = p ∙ sym q

pub one_front : (κs : Lfts 0) (a : ArgsD signature-front-front κs) (r r' : ResD signature-front-front κs) (s s' : AtExit (ended_of 0 kinds-front-front.ps kinds-front-front.r) κs)
    → Post-front-front κs a r s → Post-front-front κs a r' s' → r ≡ r'
one_front κs a r r' s s' p q = p ∙ sym q
