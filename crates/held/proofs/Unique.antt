-- Any two results that the contract of a public function allows are equal, with what every lent buffer then holds. Stated over the contracts' own readings.
-- Assumes nothing.
use mathlib.Core.Path.{◌≡◌, sym, ◌∙◌}
use denote.Triple.Clauses.{AtExit}
use contract.Lifetimes.{Lfts}
use borrow.Fn.World.{ArgsD, ResD}
use borrow.Fn.Kinds.{ended_of}
use mir.Syntax.{Dict}
use denote.RattleType.{RattleType}
use denote.Param.Laws.{Laws, IsCopy}
use Rattle.std.specs.declared.clone.Clone as Clone
use Rattle.words.specs.declared.word.Word as Word
use Rattle.held.specs.contracts.Held.closed.{signature as signature-closed}
use Rattle.held.proofs.Held.closed.Kinds as kinds-closed
use Rattle.held.proofs.Held.closed.Reads.{Post as Post-closed}
use Rattle.held.specs.contracts.Held.start.{signature as signature-start}
use Rattle.held.proofs.Held.start.Kinds as kinds-start
use Rattle.held.proofs.Held.start.Reads.{Post as Post-start}
use Rattle.held.specs.contracts.Held.piece.{signature as signature-piece}
use Rattle.held.proofs.Held.piece.Kinds as kinds-piece
use Rattle.held.proofs.Held.piece.Reads.{Post as Post-piece}
use Rattle.held.specs.contracts.Held.close.{signature as signature-close}
use Rattle.held.proofs.Held.close.Kinds as kinds-close
use Rattle.held.proofs.Held.close.Reads.{Post as Post-close}
use Rattle.held.specs.contracts.Held.word.{signature as signature-word}
use Rattle.held.proofs.Held.word.Kinds as kinds-word
use Rattle.held.proofs.Held.word.Reads.{Post as Post-word}
use Rattle.held.specs.contracts.receiver.HeldReceiver.none.{signature as signature-receiver-none}
use Rattle.held.proofs.receiver.HeldReceiver.none.Kinds as kinds-receiver-none
use Rattle.held.proofs.receiver.HeldReceiver.none.Reads.{Post as Post-receiver-none}
use Rattle.held.specs.contracts.receiver.HeldReceiver.start.{signature as signature-receiver-start}
use Rattle.held.proofs.receiver.HeldReceiver.start.Kinds as kinds-receiver-start
use Rattle.held.proofs.receiver.HeldReceiver.start.Reads.{Post as Post-receiver-start}
use Rattle.held.specs.contracts.receiver.HeldReceiver.take.{signature as signature-receiver-take}
use Rattle.held.proofs.receiver.HeldReceiver.take.Kinds as kinds-receiver-take
use Rattle.held.proofs.receiver.HeldReceiver.take.Reads.{Post as Post-receiver-take}
use Rattle.held.specs.contracts.receiver.HeldReceiver.waiting.{signature as signature-receiver-waiting}
use Rattle.held.proofs.receiver.HeldReceiver.waiting.Kinds as kinds-receiver-waiting
use Rattle.held.proofs.receiver.HeldReceiver.waiting.Reads.{Post as Post-receiver-waiting}
use Rattle.held.specs.contracts.receiver.HeldReceiver.put.{signature as signature-receiver-put}
use Rattle.held.proofs.receiver.HeldReceiver.put.Kinds as kinds-receiver-put
use Rattle.held.proofs.receiver.HeldReceiver.put.Reads.{Post as Post-receiver-put}
use Rattle.held.specs.contracts.Held.checks.{signature as signature-checks}
use Rattle.held.proofs.Held.checks.Kinds as kinds-checks
use Rattle.held.proofs.Held.checks.Reads.{Post as Post-checks}
use Rattle.held.specs.contracts.Held.put.{signature as signature-put}
use Rattle.held.proofs.Held.put.Kinds as kinds-put
use Rattle.held.proofs.Held.put.Reads.{Post as Post-put}
use Rattle.held.specs.contracts.Held.is_wide.{signature as signature-is-wide}
use Rattle.held.proofs.Held.is_wide.Kinds as kinds-is-wide
use Rattle.held.proofs.Held.is_wide.Reads.{Post as Post-is-wide}
use Rattle.held.specs.contracts.Held.place.{signature as signature-place}
use Rattle.held.proofs.Held.place.Kinds as kinds-place
use Rattle.held.proofs.Held.place.Reads.{Post as Post-place}
use Rattle.held.specs.contracts.at.HeldAt.closed.{signature as signature-at-closed}
use Rattle.held.proofs.at.HeldAt.closed.Kinds as kinds-at-closed
use Rattle.held.proofs.at.HeldAt.closed.Reads.{Post as Post-at-closed}
use Rattle.held.specs.contracts.at.HeldAt.start.{signature as signature-at-start}
use Rattle.held.proofs.at.HeldAt.start.Kinds as kinds-at-start
use Rattle.held.proofs.at.HeldAt.start.Reads.{Post as Post-at-start}
use Rattle.held.specs.contracts.at.HeldAt.piece.{signature as signature-at-piece}
use Rattle.held.proofs.at.HeldAt.piece.Kinds as kinds-at-piece
use Rattle.held.proofs.at.HeldAt.piece.Reads.{Post as Post-at-piece}
use Rattle.held.specs.contracts.at.HeldAt.close.{signature as signature-at-close}
use Rattle.held.proofs.at.HeldAt.close.Kinds as kinds-at-close
use Rattle.held.proofs.at.HeldAt.close.Reads.{Post as Post-at-close}
use Rattle.held.specs.contracts.at.HeldAt.checks.{signature as signature-at-checks}
use Rattle.held.proofs.at.HeldAt.checks.Kinds as kinds-at-checks
use Rattle.held.proofs.at.HeldAt.checks.Reads.{Post as Post-at-checks}
use Rattle.held.specs.contracts.at.HeldAt.session.{signature as signature-at-session}
use Rattle.held.proofs.at.HeldAt.session.Kinds as kinds-at-session
use Rattle.held.proofs.at.HeldAt.session.Reads.{Post as Post-at-session}
use Rattle.held.specs.contracts.at.HeldAt.put.{signature as signature-at-put}
use Rattle.held.proofs.at.HeldAt.put.Kinds as kinds-at-put
use Rattle.held.proofs.at.HeldAt.put.Reads.{Post as Post-at-put}
use Rattle.held.specs.contracts.at.HeldAt.word.{signature as signature-at-word}
use Rattle.held.proofs.at.HeldAt.word.Kinds as kinds-at-word
use Rattle.held.proofs.at.HeldAt.word.Reads.{Post as Post-at-word}

pub one_closed : (κs : Lfts 0) (a : ArgsD signature-closed κs) (r r' : ResD signature-closed κs) (s s' : AtExit (ended_of 0 kinds-closed.ps kinds-closed.r) κs)
    → Post-closed κs a r s → Post-closed κs a r' s' → r ≡ r'
one_closed κs a r r' s s' p q = p ∙ sym q

pub one_start : (κs : Lfts 2) (a : ArgsD signature-start κs) (r r' : ResD signature-start κs) (s s' : AtExit (ended_of 2 kinds-start.ps kinds-start.r) κs)
    → Post-start κs a r s → Post-start κs a r' s' → r ≡ r'
one_start κs a r r' s s' p q = p ∙ sym q

pub one_piece : (κs : Lfts 3) (a : ArgsD signature-piece κs) (r r' : ResD signature-piece κs) (s s' : AtExit (ended_of 3 kinds-piece.ps kinds-piece.r) κs)
    → Post-piece κs a r s → Post-piece κs a r' s' → (r ≡ r') × (s.1.1.1.0.now ≡ s'.1.1.1.0.now)
one_piece κs a r r' s s' p q = (p.0 ∙ sym q.0, p.1 ∙ sym q.1)

pub one_close : (κs : Lfts 3) (a : ArgsD signature-close κs) (r r' : ResD signature-close κs) (s s' : AtExit (ended_of 3 kinds-close.ps kinds-close.r) κs)
    → Post-close κs a r s → Post-close κs a r' s' → (r ≡ r') × (s.1.1.1.0.now ≡ s'.1.1.1.0.now)
one_close κs a r r' s s' p q = (p.0 ∙ sym q.0, p.1 ∙ sym q.1)

pub one_word : (κs : Lfts 1) (a : ArgsD signature-word κs) (r r' : ResD signature-word κs) (s s' : AtExit (ended_of 1 kinds-word.ps kinds-word.r) κs)
    → Post-word κs a r s → Post-word κs a r' s' → r ≡ r'
one_word κs a r r' s s' p q = p ∙ sym q

pub one_receiver_none : (κs : Lfts 0) (a : ArgsD signature-receiver-none κs) (r r' : ResD signature-receiver-none κs) (s s' : AtExit (ended_of 0 kinds-receiver-none.ps kinds-receiver-none.r) κs)
    → Post-receiver-none κs a r s → Post-receiver-none κs a r' s' → r ≡ r'
one_receiver_none κs a r r' s s' p q = p ∙ sym q

pub one_receiver_start : (κs : Lfts 2) (a : ArgsD signature-receiver-start κs) (r r' : ResD signature-receiver-start κs) (s s' : AtExit (ended_of 2 kinds-receiver-start.ps kinds-receiver-start.r) κs)
    → Post-receiver-start κs a r s → Post-receiver-start κs a r' s' → r ≡ r'
one_receiver_start κs a r r' s s' p q = p ∙ sym q

pub one_receiver_take : (κs : Lfts 4) (a : ArgsD signature-receiver-take κs) (r r' : ResD signature-receiver-take κs) (s s' : AtExit (ended_of 4 kinds-receiver-take.ps kinds-receiver-take.r) κs)
    → Post-receiver-take κs a r s → Post-receiver-take κs a r' s' → (r ≡ r') × (s.1.1.1.1.0.now ≡ s'.1.1.1.1.0.now)
one_receiver_take κs a r r' s s' p q = (p.0 ∙ sym q.0, p.1 ∙ sym q.1)

pub one_receiver_waiting : (κs : Lfts 1) (a : ArgsD signature-receiver-waiting κs) (r r' : ResD signature-receiver-waiting κs) (s s' : AtExit (ended_of 1 kinds-receiver-waiting.ps kinds-receiver-waiting.r) κs)
    → Post-receiver-waiting κs a r s → Post-receiver-waiting κs a r' s' → r ≡ r'
one_receiver_waiting κs a r r' s s' p q = p ∙ sym q

pub one_receiver_put : (κs : Lfts 1) (a : ArgsD signature-receiver-put κs) (r r' : ResD signature-receiver-put κs) (s s' : AtExit (ended_of 1 kinds-receiver-put.ps kinds-receiver-put.r) κs)
    → Post-receiver-put κs a r s → Post-receiver-put κs a r' s' → r ≡ r'
one_receiver_put κs a r r' s s' p q = p ∙ sym q

pub one_checks : (κs : Lfts 1) (a : ArgsD signature-checks κs) (r r' : ResD signature-checks κs) (s s' : AtExit (ended_of 1 kinds-checks.ps kinds-checks.r) κs)
    → Post-checks κs a r s → Post-checks κs a r' s' → r ≡ r'
one_checks κs a r r' s s' p q = p ∙ sym q

pub one_put : (κs : Lfts 1) (a : ArgsD signature-put κs) (r r' : ResD signature-put κs) (s s' : AtExit (ended_of 1 kinds-put.ps kinds-put.r) κs)
    → Post-put κs a r s → Post-put κs a r' s' → r ≡ r'
one_put κs a r r' s s' p q = p ∙ sym q

pub one_is_wide : (κs : Lfts 1) (a : ArgsD signature-is-wide κs) (r r' : ResD signature-is-wide κs) (s s' : AtExit (ended_of 1 kinds-is-wide.ps kinds-is-wide.r) κs)
    → Post-is-wide κs a r s → Post-is-wide κs a r' s' → r ≡ r'
one_is_wide κs a r r' s s' p q = p ∙ sym q

pub one_place : (κs : Lfts 1) (a : ArgsD signature-place κs) (r r' : ResD signature-place κs) (s s' : AtExit (ended_of 1 kinds-place.ps kinds-place.r) κs)
    → Post-place κs a r s → Post-place κs a r' s' → r ≡ r'
one_place κs a r r' s s' p q = p ∙ sym q

module _ (W : RattleType) (L : Laws W) (C : IsCopy W) (word : Word.Ghosts W.Denot) (i : Dict) (clone : Clone.Ghosts W.Denot) (j : Dict) where
  pub one_closed_at : (κs : Lfts 1) (a : ArgsD (signature-at-closed W word i clone j) κs) (r r' : ResD (signature-at-closed W word i clone j) κs)
      (s s' : AtExit (ended_of 1 (kinds-at-closed.ps W L C word i clone j) (kinds-at-closed.r W L C word i clone j)) κs)
      → Post-at-closed W L C word i clone j κs a r s → Post-at-closed W L C word i clone j κs a r' s' → r ≡ r'
  one_closed_at κs a r r' s s' p q = p ∙ sym q

  pub one_start_at : (κs : Lfts 3) (a : ArgsD (signature-at-start W word i clone j) κs) (r r' : ResD (signature-at-start W word i clone j) κs)
      (s s' : AtExit (ended_of 3 (kinds-at-start.ps W L C word i clone j) (kinds-at-start.r W L C word i clone j)) κs)
      → Post-at-start W L C word i clone j κs a r s → Post-at-start W L C word i clone j κs a r' s' → r ≡ r'
  one_start_at κs a r r' s s' p q = p ∙ sym q

  pub one_piece_at : (κs : Lfts 4) (a : ArgsD (signature-at-piece W word i clone j) κs) (r r' : ResD (signature-at-piece W word i clone j) κs)
      (s s' : AtExit (ended_of 4 (kinds-at-piece.ps W L C word i clone j) (kinds-at-piece.r W L C word i clone j)) κs)
      → Post-at-piece W L C word i clone j κs a r s → Post-at-piece W L C word i clone j κs a r' s' → (r ≡ r') × (s.1.1.1.0.now ≡ s'.1.1.1.0.now)
  one_piece_at κs a r r' s s' p q = (p.0 ∙ sym q.0, p.1 ∙ sym q.1)

  pub one_close_at : (κs : Lfts 4) (a : ArgsD (signature-at-close W word i clone j) κs) (r r' : ResD (signature-at-close W word i clone j) κs)
      (s s' : AtExit (ended_of 4 (kinds-at-close.ps W L C word i clone j) (kinds-at-close.r W L C word i clone j)) κs)
      → Post-at-close W L C word i clone j κs a r s → Post-at-close W L C word i clone j κs a r' s' → (r ≡ r') × (s.1.1.1.0.now ≡ s'.1.1.1.0.now)
  one_close_at κs a r r' s s' p q = (p.0 ∙ sym q.0, p.1 ∙ sym q.1)

  pub one_checks_at : (κs : Lfts 2) (a : ArgsD (signature-at-checks W word i clone j) κs) (r r' : ResD (signature-at-checks W word i clone j) κs)
      (s s' : AtExit (ended_of 2 (kinds-at-checks.ps W L C word i clone j) (kinds-at-checks.r W L C word i clone j)) κs)
      → Post-at-checks W L C word i clone j κs a r s → Post-at-checks W L C word i clone j κs a r' s' → r ≡ r'
  one_checks_at κs a r r' s s' p q = p ∙ sym q

  pub one_session_at : (κs : Lfts 2) (a : ArgsD (signature-at-session W word i clone j) κs) (r r' : ResD (signature-at-session W word i clone j) κs)
      (s s' : AtExit (ended_of 2 (kinds-at-session.ps W L C word i clone j) (kinds-at-session.r W L C word i clone j)) κs)
      → Post-at-session W L C word i clone j κs a r s → Post-at-session W L C word i clone j κs a r' s' → r ≡ r'
  one_session_at κs a r r' s s' p q = p ∙ sym q

  pub one_put_at : (κs : Lfts 2) (a : ArgsD (signature-at-put W word i clone j) κs) (r r' : ResD (signature-at-put W word i clone j) κs)
      (s s' : AtExit (ended_of 2 (kinds-at-put.ps W L C word i clone j) (kinds-at-put.r W L C word i clone j)) κs)
      → Post-at-put W L C word i clone j κs a r s → Post-at-put W L C word i clone j κs a r' s' → r ≡ r'
  one_put_at κs a r r' s s' p q = p ∙ sym q

  pub one_word_at : (κs : Lfts 2) (a : ArgsD (signature-at-word W word i clone j) κs) (r r' : ResD (signature-at-word W word i clone j) κs)
      (s s' : AtExit (ended_of 2 (kinds-at-word.ps W L C word i clone j) (kinds-at-word.r W L C word i clone j)) κs)
      → Post-at-word W L C word i clone j κs a r s → Post-at-word W L C word i clone j κs a r' s' → r ≡ r'
  one_word_at κs a r r' s s' p q = p ∙ sym q
