-- Any two results that the contract of a public function allows are equal, with what every lent buffer then holds, at every width. Stated over the contracts' own readings.
-- Assumes nothing.
use mathlib.Core.Path.{◌≡◌, sym, ◌∙◌}
use mir.Syntax.{Dict}
use denote.RattleType.{RattleType}
use denote.Param.Laws.{Laws, IsCopy}
use denote.Triple.Clauses.{AtExit}
use contract.Lifetimes.{Lfts}
use borrow.Fn.World.{ArgsD, ResD}
use borrow.Fn.Kinds.{ended_of}
use Rattle.std.specs.declared.clone.Clone as Clone
use Rattle.words.specs.declared.word.Word as Word
use Rattle.session.specs.contracts.seal.Sealing.start.{signature as signature-seal-Sealing-start}
use Rattle.session.proofs.seal.Sealing.start.Kinds as kinds-seal-Sealing-start
use Rattle.session.proofs.seal.Sealing.start.Reads.{Post as Post-seal-Sealing-start}
use Rattle.session.specs.contracts.seal.Sealing.piece.{signature as signature-seal-Sealing-piece}
use Rattle.session.proofs.seal.Sealing.piece.Kinds as kinds-seal-Sealing-piece
use Rattle.session.proofs.seal.Sealing.piece.Reads.{Post as Post-seal-Sealing-piece}
use Rattle.session.specs.contracts.seal.Sealing.close.{signature as signature-seal-Sealing-close}
use Rattle.session.proofs.seal.Sealing.close.Kinds as kinds-seal-Sealing-close
use Rattle.session.proofs.seal.Sealing.close.Reads.{Post as Post-seal-Sealing-close}
use Rattle.session.specs.contracts.check.Checking.start.{signature as signature-check-Checking-start}
use Rattle.session.proofs.check.Checking.start.Kinds as kinds-check-Checking-start
use Rattle.session.proofs.check.Checking.start.Reads.{Post as Post-check-Checking-start}
use Rattle.session.specs.contracts.check.Checking.piece.{signature as signature-check-Checking-piece}
use Rattle.session.proofs.check.Checking.piece.Kinds as kinds-check-Checking-piece
use Rattle.session.proofs.check.Checking.piece.Reads.{Post as Post-check-Checking-piece}
use Rattle.session.specs.contracts.check.Checking.close.{signature as signature-check-Checking-close}
use Rattle.session.proofs.check.Checking.close.Kinds as kinds-check-Checking-close
use Rattle.session.proofs.check.Checking.close.Reads.{Post as Post-check-Checking-close}
use Rattle.session.specs.contracts.session.Session.closed.{signature as signature-session-Session-closed}
use Rattle.session.proofs.session.Session.closed.Kinds as kinds-session-Session-closed
use Rattle.session.proofs.session.Session.closed.Reads.{Post as Post-session-Session-closed}

module _ (W : RattleType) (L : Laws W) (C : IsCopy W) (word : Word.Ghosts W.Denot) (i : Dict) (clone : Clone.Ghosts W.Denot) (j : Dict) where
  pub one_sealing_start : (κs : Lfts 3) (a : ArgsD (signature-seal-Sealing-start W word i clone j) κs) (r r' : ResD (signature-seal-Sealing-start W word i clone j) κs)
      (s s' : AtExit (ended_of 3 (kinds-seal-Sealing-start.ps W L C word i clone j) (kinds-seal-Sealing-start.r W L C word i clone j)) κs)
      → Post-seal-Sealing-start W L C word i clone j κs a r s → Post-seal-Sealing-start W L C word i clone j κs a r' s' → r ≡ r'
  one_sealing_start κs a r r' s s' p q = p ∙ sym q

  pub one_sealing_piece : (κs : Lfts 4) (a : ArgsD (signature-seal-Sealing-piece W word i clone j) κs) (r r' : ResD (signature-seal-Sealing-piece W word i clone j) κs)
      (s s' : AtExit (ended_of 4 (kinds-seal-Sealing-piece.ps W L C word i clone j) (kinds-seal-Sealing-piece.r W L C word i clone j)) κs)
      → Post-seal-Sealing-piece W L C word i clone j κs a r s → Post-seal-Sealing-piece W L C word i clone j κs a r' s' → (r ≡ r') × (s.1.1.1.0.now ≡ s'.1.1.1.0.now)
  one_sealing_piece κs a r r' s s' p q = (p.0 ∙ sym q.0, p.1 ∙ sym q.1)

  pub one_sealing_close : (κs : Lfts 3) (a : ArgsD (signature-seal-Sealing-close W word i clone j) κs) (r r' : ResD (signature-seal-Sealing-close W word i clone j) κs)
      (s s' : AtExit (ended_of 3 (kinds-seal-Sealing-close.ps W L C word i clone j) (kinds-seal-Sealing-close.r W L C word i clone j)) κs)
      → Post-seal-Sealing-close W L C word i clone j κs a r s → Post-seal-Sealing-close W L C word i clone j κs a r' s' → (r ≡ r') × (s.1.1.0.now ≡ s'.1.1.0.now)
  one_sealing_close κs a r r' s s' p q = (p.0 ∙ sym q.0, p.1 ∙ sym q.1)

  pub one_checking_start : (κs : Lfts 3) (a : ArgsD (signature-check-Checking-start W word i clone j) κs) (r r' : ResD (signature-check-Checking-start W word i clone j) κs)
      (s s' : AtExit (ended_of 3 (kinds-check-Checking-start.ps W L C word i clone j) (kinds-check-Checking-start.r W L C word i clone j)) κs)
      → Post-check-Checking-start W L C word i clone j κs a r s → Post-check-Checking-start W L C word i clone j κs a r' s' → r ≡ r'
  one_checking_start κs a r r' s s' p q = p ∙ sym q

  pub one_checking_piece : (κs : Lfts 3) (a : ArgsD (signature-check-Checking-piece W word i clone j) κs) (r r' : ResD (signature-check-Checking-piece W word i clone j) κs)
      (s s' : AtExit (ended_of 3 (kinds-check-Checking-piece.ps W L C word i clone j) (kinds-check-Checking-piece.r W L C word i clone j)) κs)
      → Post-check-Checking-piece W L C word i clone j κs a r s → Post-check-Checking-piece W L C word i clone j κs a r' s' → r ≡ r'
  one_checking_piece κs a r r' s s' p q = p ∙ sym q

  pub one_checking_close : (κs : Lfts 3) (a : ArgsD (signature-check-Checking-close W word i clone j) κs) (r r' : ResD (signature-check-Checking-close W word i clone j) κs)
      (s s' : AtExit (ended_of 3 (kinds-check-Checking-close.ps W L C word i clone j) (kinds-check-Checking-close.r W L C word i clone j)) κs)
      → Post-check-Checking-close W L C word i clone j κs a r s → Post-check-Checking-close W L C word i clone j κs a r' s' → r ≡ r'
  one_checking_close κs a r r' s s' p q = p ∙ sym q

  pub one_session_closed : (κs : Lfts 1) (a : ArgsD (signature-session-Session-closed W word i clone j) κs) (r r' : ResD (signature-session-Session-closed W word i clone j) κs)
      (s s' : AtExit (ended_of 1 (kinds-session-Session-closed.ps W L C word i clone j) (kinds-session-Session-closed.r W L C word i clone j)) κs)
      → Post-session-Session-closed W L C word i clone j κs a r s → Post-session-Session-closed W L C word i clone j κs a r' s' → r ≡ r'
  one_session_closed κs a r r' s s' p q = p ∙ sym q
