-- Any two results that the contract of a public function allows are equal, with what every lent buffer then holds, at every width. Stated over the contracts' own readings.
-- Assumes nothing.
use mathlib.Core.Path.{◌≡◌, sym, ◌∙◌}
use mir.Syntax.{Dict}
use denote.RattleType.{RattleType}
use denote.Param.Laws.{Laws, IsCopy}
use denote.Triple.Clauses.{AtExit}
use contract.Lifetimes.{Lfts}
use borrow.Fn.World.{ArgsD, ResD}
use borrow.Fn.Kinds.{ended_of}
use Rattle.std.specs.declared.clone.Clone as Clone
use Rattle.words.specs.declared.word.Word as Word
use Rattle.answers.proofs.Runs.{one_outcome}
use Rattle.sealing.specs.contracts.seal.{signature as signature-seal}
use Rattle.sealing.proofs.seal.Kinds as kinds-seal
use Rattle.sealing.proofs.seal.Reads.{Post as Post-seal}
use Rattle.sealing.specs.contracts.open.{signature as signature-open}
use Rattle.sealing.proofs.open.Kinds as kinds-open
use Rattle.sealing.proofs.open.Reads.{Post as Post-open}
use Rattle.sealing.specs.contracts.at.seal.{signature as signature-at-seal}
use Rattle.sealing.proofs.at.seal.Kinds as kinds-at-seal
use Rattle.sealing.proofs.at.seal.Reads.{Post as Post-at-seal}
use Rattle.sealing.specs.contracts.at.open.{signature as signature-at-open}
use Rattle.sealing.proofs.at.open.Kinds as kinds-at-open
use Rattle.sealing.proofs.at.open.Reads.{Post as Post-at-open}
use Rattle.sealing.specs.contracts.body.seal.{signature as signature-body-seal}
use Rattle.sealing.proofs.body.seal.Kinds as kinds-body-seal
use Rattle.sealing.proofs.body.seal.Reads.{Post as Post-body-seal}
use Rattle.sealing.specs.contracts.body.open.{signature as signature-body-open}
use Rattle.sealing.proofs.body.open.Kinds as kinds-body-open
use Rattle.sealing.proofs.body.open.Reads.{Post as Post-body-open}

pub one_seal : (κs : Lfts 6) (a : ArgsD signature-seal κs) (r r' : ResD signature-seal κs) (s s' : AtExit (ended_of 6 kinds-seal.ps kinds-seal.r) κs)
    → Post-seal κs a r s → Post-seal κs a r' s' → (r ≡ r') × (s.1.1.1.1.1.1.1.0.now ≡ s'.1.1.1.1.1.1.1.0.now)
one_seal κs a r r' s s' p q = (one_outcome (p.0 ∙ sym q.0) (p.1.0 ∙ sym q.1.0), p.1.1.0 ∙ sym q.1.1.0)

pub one_open : (κs : Lfts 6) (a : ArgsD signature-open κs) (r r' : ResD signature-open κs) (s s' : AtExit (ended_of 6 kinds-open.ps kinds-open.r) κs)
    → Post-open κs a r s → Post-open κs a r' s' → (r ≡ r') × (s.1.1.1.1.1.1.1.0.now ≡ s'.1.1.1.1.1.1.1.0.now)
one_open κs a r r' s s' p q = (one_outcome (p.0 ∙ sym q.0) (p.1.0 ∙ sym q.1.0), p.1.1.0 ∙ sym q.1.1.0)

module _ (W : RattleType) (L : Laws W) (C : IsCopy W) (word : Word.Ghosts W.Denot) (i : Dict) (clone : Clone.Ghosts W.Denot) (j : Dict) where
  pub one_seal_at : (κs : Lfts 7) (a : ArgsD (signature-at-seal W) κs) (r r' : ResD (signature-at-seal W) κs)
      (s s' : AtExit (ended_of 7 (kinds-at-seal.ps W L C) (kinds-at-seal.r W L C)) κs)
      → Post-at-seal W L C word i clone j κs a r s → Post-at-seal W L C word i clone j κs a r' s' → (r ≡ r') × (s.1.1.1.1.1.1.0.now ≡ s'.1.1.1.1.1.1.0.now)
  one_seal_at κs a r r' s s' p q = (one_outcome (p.0 ∙ sym q.0) (p.1.0 ∙ sym q.1.0), p.1.1.0 ∙ sym q.1.1.0)

  pub one_open_at : (κs : Lfts 7) (a : ArgsD (signature-at-open W) κs) (r r' : ResD (signature-at-open W) κs)
      (s s' : AtExit (ended_of 7 (kinds-at-open.ps W L C) (kinds-at-open.r W L C)) κs)
      → Post-at-open W L C word i clone j κs a r s → Post-at-open W L C word i clone j κs a r' s' → (r ≡ r') × (s.1.1.1.1.1.1.0.now ≡ s'.1.1.1.1.1.1.0.now)
  one_open_at κs a r r' s s' p q = (one_outcome (p.0 ∙ sym q.0) (p.1.0 ∙ sym q.1.0), p.1.1.0 ∙ sym q.1.1.0)

  pub one_body_seal : (κs : Lfts 4) (a : ArgsD (signature-body-seal W word i clone j) κs) (r r' : ResD (signature-body-seal W word i clone j) κs)
      (s s' : AtExit (ended_of 4 (kinds-body-seal.ps W L C word i clone j) (kinds-body-seal.r W L C word i clone j)) κs)
      → Post-body-seal W L C word i clone j κs a r s → Post-body-seal W L C word i clone j κs a r' s' → s.1.1.1.1.1.0.now ≡ s'.1.1.1.1.1.0.now
  one_body_seal κs a r r' s s' p q = p ∙ sym q

  pub one_body_open : (κs : Lfts 4) (a : ArgsD (signature-body-open W word i clone j) κs) (r r' : ResD (signature-body-open W word i clone j) κs)
      (s s' : AtExit (ended_of 4 (kinds-body-open.ps W L C word i clone j) (kinds-body-open.r W L C word i clone j)) κs)
      → Post-body-open W L C word i clone j κs a r s → Post-body-open W L C word i clone j κs a r' s' → (r ≡ r') × (s.1.1.1.1.1.0.now ≡ s'.1.1.1.1.1.0.now)
  one_body_open κs a r r' s s' p q = (p.0 ∙ sym q.0, p.1 ∙ sym q.1)
