-- Any two results that the contract of a public function allows are equal, with what every lent buffer then holds, at every width. Stated over the contracts' own readings.
-- Assumes nothing.
use mathlib.Core.Path.{◌≡◌, sym, ◌∙◌}
use mir.Syntax.{Dict}
use denote.RattleType.{RattleType}
use denote.Param.Laws.{Laws, IsCopy}
use denote.Triple.Clauses.{AtExit}
use contract.Lifetimes.{Lfts}
use borrow.Fn.World.{ArgsD, ResD}
use borrow.Fn.Kinds.{ended_of}
use Rattle.std.specs.declared.clone.Clone as Clone
use Rattle.words.specs.declared.word.Word as Word
use Rattle.answers.proofs.Runs.{one_outcome}
use Rattle.segments.specs.contracts.seal.{signature as signature-seal}
use Rattle.segments.proofs.seal.Kinds as kinds-seal
use Rattle.segments.proofs.seal.Reads.{Post as Post-seal}
use Rattle.segments.specs.contracts.open.{signature as signature-open}
use Rattle.segments.proofs.open.Kinds as kinds-open
use Rattle.segments.proofs.open.Reads.{Post as Post-open}
use Rattle.segments.specs.contracts.at.seal.{signature as signature-at-seal}
use Rattle.segments.proofs.at.seal.Kinds as kinds-at-seal
use Rattle.segments.proofs.at.seal.Reads.{Post as Post-at-seal}
use Rattle.segments.specs.contracts.at.open.{signature as signature-at-open}
use Rattle.segments.proofs.at.open.Kinds as kinds-at-open
use Rattle.segments.proofs.at.open.Reads.{Post as Post-at-open}
use Rattle.segments.specs.contracts.receiver.Receiver.start.{signature as signature-receiver-start}
use Rattle.segments.proofs.receiver.Receiver.start.Kinds as kinds-receiver-start
use Rattle.segments.proofs.receiver.Receiver.start.Reads.{Post as Post-receiver-start}
use Rattle.segments.specs.contracts.receiver.Receiver.take.{signature as signature-receiver-take}
use Rattle.segments.proofs.receiver.Receiver.take.Kinds as kinds-receiver-take
use Rattle.segments.proofs.receiver.Receiver.take.Reads.{Post as Post-receiver-take}
use Rattle.segments.specs.contracts.receiver.Receiver.key.{signature as signature-receiver-key}
use Rattle.segments.proofs.receiver.Receiver.key.Kinds as kinds-receiver-key
use Rattle.segments.proofs.receiver.Receiver.key.Reads.{Post as Post-receiver-key}
use Rattle.segments.specs.contracts.receiver.Receiver.nonce.{signature as signature-receiver-nonce}
use Rattle.segments.proofs.receiver.Receiver.nonce.Kinds as kinds-receiver-nonce
use Rattle.segments.proofs.receiver.Receiver.nonce.Reads.{Post as Post-receiver-nonce}
use Rattle.segments.specs.contracts.receiver.Receiver.none.{signature as signature-receiver-none}
use Rattle.segments.proofs.receiver.Receiver.none.Kinds as kinds-receiver-none
use Rattle.segments.proofs.receiver.Receiver.none.Reads.{Post as Post-receiver-none}

pub one_seal : (κs : Lfts 5) (a : ArgsD signature-seal κs) (r r' : ResD signature-seal κs) (s s' : AtExit (ended_of 5 kinds-seal.ps kinds-seal.r) κs)
    → Post-seal κs a r s → Post-seal κs a r' s' → (r ≡ r') × (s.1.1.1.1.1.1.1.1.0.now ≡ s'.1.1.1.1.1.1.1.1.0.now)
one_seal κs a r r' s s' p q = (one_outcome (p.0 ∙ sym q.0) (p.1.0 ∙ sym q.1.0), p.1.1 ∙ sym q.1.1)

pub one_open : (κs : Lfts 5) (a : ArgsD signature-open κs) (r r' : ResD signature-open κs) (s s' : AtExit (ended_of 5 kinds-open.ps kinds-open.r) κs)
    → Post-open κs a r s → Post-open κs a r' s' → (r ≡ r') × (s.1.1.1.1.1.1.1.1.0.now ≡ s'.1.1.1.1.1.1.1.1.0.now)
one_open κs a r r' s s' p q = (one_outcome (p.0 ∙ sym q.0) (p.1.0 ∙ sym q.1.0), p.1.1 ∙ sym q.1.1)

module _ (W : RattleType) (L : Laws W) (C : IsCopy W) (word : Word.Ghosts W.Denot) (i : Dict) (clone : Clone.Ghosts W.Denot) (j : Dict) where
  pub one_seal_at : (κs : Lfts 6) (a : ArgsD (signature-at-seal W) κs) (r r' : ResD (signature-at-seal W) κs)
      (s s' : AtExit (ended_of 6 (kinds-at-seal.ps W L C) (kinds-at-seal.r W L C)) κs)
      → Post-at-seal W L C word i clone j κs a r s → Post-at-seal W L C word i clone j κs a r' s' → (r ≡ r') × (s.1.1.1.1.1.1.1.0.now ≡ s'.1.1.1.1.1.1.1.0.now)
  one_seal_at κs a r r' s s' p q = (one_outcome (p.0 ∙ sym q.0) (p.1.0 ∙ sym q.1.0), p.1.1 ∙ sym q.1.1)

  pub one_open_at : (κs : Lfts 6) (a : ArgsD (signature-at-open W) κs) (r r' : ResD (signature-at-open W) κs)
      (s s' : AtExit (ended_of 6 (kinds-at-open.ps W L C) (kinds-at-open.r W L C)) κs)
      → Post-at-open W L C word i clone j κs a r s → Post-at-open W L C word i clone j κs a r' s' → (r ≡ r') × (s.1.1.1.1.1.1.1.0.now ≡ s'.1.1.1.1.1.1.1.0.now)
  one_open_at κs a r r' s s' p q = (one_outcome (p.0 ∙ sym q.0) (p.1.0 ∙ sym q.1.0), p.1.1 ∙ sym q.1.1)

  pub one_receiver_start : (κs : Lfts 3) (a : ArgsD (signature-receiver-start W word i clone j) κs) (r r' : ResD (signature-receiver-start W word i clone j) κs)
      (s s' : AtExit (ended_of 3 (kinds-receiver-start.ps W L C word i clone j) (kinds-receiver-start.r W L C word i clone j)) κs)
      → Post-receiver-start W L C word i clone j κs a r s → Post-receiver-start W L C word i clone j κs a r' s' → r ≡ r'
  one_receiver_start κs a r r' s s' p q = p ∙ sym q

  pub one_receiver_take : (κs : Lfts 4) (a : ArgsD (signature-receiver-take W word i clone j) κs) (r r' : ResD (signature-receiver-take W word i clone j) κs)
      (s s' : AtExit (ended_of 4 (kinds-receiver-take.ps W L C word i clone j) (kinds-receiver-take.r W L C word i clone j)) κs)
      → Post-receiver-take W L C word i clone j κs a r s → Post-receiver-take W L C word i clone j κs a r' s' → (r ≡ r') × (s.1.1.1.1.0.now ≡ s'.1.1.1.1.0.now)
  one_receiver_take κs a r r' s s' p q = (p.0 ∙ sym q.0, p.1 ∙ sym q.1)

  pub one_receiver_key : (κs : Lfts 2) (a : ArgsD (signature-receiver-key W word i clone j) κs) (r r' : ResD (signature-receiver-key W word i clone j) κs)
      (s s' : AtExit (ended_of 2 (kinds-receiver-key.ps W L C word i clone j) (kinds-receiver-key.r W L C word i clone j)) κs)
      → Post-receiver-key W L C word i clone j κs a r s → Post-receiver-key W L C word i clone j κs a r' s' → r.now ≡ r'.now
  one_receiver_key κs a r r' s s' p q = p.0 ∙ sym q.0

  pub one_receiver_nonce : (κs : Lfts 2) (a : ArgsD (signature-receiver-nonce W word i clone j) κs) (r r' : ResD (signature-receiver-nonce W word i clone j) κs)
      (s s' : AtExit (ended_of 2 (kinds-receiver-nonce.ps W L C word i clone j) (kinds-receiver-nonce.r W L C word i clone j)) κs)
      → Post-receiver-nonce W L C word i clone j κs a r s → Post-receiver-nonce W L C word i clone j κs a r' s' → r.now ≡ r'.now
  one_receiver_nonce κs a r r' s s' p q = p.0 ∙ sym q.0

  pub one_receiver_none : (κs : Lfts 1) (a : ArgsD (signature-receiver-none W word i clone j) κs) (r r' : ResD (signature-receiver-none W word i clone j) κs)
      (s s' : AtExit (ended_of 1 (kinds-receiver-none.ps W L C word i clone j) (kinds-receiver-none.r W L C word i clone j)) κs)
      → Post-receiver-none W L C word i clone j κs a r s → Post-receiver-none W L C word i clone j κs a r' s' → r ≡ r'
  one_receiver_none κs a r r' s s' p q = p ∙ sym q
