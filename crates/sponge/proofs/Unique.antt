-- Any two results that the contract of a public function allows are equal, with what every lent buffer then holds, at every width. Stated over the contracts' own readings.
-- Assumes nothing.
use mathlib.Core.Path.{◌≡◌, sym, ◌∙◌}
use mir.Syntax.{Dict}
use denote.RattleType.{RattleType}
use denote.Param.Laws.{Laws, IsCopy}
use denote.Triple.Clauses.{AtExit}
use contract.Lifetimes.{Lfts}
use borrow.Fn.World.{ArgsD, ResD}
use borrow.Fn.Kinds.{ended_of}
use Rattle.std.specs.declared.clone.Clone as Clone
use Rattle.words.specs.declared.word.Word as Word
use Rattle.sponge.specs.contracts.parts.absorb.{signature as signature-parts-absorb}
use Rattle.sponge.proofs.parts.absorb.Kinds as kinds-parts-absorb
use Rattle.sponge.proofs.parts.absorb.Reads.{Post as Post-parts-absorb}
use Rattle.sponge.specs.contracts.parts.encrypt.{signature as signature-parts-encrypt}
use Rattle.sponge.proofs.parts.encrypt.Kinds as kinds-parts-encrypt
use Rattle.sponge.proofs.parts.encrypt.Reads.{Post as Post-parts-encrypt}
use Rattle.sponge.specs.contracts.parts.decrypt.{signature as signature-parts-decrypt}
use Rattle.sponge.proofs.parts.decrypt.Kinds as kinds-parts-decrypt
use Rattle.sponge.proofs.parts.decrypt.Reads.{Post as Post-parts-decrypt}
use Rattle.sponge.specs.contracts.pieces.feed.{signature as signature-pieces-feed}
use Rattle.sponge.proofs.pieces.feed.Kinds as kinds-pieces-feed
use Rattle.sponge.proofs.pieces.feed.Reads.{Post as Post-pieces-feed}
use Rattle.sponge.specs.contracts.pieces.end.{signature as signature-pieces-end}
use Rattle.sponge.proofs.pieces.end.Kinds as kinds-pieces-end
use Rattle.sponge.proofs.pieces.end.Reads.{Post as Post-pieces-end}
use Rattle.sponge.specs.contracts.pieces.seal.{signature as signature-pieces-seal}
use Rattle.sponge.proofs.pieces.seal.Kinds as kinds-pieces-seal
use Rattle.sponge.proofs.pieces.seal.Reads.{Post as Post-pieces-seal}
use Rattle.sponge.specs.contracts.pieces.open.{signature as signature-pieces-open}
use Rattle.sponge.proofs.pieces.open.Kinds as kinds-pieces-open
use Rattle.sponge.proofs.pieces.open.Reads.{Post as Post-pieces-open}

module _ (W : RattleType) (L : Laws W) (C : IsCopy W) (word : Word.Ghosts W.Denot) (i : Dict) (clone : Clone.Ghosts W.Denot) (j : Dict) where
  pub one_absorb : (κs : Lfts 2) (a : ArgsD (signature-parts-absorb W word i clone j) κs) (r r' : ResD (signature-parts-absorb W word i clone j) κs)
      (s s' : AtExit (ended_of 2 (kinds-parts-absorb.ps W L C word i clone j) (kinds-parts-absorb.r W L C word i clone j)) κs)
      → Post-parts-absorb W L C word i clone j κs a r s → Post-parts-absorb W L C word i clone j κs a r' s' → r ≡ r'
  one_absorb κs a r r' s s' p q = p ∙ sym q

  pub one_encrypt : (κs : Lfts 3) (a : ArgsD (signature-parts-encrypt W word i clone j) κs) (r r' : ResD (signature-parts-encrypt W word i clone j) κs)
      (s s' : AtExit (ended_of 3 (kinds-parts-encrypt.ps W L C word i clone j) (kinds-parts-encrypt.r W L C word i clone j)) κs)
      → Post-parts-encrypt W L C word i clone j κs a r s → Post-parts-encrypt W L C word i clone j κs a r' s' → (r ≡ r') × (s.1.1.1.0.now ≡ s'.1.1.1.0.now)
  one_encrypt κs a r r' s s' p q = (p.0 ∙ sym q.0, p.1 ∙ sym q.1)

  pub one_decrypt : (κs : Lfts 3) (a : ArgsD (signature-parts-decrypt W word i clone j) κs) (r r' : ResD (signature-parts-decrypt W word i clone j) κs)
      (s s' : AtExit (ended_of 3 (kinds-parts-decrypt.ps W L C word i clone j) (kinds-parts-decrypt.r W L C word i clone j)) κs)
      → Post-parts-decrypt W L C word i clone j κs a r s → Post-parts-decrypt W L C word i clone j κs a r' s' → (r ≡ r') × (s.1.1.1.0.now ≡ s'.1.1.1.0.now)
  one_decrypt κs a r r' s s' p q = (p.0 ∙ sym q.0, p.1 ∙ sym q.1)

  pub one_feed : (κs : Lfts 2) (a : ArgsD (signature-pieces-feed W word i clone j) κs) (r r' : ResD (signature-pieces-feed W word i clone j) κs)
      (s s' : AtExit (ended_of 2 (kinds-pieces-feed.ps W L C word i clone j) (kinds-pieces-feed.r W L C word i clone j)) κs)
      → Post-pieces-feed W L C word i clone j κs a r s → Post-pieces-feed W L C word i clone j κs a r' s' → r ≡ r'
  one_feed κs a r r' s s' p q = p ∙ sym q

  pub one_end : (κs : Lfts 1) (a : ArgsD (signature-pieces-end W word i clone j) κs) (r r' : ResD (signature-pieces-end W word i clone j) κs)
      (s s' : AtExit (ended_of 1 (kinds-pieces-end.ps W L C word i clone j) (kinds-pieces-end.r W L C word i clone j)) κs)
      → Post-pieces-end W L C word i clone j κs a r s → Post-pieces-end W L C word i clone j κs a r' s' → r ≡ r'
  one_end κs a r r' s s' p q = p ∙ sym q

  pub one_seal : (κs : Lfts 3) (a : ArgsD (signature-pieces-seal W word i clone j) κs) (r r' : ResD (signature-pieces-seal W word i clone j) κs)
      (s s' : AtExit (ended_of 3 (kinds-pieces-seal.ps W L C word i clone j) (kinds-pieces-seal.r W L C word i clone j)) κs)
      → Post-pieces-seal W L C word i clone j κs a r s → Post-pieces-seal W L C word i clone j κs a r' s' → (r ≡ r') × (s.1.1.1.1.0.now ≡ s'.1.1.1.1.0.now)
  one_seal κs a r r' s s' p q = (p.0 ∙ sym q.0, p.1 ∙ sym q.1)

  pub one_open : (κs : Lfts 2) (a : ArgsD (signature-pieces-open W word i clone j) κs) (r r' : ResD (signature-pieces-open W word i clone j) κs)
      (s s' : AtExit (ended_of 2 (kinds-pieces-open.ps W L C word i clone j) (kinds-pieces-open.r W L C word i clone j)) κs)
      → Post-pieces-open W L C word i clone j κs a r s → Post-pieces-open W L C word i clone j κs a r' s' → r ≡ r'
  one_open κs a r r' s s' p q = p ∙ sym q
