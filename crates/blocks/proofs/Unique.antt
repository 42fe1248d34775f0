-- Any two results that the contract of a public function allows are equal, with what every lent buffer then holds, at every width. Stated over the contracts' own readings.
-- Assumes nothing.
use mathlib.Core.Path.{◌≡◌, sym, ◌∙◌}
use mir.Syntax.{Dict}
use denote.RattleType.{RattleType}
use denote.Param.Laws.{Laws, IsCopy}
use denote.Triple.Clauses.{AtExit}
use contract.Lifetimes.{Lfts}
use borrow.Fn.World.{ArgsD, ResD}
use borrow.Fn.Kinds.{ended_of}
use Rattle.std.specs.declared.clone.Clone as Clone
use Rattle.words.specs.declared.word.Word as Word
use Rattle.blocks.specs.contracts.ends.row.{signature as signature-ends-row}
use Rattle.blocks.proofs.ends.row.Kinds as kinds-ends-row
use Rattle.blocks.proofs.ends.row.Reads.{Post as Post-ends-row}
use Rattle.blocks.specs.contracts.ends.start.{signature as signature-ends-start}
use Rattle.blocks.proofs.ends.start.Kinds as kinds-ends-start
use Rattle.blocks.proofs.ends.start.Reads.{Post as Post-ends-start}
use Rattle.blocks.specs.contracts.ends.tag.{signature as signature-ends-tag}
use Rattle.blocks.proofs.ends.tag.Kinds as kinds-ends-tag
use Rattle.blocks.proofs.ends.tag.Reads.{Post as Post-ends-tag}
use Rattle.blocks.specs.contracts.ends.tag_is.{signature as signature-ends-tag-is}
use Rattle.blocks.proofs.ends.tag_is.Kinds as kinds-ends-tag-is
use Rattle.blocks.proofs.ends.tag_is.Reads.{Post as Post-ends-tag-is}
use Rattle.blocks.specs.contracts.blocks.xored.{signature as signature-blocks-xored}
use Rattle.blocks.proofs.blocks.xored.Kinds as kinds-blocks-xored
use Rattle.blocks.proofs.blocks.xored.Reads.{Post as Post-blocks-xored}
use Rattle.blocks.specs.contracts.turns.turns.{signature as signature-turns-turns}
use Rattle.blocks.proofs.turns.turns.Kinds as kinds-turns-turns
use Rattle.blocks.proofs.turns.turns.Reads.{Post as Post-turns-turns}
use Rattle.blocks.specs.contracts.turns.unwritten.{signature as signature-turns-unwritten}
use Rattle.blocks.proofs.turns.unwritten.Kinds as kinds-turns-unwritten
use Rattle.blocks.proofs.turns.unwritten.Reads.{Post as Post-turns-unwritten}
use Rattle.blocks.specs.contracts.block.Block.zeros.{signature as signature-block-Block-zeros}
use Rattle.blocks.proofs.block.Block.zeros.Kinds as kinds-block-Block-zeros
use Rattle.blocks.proofs.block.Block.zeros.Reads.{Post as Post-block-Block-zeros}
use Rattle.blocks.specs.contracts.block.Block.of_rate.{signature as signature-block-Block-of-rate}
use Rattle.blocks.proofs.block.Block.of_rate.Kinds as kinds-block-Block-of-rate
use Rattle.blocks.proofs.block.Block.of_rate.Reads.{Post as Post-block-Block-of-rate}
use Rattle.blocks.specs.contracts.block.Block.bytes.{signature as signature-block-Block-bytes}
use Rattle.blocks.proofs.block.Block.bytes.Kinds as kinds-block-Block-bytes
use Rattle.blocks.proofs.block.Block.bytes.Reads.{Post as Post-block-Block-bytes}
use Rattle.blocks.specs.contracts.block.Block.lay.{signature as signature-block-Block-lay}
use Rattle.blocks.proofs.block.Block.lay.Kinds as kinds-block-Block-lay
use Rattle.blocks.proofs.block.Block.lay.Reads.{Post as Post-block-Block-lay}
use Rattle.blocks.specs.contracts.block.Block.xor_at.{signature as signature-block-Block-xor-at}
use Rattle.blocks.proofs.block.Block.xor_at.Kinds as kinds-block-Block-xor-at
use Rattle.blocks.proofs.block.Block.xor_at.Reads.{Post as Post-block-Block-xor-at}

module _ (W : RattleType) (L : Laws W) (C : IsCopy W) (word : Word.Ghosts W.Denot) (i : Dict) (clone : Clone.Ghosts W.Denot) (j : Dict) where
  pub one_row : (κs : Lfts 2) (a : ArgsD (signature-ends-row W word i clone j) κs) (r r' : ResD (signature-ends-row W word i clone j) κs)
      (s s' : AtExit (ended_of 2 (kinds-ends-row.ps W L C word i clone j) (kinds-ends-row.r W L C word i clone j)) κs)
      → Post-ends-row W L C word i clone j κs a r s → Post-ends-row W L C word i clone j κs a r' s' → r ≡ r'
  one_row κs a r r' s s' p q = p ∙ sym q

  pub one_start : (κs : Lfts 1) (a : ArgsD (signature-ends-start W word i clone j) κs) (r r' : ResD (signature-ends-start W word i clone j) κs)
      (s s' : AtExit (ended_of 1 (kinds-ends-start.ps W L C word i clone j) (kinds-ends-start.r W L C word i clone j)) κs)
      → Post-ends-start W L C word i clone j κs a r s → Post-ends-start W L C word i clone j κs a r' s' → r ≡ r'
  one_start κs a r r' s s' p q = p ∙ sym q

  pub one_tag : (κs : Lfts 2) (a : ArgsD (signature-ends-tag W word i clone j) κs) (r r' : ResD (signature-ends-tag W word i clone j) κs)
      (s s' : AtExit (ended_of 2 (kinds-ends-tag.ps W L C word i clone j) (kinds-ends-tag.r W L C word i clone j)) κs)
      → Post-ends-tag W L C word i clone j κs a r s → Post-ends-tag W L C word i clone j κs a r' s' → s.1.1.1.0.now ≡ s'.1.1.1.0.now
  one_tag κs a r r' s s' p q = p ∙ sym q

  pub one_tag_is : (κs : Lfts 2) (a : ArgsD (signature-ends-tag-is W word i clone j) κs) (r r' : ResD (signature-ends-tag-is W word i clone j) κs)
      (s s' : AtExit (ended_of 2 (kinds-ends-tag-is.ps W L C word i clone j) (kinds-ends-tag-is.r W L C word i clone j)) κs)
      → Post-ends-tag-is W L C word i clone j κs a r s → Post-ends-tag-is W L C word i clone j κs a r' s' → r ≡ r'
  one_tag_is κs a r r' s s' p q = p ∙ sym q

  pub one_xored : (κs : Lfts 2) (a : ArgsD (signature-blocks-xored W word i clone j) κs) (r r' : ResD (signature-blocks-xored W word i clone j) κs)
      (s s' : AtExit (ended_of 2 (kinds-blocks-xored.ps W L C word i clone j) (kinds-blocks-xored.r W L C word i clone j)) κs)
      → Post-blocks-xored W L C word i clone j κs a r s → Post-blocks-xored W L C word i clone j κs a r' s' → r ≡ r'
  one_xored κs a r r' s s' p q = p ∙ sym q

  pub one_turns : (κs : Lfts 3) (a : ArgsD (signature-turns-turns W word i clone j) κs) (r r' : ResD (signature-turns-turns W word i clone j) κs)
      (s s' : AtExit (ended_of 3 (kinds-turns-turns.ps W L C word i clone j) (kinds-turns-turns.r W L C word i clone j)) κs)
      → Post-turns-turns W L C word i clone j κs a r s → Post-turns-turns W L C word i clone j κs a r' s' → (r ≡ r') × (s.1.1.1.1.1.0.now ≡ s'.1.1.1.1.1.0.now)
  one_turns κs a r r' s s' p q = (p.0 ∙ sym q.0, p.1 ∙ sym q.1)

  pub one_unwritten : (κs : Lfts 2) (a : ArgsD (signature-turns-unwritten W word i clone j) κs) (r r' : ResD (signature-turns-unwritten W word i clone j) κs)
      (s s' : AtExit (ended_of 2 (kinds-turns-unwritten.ps W L C word i clone j) (kinds-turns-unwritten.r W L C word i clone j)) κs)
      → Post-turns-unwritten W L C word i clone j κs a r s → Post-turns-unwritten W L C word i clone j κs a r' s' → r ≡ r'
  one_unwritten κs a r r' s s' p q = p ∙ sym q

  pub one_block_zeros : (κs : Lfts 1) (a : ArgsD (signature-block-Block-zeros W word i clone j) κs) (r r' : ResD (signature-block-Block-zeros W word i clone j) κs)
      (s s' : AtExit (ended_of 1 (kinds-block-Block-zeros.ps W L C word i clone j) (kinds-block-Block-zeros.r W L C word i clone j)) κs)
      → Post-block-Block-zeros W L C word i clone j κs a r s → Post-block-Block-zeros W L C word i clone j κs a r' s' → r ≡ r'
  one_block_zeros κs a r r' s s' p q = p ∙ sym q

  pub one_block_of_rate : (κs : Lfts 1) (a : ArgsD (signature-block-Block-of-rate W word i clone j) κs) (r r' : ResD (signature-block-Block-of-rate W word i clone j) κs)
      (s s' : AtExit (ended_of 1 (kinds-block-Block-of-rate.ps W L C word i clone j) (kinds-block-Block-of-rate.r W L C word i clone j)) κs)
      → Post-block-Block-of-rate W L C word i clone j κs a r s → Post-block-Block-of-rate W L C word i clone j κs a r' s' → r ≡ r'
  one_block_of_rate κs a r r' s s' p q = p ∙ sym q

  pub one_block_bytes : (κs : Lfts 2) (a : ArgsD (signature-block-Block-bytes W word i clone j) κs) (r r' : ResD (signature-block-Block-bytes W word i clone j) κs)
      (s s' : AtExit (ended_of 2 (kinds-block-Block-bytes.ps W L C word i clone j) (kinds-block-Block-bytes.r W L C word i clone j)) κs)
      → Post-block-Block-bytes W L C word i clone j κs a r s → Post-block-Block-bytes W L C word i clone j κs a r' s' → r.now ≡ r'.now
  one_block_bytes κs a r r' s s' p q = p.0 ∙ sym q.0

  pub one_block_lay : (κs : Lfts 3) (a : ArgsD (signature-block-Block-lay W word i clone j) κs) (r r' : ResD (signature-block-Block-lay W word i clone j) κs)
      (s s' : AtExit (ended_of 3 (kinds-block-Block-lay.ps W L C word i clone j) (kinds-block-Block-lay.r W L C word i clone j)) κs)
      → Post-block-Block-lay W L C word i clone j κs a r s → Post-block-Block-lay W L C word i clone j κs a r' s' → s.0.now ≡ s'.0.now
  one_block_lay κs a r r' s s' p q = p ∙ sym q

  pub one_block_xor_at : (κs : Lfts 2) (a : ArgsD (signature-block-Block-xor-at W word i clone j) κs) (r r' : ResD (signature-block-Block-xor-at W word i clone j) κs)
      (s s' : AtExit (ended_of 2 (kinds-block-Block-xor-at.ps W L C word i clone j) (kinds-block-Block-xor-at.r W L C word i clone j)) κs)
      → Post-block-Block-xor-at W L C word i clone j κs a r s → Post-block-Block-xor-at W L C word i clone j κs a r' s' → s.0.now ≡ s'.0.now
  one_block_xor_at κs a r r' s s' p q = p ∙ sym q
