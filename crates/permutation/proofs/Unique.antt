-- Any two results that the contract of a public function allows are equal, with what every lent buffer then holds, at every width. Stated over the contracts' own readings.
-- Assumes nothing.
use mathlib.Core.Path.{◌≡◌, sym, ◌∙◌}
use mir.Syntax.{Dict}
use denote.RattleType.{RattleType}
use denote.Param.Laws.{Laws, IsCopy}
use denote.Triple.Clauses.{AtExit}
use contract.Lifetimes.{Lfts}
use borrow.Fn.World.{ArgsD, ResD}
use borrow.Fn.Kinds.{ended_of}
use Rattle.std.specs.declared.clone.Clone as Clone
use Rattle.norx.specs.Norx.{row_at}
use Rattle.words.specs.declared.word.Word as Word
use Rattle.permutation.specs.contracts.rounds.permute.{signature as signature-rounds-permute}
use Rattle.permutation.proofs.rounds.permute.Kinds as kinds-rounds-permute
use Rattle.permutation.proofs.rounds.permute.Reads.{Post as Post-rounds-permute}
use Rattle.permutation.specs.contracts.upper_constants.{signature as signature-upper-constants}
use Rattle.permutation.proofs.upper_constants.Kinds as kinds-upper-constants
use Rattle.permutation.proofs.upper_constants.Reads.{Post as Post-upper-constants}

module _ (W : RattleType) (L : Laws W) (C : IsCopy W) (word : Word.Ghosts W.Denot) (i : Dict) (clone : Clone.Ghosts W.Denot) (j : Dict) where
  pub one_permute : (κs : Lfts 1) (a : ArgsD (signature-rounds-permute W word i clone j) κs) (r r' : ResD (signature-rounds-permute W word i clone j) κs)
      (s s' : AtExit (ended_of 1 (kinds-rounds-permute.ps W L C word i clone j) (kinds-rounds-permute.r W L C word i clone j)) κs)
      → Post-rounds-permute W L C word i clone j κs a r s → Post-rounds-permute W L C word i clone j κs a r' s' → r ≡ r'
  one_permute κs a r r' s s' p q = p ∙ sym q

  pub one_upper_constants : (κs : Lfts 1) (a : ArgsD (signature-upper-constants W word i clone j) κs) (r r' : ResD (signature-upper-constants W word i clone j) κs)
      (s s' : AtExit (ended_of 1 (kinds-upper-constants.ps W L C word i clone j) (kinds-upper-constants.r W L C word i clone j)) κs)
      → Post-upper-constants W L C word i clone j κs a r s → Post-upper-constants W L C word i clone j κs a r' s' → r ≡ r'
  one_upper_constants κs a r r' s s' p q = let e = p ∙ sym q in λ k. record { 0 = row_at (e k) 0; 1 = row_at (e k) 1 }
