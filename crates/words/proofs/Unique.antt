-- Any two results that the contract of a public function allows are equal, with what every lent buffer then holds, at every width. Stated over the contracts' own readings.
-- Assumes nothing.
use mathlib.Core.Path.{◌≡◌, sym, ap, ◌∙◌}
use mir.Syntax.{Dict}
use denote.RattleType.{RattleType}
use denote.Param.Laws.{Laws, IsCopy}
use denote.Triple.Clauses.{AtExit}
use contract.Lifetimes.{Lfts}
use borrow.Fn.World.{ArgsD, ResD}
use borrow.Fn.Kinds.{ended_of}
use Rattle.std.specs.declared.clone.Clone as Clone
use Rattle.norx.specs.Norx.{row, word_at}
use Rattle.words.specs.declared.word.Word as Word
use Rattle.words.specs.contracts.word.Word.bytes.{signature as signature-word-Word-bytes}
use Rattle.words.proofs.word.Word.bytes.Kinds as kinds-word-Word-bytes
use Rattle.words.proofs.word.Word.bytes.Reads.{Post as Post-word-Word-bytes}
use Rattle.words.specs.contracts.word.Word.bits.{signature as signature-word-Word-bits}
use Rattle.words.proofs.word.Word.bits.Kinds as kinds-word-Word-bits
use Rattle.words.proofs.word.Word.bits.Reads.{Post as Post-word-Word-bits}
use Rattle.words.specs.contracts.word.Word.number.{signature as signature-word-Word-number}
use Rattle.words.proofs.word.Word.number.Kinds as kinds-word-Word-number
use Rattle.words.proofs.word.Word.number.Reads.{Post as Post-word-Word-number}
use Rattle.words.specs.contracts.word.Word.r0.{signature as signature-word-Word-r0}
use Rattle.words.proofs.word.Word.r0.Kinds as kinds-word-Word-r0
use Rattle.words.proofs.word.Word.r0.Reads.{Post as Post-word-Word-r0}
use Rattle.words.specs.contracts.word.Word.r1.{signature as signature-word-Word-r1}
use Rattle.words.proofs.word.Word.r1.Kinds as kinds-word-Word-r1
use Rattle.words.proofs.word.Word.r1.Reads.{Post as Post-word-Word-r1}
use Rattle.words.specs.contracts.word.Word.r2.{signature as signature-word-Word-r2}
use Rattle.words.proofs.word.Word.r2.Kinds as kinds-word-Word-r2
use Rattle.words.proofs.word.Word.r2.Reads.{Post as Post-word-Word-r2}
use Rattle.words.specs.contracts.word.Word.r3.{signature as signature-word-Word-r3}
use Rattle.words.proofs.word.Word.r3.Kinds as kinds-word-Word-r3
use Rattle.words.proofs.word.Word.r3.Reads.{Post as Post-word-Word-r3}
use Rattle.words.specs.contracts.word.Word.u8_to_u11.{signature as signature-word-Word-u8-to-u11}
use Rattle.words.proofs.word.Word.u8_to_u11.Kinds as kinds-word-Word-u8-to-u11
use Rattle.words.proofs.word.Word.u8_to_u11.Reads.{Post as Post-word-Word-u8-to-u11}
use Rattle.words.specs.contracts.word.Word.u12_to_u15.{signature as signature-word-Word-u12-to-u15}
use Rattle.words.proofs.word.Word.u12_to_u15.Kinds as kinds-word-Word-u12-to-u15
use Rattle.words.proofs.word.Word.u12_to_u15.Reads.{Post as Post-word-Word-u12-to-u15}
use Rattle.words.specs.contracts.word.Word.rounds_of.{signature as signature-word-Word-rounds-of}
use Rattle.words.proofs.word.Word.rounds_of.Kinds as kinds-word-Word-rounds-of
use Rattle.words.proofs.word.Word.rounds_of.Reads.{Post as Post-word-Word-rounds-of}
use Rattle.words.specs.contracts.word.Word.of_number.{signature as signature-word-Word-of-number}
use Rattle.words.proofs.word.Word.of_number.Kinds as kinds-word-Word-of-number
use Rattle.words.proofs.word.Word.of_number.Reads.{Post as Post-word-Word-of-number}
use Rattle.words.specs.contracts.word.Word.load.{signature as signature-word-Word-load}
use Rattle.words.proofs.word.Word.load.Kinds as kinds-word-Word-load
use Rattle.words.proofs.word.Word.load.Reads.{Post as Post-word-Word-load}
use Rattle.words.specs.contracts.word.Word.store.{signature as signature-word-Word-store}
use Rattle.words.proofs.word.Word.store.Kinds as kinds-word-Word-store
use Rattle.words.proofs.word.Word.store.Reads.{Post as Post-word-Word-store}
use Rattle.words.specs.contracts.word.Word.xor.{signature as signature-word-Word-xor}
use Rattle.words.proofs.word.Word.xor.Kinds as kinds-word-Word-xor
use Rattle.words.proofs.word.Word.xor.Reads.{Post as Post-word-Word-xor}
use Rattle.words.specs.contracts.word.Word.h.{signature as signature-word-Word-h}
use Rattle.words.proofs.word.Word.h.Kinds as kinds-word-Word-h
use Rattle.words.proofs.word.Word.h.Reads.{Post as Post-word-Word-h}
use Rattle.words.specs.contracts.word.Word.rotated.{signature as signature-word-Word-rotated}
use Rattle.words.proofs.word.Word.rotated.Kinds as kinds-word-Word-rotated
use Rattle.words.proofs.word.Word.rotated.Reads.{Post as Post-word-Word-rotated}
use Rattle.words.specs.contracts.word.Word.owned.{signature as signature-word-Word-owned}
use Rattle.words.proofs.word.Word.owned.Kinds as kinds-word-Word-owned
use Rattle.words.proofs.word.Word.owned.Reads.{Post as Post-word-Word-owned}
use Rattle.words.specs.contracts.word.row_bytes.{signature as signature-word-row-bytes}
use Rattle.words.proofs.word.row_bytes.Kinds as kinds-word-row-bytes
use Rattle.words.proofs.word.row_bytes.Reads.{Post as Post-word-row-bytes}
use Rattle.words.specs.contracts.word.rate.{signature as signature-word-rate}
use Rattle.words.proofs.word.rate.Kinds as kinds-word-rate
use Rattle.words.proofs.word.rate.Reads.{Post as Post-word-rate}
use Rattle.words.specs.contracts.runs.runs.{signature as signature-runs-runs}
use Rattle.words.proofs.runs.runs.Kinds as kinds-runs-runs
use Rattle.words.proofs.runs.runs.Reads.{Post as Post-runs-runs}
use Rattle.words.specs.contracts.state.Row.zeros.{signature as signature-state-Row-zeros}
use Rattle.words.proofs.state.Row.zeros.Kinds as kinds-state-Row-zeros
use Rattle.words.proofs.state.Row.zeros.Reads.{Post as Post-state-Row-zeros}
use Rattle.words.specs.contracts.state.Row.xor.{signature as signature-state-Row-xor}
use Rattle.words.proofs.state.Row.xor.Kinds as kinds-state-Row-xor
use Rattle.words.proofs.state.Row.xor.Reads.{Post as Post-state-Row-xor}
use Rattle.words.specs.contracts.state.Row.of_numbers.{signature as signature-state-Row-of-numbers}
use Rattle.words.proofs.state.Row.of_numbers.Kinds as kinds-state-Row-of-numbers
use Rattle.words.proofs.state.Row.of_numbers.Reads.{Post as Post-state-Row-of-numbers}
use Rattle.words.specs.contracts.state.Row.number.{signature as signature-state-Row-number}
use Rattle.words.proofs.state.Row.number.Kinds as kinds-state-Row-number
use Rattle.words.proofs.state.Row.number.Reads.{Post as Post-state-Row-number}
use Rattle.words.specs.contracts.state.Row.owned.{signature as signature-state-Row-owned}
use Rattle.words.proofs.state.Row.owned.Kinds as kinds-state-Row-owned
use Rattle.words.proofs.state.Row.owned.Reads.{Post as Post-state-Row-owned}
use Rattle.words.specs.contracts.state.State.zeros.{signature as signature-state-State-zeros}
use Rattle.words.proofs.state.State.zeros.Kinds as kinds-state-State-zeros
use Rattle.words.proofs.state.State.zeros.Reads.{Post as Post-state-State-zeros}
use Rattle.words.specs.contracts.state.State.number.{signature as signature-state-State-number}
use Rattle.words.proofs.state.State.number.Kinds as kinds-state-State-number
use Rattle.words.proofs.state.State.number.Reads.{Post as Post-state-State-number}
use Rattle.words.specs.contracts.state.State.owned.{signature as signature-state-State-owned}
use Rattle.words.proofs.state.State.owned.Kinds as kinds-state-State-owned
use Rattle.words.proofs.state.State.owned.Reads.{Post as Post-state-State-owned}
use Rattle.words.specs.contracts.w32.U32Word.load.{signature as signature-w32-U32Word-load}
use Rattle.words.proofs.w32.U32Word.load.Kinds as kinds-w32-U32Word-load
use Rattle.words.proofs.w32.U32Word.load.Reads.{Post as Post-w32-U32Word-load}
use Rattle.words.specs.contracts.w32.U32Word.store.{signature as signature-w32-U32Word-store}
use Rattle.words.proofs.w32.U32Word.store.Kinds as kinds-w32-U32Word-store
use Rattle.words.proofs.w32.U32Word.store.Reads.{Post as Post-w32-U32Word-store}
use Rattle.words.specs.contracts.w32.U32Word.rotated.{signature as signature-w32-U32Word-rotated}
use Rattle.words.proofs.w32.U32Word.rotated.Kinds as kinds-w32-U32Word-rotated
use Rattle.words.proofs.w32.U32Word.rotated.Reads.{Post as Post-w32-U32Word-rotated}
use Rattle.words.specs.contracts.w64.U64Word.load.{signature as signature-w64-U64Word-load}
use Rattle.words.proofs.w64.U64Word.load.Kinds as kinds-w64-U64Word-load
use Rattle.words.proofs.w64.U64Word.load.Reads.{Post as Post-w64-U64Word-load}
use Rattle.words.specs.contracts.w64.U64Word.store.{signature as signature-w64-U64Word-store}
use Rattle.words.proofs.w64.U64Word.store.Kinds as kinds-w64-U64Word-store
use Rattle.words.proofs.w64.U64Word.store.Reads.{Post as Post-w64-U64Word-store}
use Rattle.words.specs.contracts.w64.U64Word.rotated.{signature as signature-w64-U64Word-rotated}
use Rattle.words.proofs.w64.U64Word.rotated.Kinds as kinds-w64-U64Word-rotated
use Rattle.words.proofs.w64.U64Word.rotated.Reads.{Post as Post-w64-U64Word-rotated}

module _ (W : RattleType) (L : Laws W) (C : IsCopy W) (word : Word.Ghosts W.Denot) (i : Dict) (clone : Clone.Ghosts W.Denot) (j : Dict) where
  -- a word is its number
  same_word : (x y : W.Denot) → word.value x ≡ word.value y → x ≡ y
  same_word x y e = sym (word.back x) ∙ ap word.word e ∙ word.back y

  same_four : (κs : Lfts 1) (r r' : ResD (signature-word-Word-u8-to-u11 W) κs)
      → row (word.value r.0) (word.value r.1) (word.value r.2) (word.value r.3)
      ≡ row (word.value r'.0) (word.value r'.1) (word.value r'.2) (word.value r'.3) → r ≡ r'
  same_four κs r r' e = λ k. record {
    0 = same_word r.0 r'.0 (ap (λ t. word_at t 0) e) k;
    1 = same_word r.1 r'.1 (ap (λ t. word_at t 1) e) k;
    2 = same_word r.2 r'.2 (ap (λ t. word_at t 2) e) k;
    3 = same_word r.3 r'.3 (ap (λ t. word_at t 3) e) k;
  }

  pub one_bytes : (κs : Lfts 1) (a : ArgsD (signature-word-Word-bytes W) κs) (r r' : ResD (signature-word-Word-bytes W) κs)
      (s s' : AtExit (ended_of 1 (kinds-word-Word-bytes.ps W L C) (kinds-word-Word-bytes.r W L C)) κs)
      → Post-word-Word-bytes W L C word i clone j κs a r s → Post-word-Word-bytes W L C word i clone j κs a r' s' → r ≡ r'
  one_bytes κs a r r' s s' p q = p ∙ sym q

  pub one_bits : (κs : Lfts 1) (a : ArgsD (signature-word-Word-bits W) κs) (r r' : ResD (signature-word-Word-bits W) κs)
      (s s' : AtExit (ended_of 1 (kinds-word-Word-bits.ps W L C) (kinds-word-Word-bits.r W L C)) κs)
      → Post-word-Word-bits W L C word i clone j κs a r s → Post-word-Word-bits W L C word i clone j κs a r' s' → r ≡ r'
  one_bits κs a r r' s s' p q = p ∙ sym q

  pub one_r0 : (κs : Lfts 1) (a : ArgsD (signature-word-Word-r0 W) κs) (r r' : ResD (signature-word-Word-r0 W) κs)
      (s s' : AtExit (ended_of 1 (kinds-word-Word-r0.ps W L C) (kinds-word-Word-r0.r W L C)) κs)
      → Post-word-Word-r0 W L C word i clone j κs a r s → Post-word-Word-r0 W L C word i clone j κs a r' s' → r ≡ r'
  one_r0 κs a r r' s s' p q = p ∙ sym q

  pub one_r1 : (κs : Lfts 1) (a : ArgsD (signature-word-Word-r1 W) κs) (r r' : ResD (signature-word-Word-r1 W) κs)
      (s s' : AtExit (ended_of 1 (kinds-word-Word-r1.ps W L C) (kinds-word-Word-r1.r W L C)) κs)
      → Post-word-Word-r1 W L C word i clone j κs a r s → Post-word-Word-r1 W L C word i clone j κs a r' s' → r ≡ r'
  one_r1 κs a r r' s s' p q = p ∙ sym q

  pub one_r2 : (κs : Lfts 1) (a : ArgsD (signature-word-Word-r2 W) κs) (r r' : ResD (signature-word-Word-r2 W) κs)
      (s s' : AtExit (ended_of 1 (kinds-word-Word-r2.ps W L C) (kinds-word-Word-r2.r W L C)) κs)
      → Post-word-Word-r2 W L C word i clone j κs a r s → Post-word-Word-r2 W L C word i clone j κs a r' s' → r ≡ r'
  one_r2 κs a r r' s s' p q = p ∙ sym q

  pub one_r3 : (κs : Lfts 1) (a : ArgsD (signature-word-Word-r3 W) κs) (r r' : ResD (signature-word-Word-r3 W) κs)
      (s s' : AtExit (ended_of 1 (kinds-word-Word-r3.ps W L C) (kinds-word-Word-r3.r W L C)) κs)
      → Post-word-Word-r3 W L C word i clone j κs a r s → Post-word-Word-r3 W L C word i clone j κs a r' s' → r ≡ r'
  one_r3 κs a r r' s s' p q = p ∙ sym q

  pub one_u8_to_u11 : (κs : Lfts 1) (a : ArgsD (signature-word-Word-u8-to-u11 W) κs) (r r' : ResD (signature-word-Word-u8-to-u11 W) κs)
      (s s' : AtExit (ended_of 1 (kinds-word-Word-u8-to-u11.ps W L C) (kinds-word-Word-u8-to-u11.r W L C)) κs)
      → Post-word-Word-u8-to-u11 W L C word i clone j κs a r s → Post-word-Word-u8-to-u11 W L C word i clone j κs a r' s' → r ≡ r'
  one_u8_to_u11 κs a r r' s s' p q = same_four κs r r' (p ∙ sym q)

  pub one_u12_to_u15 : (κs : Lfts 1) (a : ArgsD (signature-word-Word-u12-to-u15 W) κs) (r r' : ResD (signature-word-Word-u12-to-u15 W) κs)
      (s s' : AtExit (ended_of 1 (kinds-word-Word-u12-to-u15.ps W L C) (kinds-word-Word-u12-to-u15.r W L C)) κs)
      → Post-word-Word-u12-to-u15 W L C word i clone j κs a r s → Post-word-Word-u12-to-u15 W L C word i clone j κs a r' s' → r ≡ r'
  one_u12_to_u15 κs a r r' s s' p q = same_four κs r r' (p ∙ sym q)

  pub one_rounds_of : (κs : Lfts 1) (a : ArgsD (signature-word-Word-rounds-of W) κs) (r r' : ResD (signature-word-Word-rounds-of W) κs)
      (s s' : AtExit (ended_of 1 (kinds-word-Word-rounds-of.ps W L C) (kinds-word-Word-rounds-of.r W L C)) κs)
      → Post-word-Word-rounds-of W L C word i clone j κs a r s → Post-word-Word-rounds-of W L C word i clone j κs a r' s' → r ≡ r'
  one_rounds_of κs a r r' s s' p q = p ∙ sym q

  pub one_of_number : (κs : Lfts 1) (a : ArgsD (signature-word-Word-of-number W) κs) (r r' : ResD (signature-word-Word-of-number W) κs)
      (s s' : AtExit (ended_of 1 (kinds-word-Word-of-number.ps W L C) (kinds-word-Word-of-number.r W L C)) κs)
      → Post-word-Word-of-number W L C word i clone j κs a r s → Post-word-Word-of-number W L C word i clone j κs a r' s' → r ≡ r'
  one_of_number κs a r r' s s' p q = same_word r r' (p ∙ sym q)

  pub one_number : (κs : Lfts 1) (a : ArgsD (signature-word-Word-number W) κs) (r r' : ResD (signature-word-Word-number W) κs)
      (s s' : AtExit (ended_of 1 (kinds-word-Word-number.ps W L C) (kinds-word-Word-number.r W L C)) κs)
      → Post-word-Word-number W L C word i clone j κs a r s → Post-word-Word-number W L C word i clone j κs a r' s' → r ≡ r'
  one_number κs a r r' s s' p q = p ∙ sym q

  pub one_load : (κs : Lfts 2) (a : ArgsD (signature-word-Word-load W) κs) (r r' : ResD (signature-word-Word-load W) κs)
      (s s' : AtExit (ended_of 2 (kinds-word-Word-load.ps W L C) (kinds-word-Word-load.r W L C)) κs)
      → Post-word-Word-load W L C word i clone j κs a r s → Post-word-Word-load W L C word i clone j κs a r' s' → r ≡ r'
  one_load κs a r r' s s' p q = same_word r r' (p ∙ sym q)

  pub one_store : (κs : Lfts 2) (a : ArgsD (signature-word-Word-store W) κs) (r r' : ResD (signature-word-Word-store W) κs)
      (s s' : AtExit (ended_of 2 (kinds-word-Word-store.ps W L C) (kinds-word-Word-store.r W L C)) κs)
      → Post-word-Word-store W L C word i clone j κs a r s → Post-word-Word-store W L C word i clone j κs a r' s' → s.1.0.now ≡ s'.1.0.now
  one_store κs a r r' s s' p q = p ∙ sym q

  pub one_xor : (κs : Lfts 1) (a : ArgsD (signature-word-Word-xor W) κs) (r r' : ResD (signature-word-Word-xor W) κs)
      (s s' : AtExit (ended_of 1 (kinds-word-Word-xor.ps W L C) (kinds-word-Word-xor.r W L C)) κs)
      → Post-word-Word-xor W L C word i clone j κs a r s → Post-word-Word-xor W L C word i clone j κs a r' s' → r ≡ r'
  one_xor κs a r r' s s' p q = same_word r r' (p ∙ sym q)

  pub one_h : (κs : Lfts 1) (a : ArgsD (signature-word-Word-h W) κs) (r r' : ResD (signature-word-Word-h W) κs)
      (s s' : AtExit (ended_of 1 (kinds-word-Word-h.ps W L C) (kinds-word-Word-h.r W L C)) κs)
      → Post-word-Word-h W L C word i clone j κs a r s → Post-word-Word-h W L C word i clone j κs a r' s' → r ≡ r'
  one_h κs a r r' s s' p q = same_word r r' (p ∙ sym q)

  pub one_rotated : (κs : Lfts 1) (a : ArgsD (signature-word-Word-rotated W) κs) (r r' : ResD (signature-word-Word-rotated W) κs)
      (s s' : AtExit (ended_of 1 (kinds-word-Word-rotated.ps W L C) (kinds-word-Word-rotated.r W L C)) κs)
      → Post-word-Word-rotated W L C word i clone j κs a r s → Post-word-Word-rotated W L C word i clone j κs a r' s' → r ≡ r'
  one_rotated κs a r r' s s' p q = same_word r r' (p ∙ sym q)

  pub one_owned : (κs : Lfts 1) (a : ArgsD (signature-word-Word-owned W) κs) (r r' : ResD (signature-word-Word-owned W) κs)
      (s s' : AtExit (ended_of 1 (kinds-word-Word-owned.ps W L C) (kinds-word-Word-owned.r W L C)) κs)
      → Post-word-Word-owned W L C word i clone j κs a r s → Post-word-Word-owned W L C word i clone j κs a r' s' → r ≡ r'
  one_owned κs a r r' s s' p q = p.0 ∙ sym q.0

  pub one_row_bytes : (κs : Lfts 1) (a : ArgsD (signature-word-row-bytes W) κs) (r r' : ResD (signature-word-row-bytes W) κs)
      (s s' : AtExit (ended_of 1 (kinds-word-row-bytes.ps W L C) (kinds-word-row-bytes.r W L C)) κs)
      → Post-word-row-bytes W L C word i clone j κs a r s → Post-word-row-bytes W L C word i clone j κs a r' s' → r ≡ r'
  one_row_bytes κs a r r' s s' p q = p ∙ sym q

  pub one_rate : (κs : Lfts 1) (a : ArgsD (signature-word-rate W) κs) (r r' : ResD (signature-word-rate W) κs)
      (s s' : AtExit (ended_of 1 (kinds-word-rate.ps W L C) (kinds-word-rate.r W L C)) κs)
      → Post-word-rate W L C word i clone j κs a r s → Post-word-rate W L C word i clone j κs a r' s' → r ≡ r'
  one_rate κs a r r' s s' p q = p ∙ sym q

  pub one_runs : (κs : Lfts 1) (a : ArgsD (signature-runs-runs W) κs) (r r' : ResD (signature-runs-runs W) κs)
      (s s' : AtExit (ended_of 1 (kinds-runs-runs.ps W L C) (kinds-runs-runs.r W L C)) κs)
      → Post-runs-runs W L C word i clone j κs a r s → Post-runs-runs W L C word i clone j κs a r' s' → r ≡ r'
  one_runs κs a r r' s s' p q = p ∙ sym q

  pub one_row_zeros : (κs : Lfts 1) (a : ArgsD (signature-state-Row-zeros W word i clone j) κs) (r r' : ResD (signature-state-Row-zeros W word i clone j) κs)
      (s s' : AtExit (ended_of 1 (kinds-state-Row-zeros.ps W L C word i clone j) (kinds-state-Row-zeros.r W L C word i clone j)) κs)
      → Post-state-Row-zeros W L C word i clone j κs a r s → Post-state-Row-zeros W L C word i clone j κs a r' s' → r ≡ r'
  one_row_zeros κs a r r' s s' p q = p ∙ sym q

  pub one_row_xor : (κs : Lfts 1) (a : ArgsD (signature-state-Row-xor W word i clone j) κs) (r r' : ResD (signature-state-Row-xor W word i clone j) κs)
      (s s' : AtExit (ended_of 1 (kinds-state-Row-xor.ps W L C word i clone j) (kinds-state-Row-xor.r W L C word i clone j)) κs)
      → Post-state-Row-xor W L C word i clone j κs a r s → Post-state-Row-xor W L C word i clone j κs a r' s' → r ≡ r'
  one_row_xor κs a r r' s s' p q = p ∙ sym q

  pub one_row_of_numbers : (κs : Lfts 1) (a : ArgsD (signature-state-Row-of-numbers W word i clone j) κs) (r r' : ResD (signature-state-Row-of-numbers W word i clone j) κs)
      (s s' : AtExit (ended_of 1 (kinds-state-Row-of-numbers.ps W L C word i clone j) (kinds-state-Row-of-numbers.r W L C word i clone j)) κs)
      → Post-state-Row-of-numbers W L C word i clone j κs a r s → Post-state-Row-of-numbers W L C word i clone j κs a r' s' → r ≡ r'
  one_row_of_numbers κs a r r' s s' p q = p ∙ sym q

  pub one_row_number : (κs : Lfts 1) (a : ArgsD (signature-state-Row-number W word i clone j) κs) (r r' : ResD (signature-state-Row-number W word i clone j) κs)
      (s s' : AtExit (ended_of 1 (kinds-state-Row-number.ps W L C word i clone j) (kinds-state-Row-number.r W L C word i clone j)) κs)
      → Post-state-Row-number W L C word i clone j κs a r s → Post-state-Row-number W L C word i clone j κs a r' s' → r ≡ r'
  one_row_number κs a r r' s s' p q = p ∙ sym q

  pub one_row_owned : (κs : Lfts 1) (a : ArgsD (signature-state-Row-owned W word i clone j) κs) (r r' : ResD (signature-state-Row-owned W word i clone j) κs)
      (s s' : AtExit (ended_of 1 (kinds-state-Row-owned.ps W L C word i clone j) (kinds-state-Row-owned.r W L C word i clone j)) κs)
      → Post-state-Row-owned W L C word i clone j κs a r s → Post-state-Row-owned W L C word i clone j κs a r' s' → r ≡ r'
  one_row_owned κs a r r' s s' p q = p.0 ∙ sym q.0

  pub one_state_zeros : (κs : Lfts 1) (a : ArgsD (signature-state-State-zeros W word i clone j) κs) (r r' : ResD (signature-state-State-zeros W word i clone j) κs)
      (s s' : AtExit (ended_of 1 (kinds-state-State-zeros.ps W L C word i clone j) (kinds-state-State-zeros.r W L C word i clone j)) κs)
      → Post-state-State-zeros W L C word i clone j κs a r s → Post-state-State-zeros W L C word i clone j κs a r' s' → r ≡ r'
  one_state_zeros κs a r r' s s' p q = p ∙ sym q

  pub one_state_number : (κs : Lfts 1) (a : ArgsD (signature-state-State-number W word i clone j) κs) (r r' : ResD (signature-state-State-number W word i clone j) κs)
      (s s' : AtExit (ended_of 1 (kinds-state-State-number.ps W L C word i clone j) (kinds-state-State-number.r W L C word i clone j)) κs)
      → Post-state-State-number W L C word i clone j κs a r s → Post-state-State-number W L C word i clone j κs a r' s' → r ≡ r'
  one_state_number κs a r r' s s' p q = p ∙ sym q

  pub one_state_owned : (κs : Lfts 1) (a : ArgsD (signature-state-State-owned W word i clone j) κs) (r r' : ResD (signature-state-State-owned W word i clone j) κs)
      (s s' : AtExit (ended_of 1 (kinds-state-State-owned.ps W L C word i clone j) (kinds-state-State-owned.r W L C word i clone j)) κs)
      → Post-state-State-owned W L C word i clone j κs a r s → Post-state-State-owned W L C word i clone j κs a r' s' → r ≡ r'
  one_state_owned κs a r r' s s' p q = p.0 ∙ sym q.0

pub one_load_32 : (κs : Lfts 1) (a : ArgsD signature-w32-U32Word-load κs) (r r' : ResD signature-w32-U32Word-load κs) (s s' : AtExit (ended_of 1 kinds-w32-U32Word-load.ps kinds-w32-U32Word-load.r) κs)
    → Post-w32-U32Word-load κs a r s → Post-w32-U32Word-load κs a r' s' → r ≡ r'
one_load_32 κs a r r' s s' p q = p ∙ sym q

pub one_store_32 : (κs : Lfts 1) (a : ArgsD signature-w32-U32Word-store κs) (r r' : ResD signature-w32-U32Word-store κs) (s s' : AtExit (ended_of 1 kinds-w32-U32Word-store.ps kinds-w32-U32Word-store.r) κs)
    → Post-w32-U32Word-store κs a r s → Post-w32-U32Word-store κs a r' s' → s.1.0.now ≡ s'.1.0.now
one_store_32 κs a r r' s s' p q = p ∙ sym q

pub one_rotated_32 : (κs : Lfts 0) (a : ArgsD signature-w32-U32Word-rotated κs) (r r' : ResD signature-w32-U32Word-rotated κs) (s s' : AtExit (ended_of 0 kinds-w32-U32Word-rotated.ps kinds-w32-U32Word-rotated.r) κs)
    → Post-w32-U32Word-rotated κs a r s → Post-w32-U32Word-rotated κs a r' s' → r ≡ r'
one_rotated_32 κs a r r' s s' p q = p ∙ sym q

pub one_load_64 : (κs : Lfts 1) (a : ArgsD signature-w64-U64Word-load κs) (r r' : ResD signature-w64-U64Word-load κs) (s s' : AtExit (ended_of 1 kinds-w64-U64Word-load.ps kinds-w64-U64Word-load.r) κs)
    → Post-w64-U64Word-load κs a r s → Post-w64-U64Word-load κs a r' s' → r ≡ r'
one_load_64 κs a r r' s s' p q = p ∙ sym q

pub one_store_64 : (κs : Lfts 1) (a : ArgsD signature-w64-U64Word-store κs) (r r' : ResD signature-w64-U64Word-store κs) (s s' : AtExit (ended_of 1 kinds-w64-U64Word-store.ps kinds-w64-U64Word-store.r) κs)
    → Post-w64-U64Word-store κs a r s → Post-w64-U64Word-store κs a r' s' → s.1.0.now ≡ s'.1.0.now
one_store_64 κs a r r' s s' p q = p ∙ sym q

pub one_rotated_64 : (κs : Lfts 0) (a : ArgsD signature-w64-U64Word-rotated κs) (r r' : ResD signature-w64-U64Word-rotated κs) (s s' : AtExit (ended_of 0 kinds-w64-U64Word-rotated.ps kinds-w64-U64Word-rotated.r) κs)
    → Post-w64-U64Word-rotated κs a r s → Post-w64-U64Word-rotated κs a r' s' → r ≡ r'
one_rotated_64 κs a r r' s s' p q = p ∙ sym q
