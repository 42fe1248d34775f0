-- `words::w64`: H as the definition has it.
use Rattle.std.specs.Prelude.{refl}
use Rattle.norx.specs.Norx.{h_of}
use Rattle.words.proofs.w64.U64Word.h.Goals as goal

pub returns : goal.returns
unfolding h_of
returns c = refl
