-- `cutting::number`: the bytes of the number, of which 64 bits matter.
use mathlib.Core.Path.{ap, ◌∙◌}
use Rattle.norx.specs.Norx.{bytes_of}
use Rattle.norx.proofs.Loads.{store8}
use Rattle.cutting.specs.Cutting.{segment_number}
use Rattle.cutting.proofs.Cuts.{eight_of}
use Rattle.cutting.proofs.number.Goals as goal

pub returns : goal.returns
returns c =
    let x = c.args in
    c.to_le_bytes.ensures ∙ store8 c.number_word.result ∙ ap (bytes_of 8) c.number_word.ensures ∙ eight_of (segment_number x.i x.last)
