-- `words::w32`: the machine's own way to read a word.
use Rattle.std.proofs.Common.{◌∙◌}
use Rattle.norx.proofs.Loads.{load4}
use Rattle.words.proofs.w32.U32Word.load.Goals as goal

pub returns-then-b-eq4 : goal.returns-then-b-eq4
returns-then-b-eq4 c = rw c.if-b-eq4.true (c.from_le_bytes.ensures ∙ load4 c.args.b.now c.if-b-eq4.true)
