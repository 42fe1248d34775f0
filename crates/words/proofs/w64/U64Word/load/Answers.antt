-- `words::w64`: the machine's own way to read a word.
use Rattle.std.proofs.Common.{◌∙◌}
use Rattle.norx.proofs.Loads.{load8}
use Rattle.words.proofs.w64.U64Word.load.Goals as goal

pub returns-then-b-eq8 : goal.returns-then-b-eq8
returns-then-b-eq8 c = rw c.if-b-eq8.true (c.from_le_bytes.ensures ∙ load8 c.args.b.now c.if-b-eq8.true)
