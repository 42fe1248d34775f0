-- `words::w64`: the machine's own way to write one.
use Rattle.std.proofs.Common.{◌∙◌}
use Rattle.norx.proofs.Loads.{store8}
use Rattle.words.proofs.w64.U64Word.store.Goals as goal

pub returns-then-out-eq8 : goal.returns-then-out-eq8
returns-then-out-eq8 c = rw c.if-out-eq8.true (c.copy_from_slice.ensures.after ∙ c.to_le_bytes.ensures ∙ store8 c.args.self)
