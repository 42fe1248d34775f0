-- `words::w32`: the machine's own way to write one.
use Rattle.std.proofs.Common.{◌∙◌}
use Rattle.norx.proofs.Loads.{store4}
use Rattle.words.proofs.w32.U32Word.store.Goals as goal

pub returns-then-out-eq4 : goal.returns-then-out-eq4
returns-then-out-eq4 c = rw c.if-out-eq4.true (c.copy_from_slice.ensures.after ∙ c.to_le_bytes.ensures ∙ store4 c.args.self)
