-- `lists::line::segment_at`: the text's front again, and the rest behind it.
use Rattle.lists.proofs.Parts.{front_other, front_same}
use Rattle.lists.proofs.line.segment_at.Goals as goal

pub returns-then-not-starts_with : goal.returns-then-not-starts_with
returns-then-not-starts_with c = front_other c.args.text.now c.args.at c.args.front c.args.i c.requires.1 c.if-not-starts_with.ensures.value

pub returns : goal.returns
returns c = front_same c.args.text.now c.args.at c.args.front c.args.i c.requires.1 c.if-not-starts_with.ensures.value c.rest_at.result c.rest_at.ensures
