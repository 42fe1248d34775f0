-- `session::parts::runs_of`: by the counts, where the note is within its limit.
use mathlib.Core.Path.{sym, ◌∙◌}
use borrow.Author.Tests.{le-leb, lt-leb}
use Rattle.answers.proofs.Tests.{cond_true, cond_false}
use Rattle.places.specs.declared.Part.TheVariants.{Note}
use Rattle.places.specs.Places.{limit_of}
use Rattle.session.proofs.parts.runs_of.Goals as goal

pub returns-then-p-le-LONGEST_NOTE : goal.returns-then-p-le-LONGEST_NOTE
returns-then-p-le-LONGEST_NOTE g c = c.runs.ensures ∙ sym (cond_true _ _ 0 (le-leb c.args.p.note (limit_of Note) c.if-p-le-LONGEST_NOTE.true))

pub returns-else-p-le-LONGEST_NOTE : goal.returns-else-p-le-LONGEST_NOTE
returns-else-p-le-LONGEST_NOTE g c = sym (cond_false _ _ 0 (lt-leb c.args.p.note (limit_of Note) c.if-p-le-LONGEST_NOTE.false))
