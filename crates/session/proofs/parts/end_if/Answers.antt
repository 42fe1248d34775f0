-- `session::parts::end_if`: a part ends, or does not.
use mathlib.Core.Path.{◌≡◌}
use Rattle.session.specs.Sessions.{end_if}
use Rattle.rules.specs.Rules.{rounds_of}
use Rattle.rules.proofs.Limits.{rounds_asked}
use Rattle.session.proofs.parts.end_if.Goals as goal

pub returns-then-due : goal.returns-then-due
unfolding end_if
returns-then-due g c =
    let x = c.args in
    let asked : rounds_of g.W.Word.width x.rounds ≡ x.rounds = rounds_asked g.W.Word.width x.rounds c.requires in
    rw c.if-due.true (rw asked at c.end.ensures)

pub returns-else-due : goal.returns-else-due
unfolding end_if
returns-else-due g c = rw c.if-due.false
