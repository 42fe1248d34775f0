-- `lists::line::ended_by`: a place within the text, and the byte there.
use Rattle.lists.proofs.Parts.{ended_beyond, ended_there}
use Rattle.lists.proofs.line.ended_by.Goals as goal

pub returns-in-Some : goal.returns-in-Some
returns-in-Some c =
    let there = c.in-Some.ensures.lookup.3 in
    ended_there c.args.text.now c.args.at c.args.stop _ there.0 (there.1 0)

pub returns-in-None : goal.returns-in-None
returns-in-None c = ended_beyond c.args.text.now c.args.at c.args.stop c.in-None.ensures.lookup.3
