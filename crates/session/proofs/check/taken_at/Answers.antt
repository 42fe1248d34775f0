-- `session::check::taken_at`: the parts before the piece are ended, and the piece is taken in.
use mathlib.Core.Path.{◌≡◌}
use Rattle.places.specs.declared.Part.TheVariants.{Note, Body, Trailer}
use Rattle.session.specs.Sessions.{checking}
use Rattle.session.proofs.InParts.{taken_at_of}
use Rattle.rules.specs.Rules.{rounds_of}
use Rattle.rules.proofs.Limits.{rounds_asked}
use Rattle.session.proofs.check.taken_at.Goals as goal

pub returns-in-Note : goal.returns-in-Note
returns-in-Note g c =
    let x = c.args in
    let asked : rounds_of g.W.Word.width x.p.terms.rounds ≡ x.p.terms.rounds = rounds_asked g.W.Word.width x.p.terms.rounds c.requires.termed in
    taken_at_of g.W.Word.width x.p x.part Note x.bytes.now x.s c.in-Note.is c.rank.ensures c.readied-ready.ensures checking (rw asked at c.feed.ensures)

pub returns-in-Body : goal.returns-in-Body
returns-in-Body g c =
    let x = c.args in
    let asked : rounds_of g.W.Word.width x.p.terms.rounds ≡ x.p.terms.rounds = rounds_asked g.W.Word.width x.p.terms.rounds c.requires.termed in
    taken_at_of g.W.Word.width x.p x.part Body x.bytes.now x.s c.in-Body.is c.rank.ensures c.readied-ready.ensures checking (rw asked at c.open.ensures)

pub returns-in-Trailer : goal.returns-in-Trailer
returns-in-Trailer g c =
    let x = c.args in
    let asked : rounds_of g.W.Word.width x.p.terms.rounds ≡ x.p.terms.rounds = rounds_asked g.W.Word.width x.p.terms.rounds c.requires.termed in
    taken_at_of g.W.Word.width x.p x.part Trailer x.bytes.now x.s c.in-Trailer.is c.rank.ensures c.readied-ready.ensures checking (rw asked at c.feed-in-Trailer.ensures)
