-- `segments::at::before_body`: the start, the front, the note, and their end.
use mathlib.Core.Path.{◌≡◌}
use Rattle.norx.specs.Texts.{Bytes}
use Rattle.rules.specs.Rules.{rounds_of}
use Rattle.rules.proofs.Limits.{rounds_asked}
use Rattle.segments.proofs.States.{header_of}
use Rattle.segments.proofs.at.before_body.Goals as goal

pub returns : goal.returns
returns g c =
    let w = g.W.Word.width in
    let x = c.args in
    let asked : rounds_of w x.terms.rounds ≡ x.terms.rounds = rounds_asked w x.terms.rounds c.requires in
    let bytes : Bytes x.note.now = λ i. (c.type_inv.note i).fits in
    header_of w x.terms x.key x.nonce x.note.now bytes
    c.front-b.ensures (rw asked at c.start.ensures) (rw asked at c.feed-fronted.ensures) (rw asked at c.feed-noted.ensures) (rw asked at c.end.ensures)
