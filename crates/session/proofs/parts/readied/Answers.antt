-- `session::parts::readied`: the three parts in their order.
use Rattle.session.proofs.InParts.{readied_of}
use Rattle.session.proofs.parts.readied.Goals as goal

pub returns : goal.returns
returns g c =
    let x = c.args in
    readied_of g.W.Word.width x.p x.next x.s c.ends-ends_note.ensures c.end_if-a.ensures
    c.ends-ends_body.ensures c.end_if-b.ensures c.ends-ends_trailer.ensures c.end_if.ensures
