-- `session::parts::fresh_state`: the state of a key and a nonce, with the front ahead of the note.
use mathlib.Core.Path.{◌≡◌}
use Rattle.norx.specs.Norx.{tag_bits}
use Rattle.session.proofs.InParts.{fresh_of_lem}
use Rattle.rules.specs.Rules.{rounds_of}
use Rattle.rules.proofs.Limits.{rounds_asked}
use Rattle.session.proofs.parts.fresh_state.Goals as goal

pub returns : goal.returns
returns g c =
    let x = c.args in
    let asked : rounds_of g.W.Word.width x.terms.rounds ≡ x.terms.rounds = rounds_asked g.W.Word.width x.terms.rounds c.requires.1 in
    fresh_of_lem g.W.Word.width (tag_bits g.W.Word.width) x.terms x.key x.nonce.now c.requires.0
    c.front-front.ensures c.row.ensures (rw asked at c.start-s.ensures) (rw asked at c.feed.ensures)
