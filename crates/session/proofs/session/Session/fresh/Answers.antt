-- `session::session::Session::fresh`: open in the note, with the front in its state.
use Rattle.std.proofs.Common.{refl}
use Rattle.session.specs.Kinds.{plain_of}
use Rattle.session.proofs.InParts.{row_of_lem}
use Rattle.session.proofs.Steps.{fresh_made}
use Rattle.session.proofs.session.Session.fresh.Goals as goal

pub returns : goal.returns
returns g c =
    let w = g.W.Word.width in
    let x = c.args in
    fresh_made (plain_of _ w) x.key.now x.nonce.now _ x.terms _ _ _ (row_of_lem w x.key.now c.requires.0 c.row-key.ensures) c.fresh_state.ensures c.fresh_place.ensures refl
