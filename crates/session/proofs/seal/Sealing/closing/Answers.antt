-- `session::seal::Sealing::closing`: the tag and the closed session, or nothing changed.
use Rattle.std.specs.Prelude.{length, refl}
use Rattle.std.proofs.Common.{ap, sym, ◌∙◌}
use Rattle.std.proofs.lemmas.Bool.{eq-eqb}
use Rattle.norx.specs.Norx.{State, tag_bits, tag_of}
use Rattle.norx.proofs.Widths.{tag_is_row}
use Rattle.answers.proofs.Chain.{found_done, found_refused}
use Rattle.rules.specs.Rules.{tag_bytes}
use Rattle.rules.proofs.Limits.{rounds_asked}
use Rattle.session.specs.Seen.{Session}
use Rattle.session.specs.Kinds.{sealing_of}
use Rattle.session.proofs.Steps.{CloseFound, TagMade, close_fits, close_done, close_tag_lem, close_kept, close_left}
use Rattle.session.proofs.seal.Sealing.closing.Goals as goal

pub readied-ended-requires : goal.readied-ended-requires
readied-ended-requires g c =
    let w = g.W.Word.width in
    let K = sealing_of g.row.W.Denot w in
    let x = c.args in
    let i = c.self-inside.inside.0.0 in
    let s = K.make i.place i.state i.key in
    let found : CloseFound K s x.edition x.tag.now = record {
      place = _;
      answer = _;
      place_is = refl;
      answer_is = rw (c.row_bytes.ensures, sym (tag_is_row w)) at c.close_answer-answer.ensures;
    } in
    let done = found_done c.close_answer-answer.result c.is_err.ensures.value c.if-is_err.false in
    let fits = close_fits K s x.edition x.tag.now found done in (fits.0, fits.1)

pub returns : goal.returns
returns g c =
    let w = g.W.Word.width in
    let K = sealing_of g.row.W.Denot w in
    let x = c.args in
    let i = c.self-inside.inside.0.0 in
    let s = K.make i.place i.state i.key in
    let found : CloseFound K s x.edition x.tag.now = record {
      place = _;
      answer = _;
      place_is = refl;
      answer_is = rw (c.row_bytes.ensures, sym (tag_is_row w)) at c.close_answer-answer.ensures;
    } in
    let done = found_done c.close_answer-answer.result c.is_err.ensures.value c.if-is_err.false in
    let p = s.0.place in
    let fits = close_fits K s x.edition x.tag.now found done in
    let asked = rounds_asked w p.terms.rounds fits.1 in
    let made : TagMade K s p = record { tag = _; tag_is = refl } in
    let whole = eq-eqb (length x.tag.now) (tag_bytes w) fits.2 in
    let written =
    rw (asked, whole) at c.tag.ensures ∙ ap (λ (t : State). tag_of w p.terms.rounds (tag_bits w) s.0.key t) c.readied-ended.ensures in
    rw (← c.self.view_is, ← c.self-inside.view_is) (record {
      step = close_done K s x.edition x.tag.now found done made _ _ refl (ap (λ (s : Session g.row.W.Denot). record { 0 = s }) c.closed.ensures);
      tag = written ∙ close_tag_lem K s x.edition x.tag.now found done made;
    })

pub returns-then-is_err : goal.returns-then-is_err
returns-then-is_err g c =
    let w = g.W.Word.width in
    let K = sealing_of g.row.W.Denot w in
    let x = c.args in
    let i = c.self-inside.inside.0.0 in
    let s = K.make i.place i.state i.key in
    let found : CloseFound K s x.edition x.tag.now = record {
      place = _;
      answer = _;
      place_is = refl;
      answer_is = rw (c.row_bytes.ensures, sym (tag_is_row w)) at c.close_answer-answer.ensures;
    } in
    let not_done = found_refused c.close_answer-answer.result c.is_err.ensures.value c.if-is_err.true in
    rw (← c.self.view_is, ← c.self-inside.view_is) (record {
      step = close_kept K s x.edition x.tag.now found not_done;
      tag = close_left K s x.edition x.tag.now found not_done;
    })
