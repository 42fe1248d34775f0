-- `session::check::Checking::closing`: the verdict and the closed session, or nothing changed.
use Rattle.std.specs.Prelude.{Bool, Ok, refl}
use Rattle.std.proofs.Common.{ap, sym, ◌∙◌}
use Rattle.norx.specs.Norx.{State, tag_bits, tag_of, same}
use Rattle.norx.proofs.Widths.{tag_is_row}
use Rattle.answers.specs.declared.Refusal.TheVariants.{TagDiffers}
use Rattle.answers.specs.Answers.{need_of}
use Rattle.answers.proofs.Chain.{found_done, found_refused}
use Rattle.rules.proofs.Limits.{rounds_asked}
use Rattle.session.specs.Seen.{Session}
use Rattle.session.specs.Kinds.{checking_of}
use Rattle.session.proofs.Steps.{CloseFound, TagMade, close_fits, close_done, close_kept}
use Rattle.session.proofs.check.Checking.closing.Goals as goal

pub readied-ended-requires : goal.readied-ended-requires
readied-ended-requires g c =
    let w = g.W.Word.width in
    let K = checking_of g.row.W.Denot w in
    let x = c.args in
    let i = c.self-inside.inside.0.0 in
    let s = K.make i.place i.state i.key in
    let found : CloseFound K s x.edition x.tag.now = record {
      place = _;
      answer = _;
      place_is = refl;
      answer_is = rw (c.row_bytes.ensures, sym (tag_is_row w)) at c.close_answer-answer.ensures;
    } in
    let done = found_done c.close_answer-answer.result c.is_err.ensures.value c.if-is_err.false in
    let fits = close_fits K s x.edition x.tag.now found done in (fits.0, fits.1)

pub returns : goal.returns
returns g c =
    let w = g.W.Word.width in
    let K = checking_of g.row.W.Denot w in
    let x = c.args in
    let i = c.self-inside.inside.0.0 in
    let s = K.make i.place i.state i.key in
    let found : CloseFound K s x.edition x.tag.now = record {
      place = _;
      answer = _;
      place_is = refl;
      answer_is = rw (c.row_bytes.ensures, sym (tag_is_row w)) at c.close_answer-answer.ensures;
    } in
    let done = found_done c.close_answer-answer.result c.is_err.ensures.value c.if-is_err.false in
    let p = s.0.place in
    let asked = rounds_asked w p.terms.rounds (close_fits K s x.edition x.tag.now found done).1 in
    let made : TagMade K s p = record { tag = _; tag_is = refl } in
    let own =
    rw asked at c.tag_is-own.ensures ∙ ap (λ (t : State). same x.tag.now (tag_of w p.terms.rounds (tag_bits w) s.0.key t)) c.readied-ended.ensures in
    let verdict = c.need.ensures ∙ ap (λ (b : Bool). need_of b TagDiffers (Ok tt)) own in
    rw (← c.self.view_is, ← c.self-inside.view_is) (close_done K s x.edition x.tag.now found done made _ _ verdict (ap (λ (s : Session g.row.W.Denot). record { 0 = s }) c.closed.ensures))

pub returns-then-is_err : goal.returns-then-is_err
returns-then-is_err g c =
    let w = g.W.Word.width in
    let K = checking_of g.row.W.Denot w in
    let x = c.args in
    let i = c.self-inside.inside.0.0 in
    let s = K.make i.place i.state i.key in
    let found : CloseFound K s x.edition x.tag.now = record {
      place = _;
      answer = _;
      place_is = refl;
      answer_is = rw (c.row_bytes.ensures, sym (tag_is_row w)) at c.close_answer-answer.ensures;
    } in
    rw (← c.self.view_is, ← c.self-inside.view_is) (close_kept K s x.edition x.tag.now found (found_refused c.close_answer-answer.result c.is_err.ensures.value c.if-is_err.true))
