-- `session::check::Checking::piece`: taken in where the answer is 0, and else nothing changed.
use Rattle.std.specs.Prelude.{[], refl}
use Rattle.session.specs.Kinds.{checking_of}
use Rattle.answers.proofs.Chain.{found_done, found_refused}
use Rattle.session.proofs.Steps.{PieceFound, PieceMade, piece_accepted, piece_taken, piece_kept}
use Rattle.session.proofs.check.Checking.piece.Goals as goal

pub taken_at-requires : goal.taken_at-requires
taken_at-requires g c =
    let K = checking_of g.row.W.Denot g.W.Word.width in
    let x = c.args in
    let i = c.self-inside.inside.0.0 in
    let s = K.make i.place i.state i.key in
    let found : PieceFound K s x.label x.bytes.now [] = record {
      place = _;
      exact = _;
      answer = _;
      place_is = refl;
      exact_is = refl;
      answer_is = c.piece_answer-answer.ensures;
    } in
    piece_accepted K s x.label x.bytes.now [] found (found_done c.piece_answer-answer.result c.is_err.ensures.value c.if-is_err.false)

pub returns : goal.returns
returns g c =
    let K = checking_of g.row.W.Denot g.W.Word.width in
    let x = c.args in
    let i = c.self-inside.inside.0.0 in
    let s = K.make i.place i.state i.key in
    let found : PieceFound K s x.label x.bytes.now [] = record {
      place = _;
      exact = _;
      answer = _;
      place_is = refl;
      exact_is = refl;
      answer_is = c.piece_answer-answer.ensures;
    } in
    let made : PieceMade K s x.label x.bytes.now s.0.place = record {
      state = _;
      place = _;
      session = _;
      state_is = c.taken_at.ensures;
      place_is = c.after.ensures;
      session_is = refl;
    } in
    rw (← c.self.view_is, ← c.self-inside.view_is) (piece_taken K s x.label x.bytes.now [] found (found_done c.piece_answer-answer.result c.is_err.ensures.value c.if-is_err.false) made)

pub returns-then-is_err : goal.returns-then-is_err
returns-then-is_err g c =
    let K = checking_of g.row.W.Denot g.W.Word.width in
    let x = c.args in
    let i = c.self-inside.inside.0.0 in
    let s = K.make i.place i.state i.key in
    let found : PieceFound K s x.label x.bytes.now [] = record {
      place = _;
      exact = _;
      answer = _;
      place_is = refl;
      exact_is = refl;
      answer_is = c.piece_answer-answer.ensures;
    } in
    rw (← c.self.view_is, ← c.self-inside.view_is) (piece_kept K s x.label x.bytes.now [] found (found_refused c.piece_answer-answer.result c.is_err.ensures.value c.if-is_err.true))
