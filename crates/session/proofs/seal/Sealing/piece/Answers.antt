-- `session::seal::Sealing::piece`: taken in where the answer is 0, and else nothing changed.
use Rattle.std.specs.Prelude.{refl}
use Rattle.session.specs.Kinds.{sealing_of}
use Rattle.answers.proofs.Chain.{found_done, found_refused}
use Rattle.session.proofs.Steps.{PieceFound, PieceMade, piece_accepted, piece_taken, piece_wrote, piece_kept, piece_left}
use Rattle.session.proofs.seal.Sealing.piece.Goals as goal

pub taken_at-requires : goal.taken_at-requires
taken_at-requires g c =
    let K = sealing_of g.row.W.Denot g.W.Word.width in
    let x = c.args in
    let i = c.self-inside.inside.0.0 in
    let s = K.make i.place i.state i.key in
    let found : PieceFound K s x.label x.bytes.now x.out.now = record {
      place = _;
      exact = _;
      answer = _;
      place_is = refl;
      exact_is = c.exact.ensures;
      answer_is = c.piece_answer-answer.ensures;
    } in
    piece_accepted K s x.label x.bytes.now x.out.now found (found_done c.piece_answer-answer.result c.is_err.ensures.value c.if-is_err.false)

pub returns : goal.returns
returns g c =
    let K = sealing_of g.row.W.Denot g.W.Word.width in
    let x = c.args in
    let i = c.self-inside.inside.0.0 in
    let s = K.make i.place i.state i.key in
    let found : PieceFound K s x.label x.bytes.now x.out.now = record {
      place = _;
      exact = _;
      answer = _;
      place_is = refl;
      exact_is = c.exact.ensures;
      answer_is = c.piece_answer-answer.ensures;
    } in
    let done = found_done c.piece_answer-answer.result c.is_err.ensures.value c.if-is_err.false in
    let made : PieceMade K s x.label x.bytes.now s.0.place = record {
      state = _;
      place = _;
      session = _;
      state_is = c.taken_at.ensures.state;
      place_is = c.after.ensures;
      session_is = refl;
    } in
    rw (← c.self.view_is, ← c.self-inside.view_is) (record {
      step = piece_taken K s x.label x.bytes.now x.out.now found done made;
      output = piece_wrote K s x.label x.bytes.now x.out.now found done _ c.taken_at.ensures.output;
    })

pub returns-then-is_err : goal.returns-then-is_err
returns-then-is_err g c =
    let K = sealing_of g.row.W.Denot g.W.Word.width in
    let x = c.args in
    let i = c.self-inside.inside.0.0 in
    let s = K.make i.place i.state i.key in
    let found : PieceFound K s x.label x.bytes.now x.out.now = record {
      place = _;
      exact = _;
      answer = _;
      place_is = refl;
      exact_is = c.exact.ensures;
      answer_is = c.piece_answer-answer.ensures;
    } in
    let not_done = found_refused c.piece_answer-answer.result c.is_err.ensures.value c.if-is_err.true in
    rw (← c.self.view_is, ← c.self-inside.view_is) (record {
      step = piece_kept K s x.label x.bytes.now x.out.now found not_done;
      output = piece_left K s x.label x.bytes.now x.out.now found not_done;
    })
