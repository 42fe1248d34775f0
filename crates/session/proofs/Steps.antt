-- What the calls inside a start, a piece and a close ensure, put together over any kind of session.
-- Assumes nothing.
use mathlib.Core.Path.{◌≡◌, refl, sym, ap, ap₂, ◌∙◌}
use mathlib.Core.Bool.{Bool, true, false, cond}
use mathlib.Core.List.{List}
use Prim.Native.Nat.{ℕ, ◌+◌, ◌≤◌}
use borrow.Author.Tests.{le-leb}
use lib.Dec.{leb}
use lib.ListN.{length, replicate}
use Rattle.norx.specs.Norx.{State, row_bytes, row_of}
use Rattle.answers.specs.Answers.{Answer, done_of}
use Rattle.places.specs.declared.terms.Edition.{Edition}
use Rattle.places.specs.declared.terms.Terms.{Terms}
use Rattle.places.specs.Terms.{terms_ok}
use Rattle.places.specs.declared.Part.TheVariants.{Note}
use Rattle.places.specs.declared.Label.{Label}
use Rattle.places.specs.declared.Place.{Place}
use Rattle.places.specs.Places.{limit_of, count_of, fresh_place, closed_place, moved, start_answer, piece_answer, close_answer, Accepted}
use Rattle.places.proofs.Accepts.{startable, accepted, closable}
use Rattle.session.specs.Sessions.{fresh_state, taken_at, written_at, exact_of, verdict_of, Kind, closed_of, tag_length, fresh_of, start_of, piece_answer_of, taken_of, piece_of, piece_out, tag_at, own_tag, close_answer_of, close_of, close_tag}

-- what a call gives where its answer A is 0, and where it is not; a is what the answer came to
module _ {X : Type 0} (a A : Answer) (ea : a ≡ A) (given next kept : X) where
  where_done : done_of a ≡ true → given ≡ next → given ≡ cond (done_of A) next kept
  where_done h e = rw (← ea, h) e

  where_not : done_of a ≡ false → given ≡ kept → given ≡ cond (done_of A) next kept
  where_not h e = rw (← ea, h) e

module _ (K : Kind) where
  step_of : (a A : Answer) (t u : K.Session) → a ≡ A → t ≡ u → K.step a t ≡ K.step A u
  step_of a A t u ea et = ap₂ (λ (x : Answer) (y : K.Session). K.step x y) ea et

  -- ---- start

  module _ (key nonce : List ℕ) (T : Terms) (a : Answer) (ea : a ≡ start_answer (row_bytes K.width) T (length key) (length nonce)) where
    pub start_fits : done_of a ≡ true → (length key ≡ row_bytes K.width) × (length nonce ≡ row_bytes K.width) × (terms_ok T ≡ true)
    start_fits h =
        let e = startable (row_bytes K.width) T (length key) (length nonce) (sym (ap done_of ea) ∙ h) in (e.1, e.2, e.0)

    pub start_done : done_of a ≡ true → (t : K.Session) → t ≡ fresh_of K key nonce T → K.step a t ≡ start_of K key nonce T
    unfolding start_of
    start_done h t et = step_of _ _ _ _ ea (where_done a _ ea t _ _ h et)

    pub start_not : done_of a ≡ false → (t : K.Session) → t ≡ closed_of K → K.step a t ≡ start_of K key nonce T
    unfolding start_of
    start_not h t et = step_of _ _ _ _ ea (where_not a _ ea t _ _ h et)

  pub fresh_made : (key nonce k : List ℕ) (T : Terms) (p : Place) (s : State) (t : K.Session) → k ≡ row_of K.width key
      → s ≡ fresh_state K.width K.tag_bits T k (row_of K.width nonce) → p ≡ fresh_place T → t ≡ K.make p s k → t ≡ fresh_of K key nonce T
  unfolding fresh_of
  fresh_made key nonce k T p s t ek es ep et =
      et ∙ ap₂ (λ (q : Place) (u : State). K.make q u k) ep es
      ∙ ap (λ (x : List ℕ). K.make (fresh_place T) ((fresh_state K.width K.tag_bits T x (row_of K.width nonce))) x) ek

  pub closed_made : (p : Place) (s : State) (t : K.Session) → p ≡ closed_place → s ≡ replicate 4 (replicate 4 0) → t ≡ K.make p s (replicate 4 0) → t ≡ closed_of K
  closed_made p s t ep es et = et ∙ ap₂ (λ (q : Place) (u : State). K.make q u (replicate 4 0)) ep es

-- ---- piece

-- what a piece came to before its answer was looked at: the session's place, the test of the output, and the answer
pub record PieceFound (K : Kind) (s : K.Session) (label : Label) (x out : List ℕ) : Type 0 where
  pub place : Place
  pub exact : Bool
  pub answer : Answer
  pub place_is : place ≡ K.place s
  pub exact_is : exact ≡ exact_of K.way label.part (length x) (length out)
  pub answer_is : answer ≡ piece_answer place label (length x) exact

-- what was made of a piece that is accepted: the state that took the piece in, the place after it, and the session of both
pub record PieceMade (K : Kind) (s : K.Session) (label : Label) (x : List ℕ) (p : Place) : Type 0 where
  pub state : State
  pub place : Place
  pub session : K.Session
  pub state_is : state ≡ taken_at K.width p K.way label.part x (K.state s)
  pub place_is : place ≡ cond (leb (count_of p label.part + length x) (limit_of label.part)) (moved p label.part (length x)) p
  pub session_is : session ≡ K.make place state (K.key s)

module _ (K : Kind) (s : K.Session) (label : Label) (x out : List ℕ) (found : PieceFound K s label x out) where
  answered : found.answer ≡ piece_answer_of K s label x out
  unfolding piece_answer_of
  answered = found.answer_is ∙ ap₂ (λ (q : Place) (b : Bool). piece_answer q label (length x) b) found.place_is found.exact_is

  pub piece_accepted : done_of found.answer ≡ true → Accepted found.place label.part (length x) (exact_of K.way label.part (length x) (length out))
  piece_accepted h = rw (← found.exact_is) (accepted found.place label (length x) found.exact (sym (ap done_of found.answer_is) ∙ h))

  -- the session that was put together is the one that took the piece in
  made_taken : done_of found.answer ≡ true → (made : PieceMade K s label x found.place) → made.session ≡ taken_of K s label.part x
  unfolding taken_of
  made_taken h made =
      let p : Place = found.place in
      let room : leb (count_of p label.part + length x) (limit_of label.part) ≡ true = le-leb _ _ (piece_accepted h).room in
      let next : made.place ≡ moved p label.part (length x) = made.place_is ∙ ap (λ (b : Bool). cond b (moved p label.part (length x)) p) room in
      made.session_is ∙ ap₂ (λ (y : Place) (z : State). K.make y z (K.key s)) next made.state_is
      ∙ ap (λ (y : Place). K.make (moved y label.part (length x)) ((taken_at K.width y K.way label.part x (K.state s))) (K.key s)) found.place_is

  pub piece_taken : done_of found.answer ≡ true → (made : PieceMade K s label x found.place) → K.step found.answer made.session ≡ piece_of K s label x out
  unfolding piece_of
  piece_taken h made = step_of K _ _ _ _ answered (where_done found.answer _ answered made.session _ s h (made_taken h made))

  pub piece_wrote : done_of found.answer ≡ true → (o : List ℕ) → o ≡ written_at K.width found.place K.way label.part x (K.state s) out
      → o ≡ piece_out K s label x out
  unfolding piece_out
  piece_wrote h o eo =
      where_done found.answer _ answered o _ out h
      (eo ∙ ap (λ (y : Place). written_at K.width y K.way label.part x (K.state s) out) found.place_is)

  pub piece_kept : done_of found.answer ≡ false → K.step found.answer s ≡ piece_of K s label x out
  unfolding piece_of
  piece_kept h = step_of K _ _ _ _ answered (where_not found.answer _ answered s _ s h refl)

  pub piece_left : done_of found.answer ≡ false → out ≡ piece_out K s label x out
  unfolding piece_out
  piece_left h = where_not found.answer _ answered out _ out h refl

-- ---- close

-- what a close came to before its answer was looked at: the session's place, and the answer
pub record CloseFound (K : Kind) (s : K.Session) (edition : Edition) (tag : List ℕ) : Type 0 where
  pub place : Place
  pub answer : Answer
  pub place_is : place ≡ K.place s
  pub answer_is : answer ≡ close_answer place edition (tag_length K) (length tag)

-- the tag that was worked out where it is done, from the session's state
pub record TagMade (K : Kind) (s : K.Session) (p : Place) : Type 0 where
  pub tag : List ℕ
  pub tag_is : tag ≡ tag_at K p (K.key s) (K.state s)

module _ (K : Kind) (s : K.Session) (edition : Edition) (tag : List ℕ) (found : CloseFound K s edition tag) where
  closing : found.answer ≡ close_answer_of K s edition tag
  unfolding close_answer_of
  closing = found.answer_is ∙ ap (λ (q : Place). close_answer q edition (tag_length K) (length tag)) found.place_is

  pub close_fits : done_of found.answer ≡ true → (found.place.note ≤ limit_of Note) × (terms_ok found.place.terms ≡ true) × (length tag ≡ tag_length K)
  close_fits h = closable found.place edition (tag_length K) (length tag) (sym (ap done_of found.answer_is) ∙ h)

  -- the tag that was worked out is the session's own
  tag_own : (own : TagMade K s found.place) → own.tag ≡ own_tag K s
  unfolding own_tag
  tag_own own = own.tag_is ∙ ap (λ (y : Place). tag_at K y (K.key s) (K.state s)) found.place_is

  pub close_done : done_of found.answer ≡ true → (own : TagMade K s found.place) (v : Answer) (t : K.Session) → v ≡ verdict_of K.way tag own.tag → t ≡ closed_of K
      → K.step v t ≡ close_of K s edition tag
  unfolding close_of
  close_done h own v t ev et =
      where_done found.answer _ closing (K.step v t) _ _ h
      (step_of K _ _ _ _ (ev ∙ ap (verdict_of K.way tag) (tag_own own)) et)

  pub close_kept : done_of found.answer ≡ false → K.step found.answer s ≡ close_of K s edition tag
  unfolding close_of
  close_kept h =
      where_not found.answer _ closing (K.step found.answer s) _ (K.step (close_answer_of K s edition tag) s) h
      (step_of K _ _ _ _ closing refl)

  pub close_tag_lem : done_of found.answer ≡ true → (own : TagMade K s found.place) → own.tag ≡ close_tag K s edition tag
  unfolding close_tag
  close_tag_lem h own = where_done found.answer _ closing own.tag _ tag h (tag_own own)

  pub close_left : done_of found.answer ≡ false → tag ≡ close_tag K s edition tag
  unfolding close_tag
  close_left h = where_not found.answer _ closing tag _ tag h refl
