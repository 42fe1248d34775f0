-- For any list of offered pieces: the session is the one that is held with the accepted pieces joined.
-- Assumes nothing.
use mathlib.Core.Path.{◌≡◌, sym, ap, ap₂, ◌∙◌}
use mathlib.Core.Bool.{true, false}
use mathlib.Core.Logic.{⊎_elim}
use mathlib.Core.List.{List, [], ◌∷◌, ◌++◌, append_assoc, append-nil}
use Prim.Native.Nat.{ℕ}
use lib.ListN.{length}
use Rattle.norx.specs.Norx.{State, row_of, header_mark}
use Rattle.norx.specs.Stream.{fed}
use Rattle.answers.specs.Answers.{done_of}
use Rattle.answers.proofs.Tests.{either, cond_true, cond_false}
use Rattle.places.specs.declared.terms.Terms.{Terms}
use Rattle.places.specs.declared.Part.{Part}
use Rattle.places.specs.declared.Part.TheVariants.{Note, Body, Trailer}
use Rattle.places.specs.declared.Place.{Place}
use Rattle.places.specs.Terms.{front_of}
use Rattle.places.specs.Places.{fresh_place, piece_answer, moved, Accepted}
use Rattle.places.proofs.Accepts.{accepted as accepts}
use Rattle.session.specs.Sessions.{taken_at, exact_of, Kind, state_of, fresh_of, piece_answer_of, taken_of, piece_of}
use Rattle.session.specs.Offered.{Piece, is_accepted, only, joined, last_part, place_in, start_state, state_in, held, held_by}
use Rattle.session.proofs.Pieces.{after_piece, after_all, accepted}
use Rattle.session.proofs.Refused.{Lawful, answer_to, accepted_answer, refused_session}
use Rattle.session.proofs.Joining.{moved_place, moved_state}

module _ (K : Kind) (L : Lawful K) where
  module _ (key nonce : List ℕ) (T : Terms) where
    abbrev pub at : Part → List ℕ → List ℕ → List ℕ → K.Session
    at = held K key nonce T

    pub place_held : (part : Part) (n b t : List ℕ) → K.place (at part n b t) ≡ place_in T part n b t
    place_held part n b t = L.placed _ _ _

    pub state_held : (part : Part) (n b t : List ℕ) → state_of K (at part n b t) ≡ state_in K key nonce T part n b t
    state_held part n b t = L.stated _ _ _

    pub answer_held : (part : Part) (n b t : List ℕ) (q : Piece)
        → answer_to K L (at part n b t) q
        ≡ piece_answer (place_in T part n b t) q.label (length q.bytes) (exact_of K.way q.label.part (length q.bytes) (length q.out))
    unfolding piece_answer_of
    answer_held part n b t q =
        ap (λ (p : Place). piece_answer p q.label (length q.bytes) (exact_of K.way q.label.part (length q.bytes) (length q.out)))
        (place_held part n b t)

    pub accepted_held : (part : Part) (n b t : List ℕ) (q : Piece) → is_accepted K (at part n b t) q ≡ true
        → Accepted (place_in T part n b t) q.label.part (length q.bytes) (exact_of K.way q.label.part (length q.bytes) (length q.out))
    accepted_held part n b t q h =
        accepts _ q.label _ _ (sym (ap done_of (answer_held part n b t q)) ∙ sym (accepted_answer K L (at part n b t) q) ∙ h)

    -- ---- one accepted piece

    abbrev pub and_piece : Part → List ℕ → List ℕ → List ℕ → Piece → K.Session
    and_piece part n b t q =
        at q.label.part (n ++ only Note q.label.part q.bytes) (b ++ only Body q.label.part q.bytes) (t ++ only Trailer q.label.part q.bytes)

    taken_held : (part : Part) (n b t : List ℕ) (q : Piece) → is_accepted K (at part n b t) q ≡ true → taken_of K (at part n b t) q.label.part q.bytes ≡ and_piece part n b t q
    unfolding taken_of
    taken_held part n b t q h =
        let a = accepted_held part n b t q h in
        let k : Part = q.label.part in
        let x : List ℕ = q.bytes in
        let p : Place = place_in T part n b t in
        let key_is : K.key (at part n b t) ≡ row_of K.width key = L.keyed _ _ _ in
        ap₂ (λ (y : Place) (z : List ℕ). K.make (moved y k (length x)) (taken_at K.width y K.way k x (state_of K (at part n b t))) z) (place_held part n b t) key_is
        ∙ ap (λ (s : State). K.make (moved p k (length x)) (taken_at K.width p K.way k x s) (row_of K.width key)) (state_held part n b t)
        ∙ ap₂ (λ (y : Place) (s : State). K.make y s (row_of K.width key))
        (moved_place T part n b t k x) (moved_state K key nonce T part n b t k x a.sound a.onward)

    pub one_accepted : (part : Part) (n b t : List ℕ) (q : Piece) → is_accepted K (at part n b t) q ≡ true → after_piece K (at part n b t) q ≡ and_piece part n b t q
    unfolding piece_of
    one_accepted part n b t q h =
        L.stepped _ _ ∙ cond_true _ _ _ (sym (accepted_answer K L (at part n b t) q) ∙ h) ∙ taken_held part n b t q h

    -- ---- any list of pieces

    abbrev pub and_all : Part → List ℕ → List ℕ → List ℕ → List Piece → K.Session
    and_all part n b t qs = at (last_part part qs) (n ++ joined Note qs) (b ++ joined Body qs) (t ++ joined Trailer qs)

    and_none : (part : Part) (n b t : List ℕ) → at part n b t ≡ and_all part n b t []
    and_none part n b t = rw (append-nil n, append-nil b, append-nil t)

    and_one : (part : Part) (n b t : List ℕ) (q : Piece) (qs : List Piece)
        → and_all q.label.part (n ++ only Note q.label.part q.bytes) (b ++ only Body q.label.part q.bytes) (t ++ only Trailer q.label.part q.bytes) qs ≡ and_all part n b t (q ∷ qs)
    and_one part n b t q qs =
        rw (append_assoc n (only Note q.label.part q.bytes) (joined Note qs), append_assoc b (only Body q.label.part q.bytes) (joined Body qs), append_assoc t (only Trailer q.label.part q.bytes) (joined Trailer qs))

    -- the accepted pieces of a list, by whether its first is accepted
    pub accepted_list : (part : Part) (n b t : List ℕ) (q : Piece) (qs : List Piece) → is_accepted K (at part n b t) q ≡ true
        → q ∷ accepted K (and_piece part n b t q) qs ≡ accepted K (at part n b t) (q ∷ qs)
    accepted_list part n b t q qs h =
        ap (λ (u : K.Session). q ∷ accepted K u qs) (sym (one_accepted part n b t q h)) ∙ sym (cond_true (is_accepted K (at part n b t) q) _ _ h)

    pub refused_list : (part : Part) (n b t : List ℕ) (q : Piece) (qs : List Piece) → is_accepted K (at part n b t) q ≡ false
        → accepted K (at part n b t) qs ≡ accepted K (at part n b t) (q ∷ qs)
    refused_list part n b t q qs h =
        ap (λ (u : K.Session). accepted K u qs) (sym (refused_session K L (at part n b t) q h)) ∙ sym (cond_false (is_accepted K (at part n b t) q) _ _ h)

    pub all_held : (qs : List Piece) (part : Part) (n b t : List ℕ) → after_all K (at part n b t) qs ≡ and_all part n b t (accepted K (at part n b t) qs)
    all_held [] part n b t = and_none part n b t
    all_held (q ∷ qs) part n b t =
        let s : K.Session = at part n b t in
        ⊎_elim
        (λ (h : is_accepted K s q ≡ true). ap (λ (u : K.Session). after_all K u qs) (one_accepted part n b t q h)
        ∙ all_held qs q.label.part (n ++ only Note q.label.part q.bytes) (b ++ only Body q.label.part q.bytes) (t ++ only Trailer q.label.part q.bytes)
        ∙ and_one part n b t q (accepted K (and_piece part n b t q) qs)
        ∙ ap (and_all part n b t) (accepted_list part n b t q qs h))
        (λ (h : is_accepted K s q ≡ false). ap (λ (u : K.Session). after_all K u qs) (refused_session K L s q h)
        ∙ all_held qs part n b t
        ∙ ap (and_all part n b t) (refused_list part n b t q qs h))
        (either (is_accepted K s q))

    -- what holds of the joined parts at first, and after each accepted piece where before it, holds at the end
    pub all_kept : (P : Part → List ℕ → List ℕ → List ℕ → Type 0)
        → ((part : Part) (n b t : List ℕ) (q : Piece) → is_accepted K (at part n b t) q ≡ true → P part n b t
        → P q.label.part (n ++ only Note q.label.part q.bytes) (b ++ only Body q.label.part q.bytes) (t ++ only Trailer q.label.part q.bytes))
        → (qs : List Piece) (part : Part) (n b t : List ℕ) → P part n b t
        → P (last_part part (accepted K (at part n b t) qs)) (n ++ joined Note (accepted K (at part n b t) qs)) (b ++ joined Body (accepted K (at part n b t) qs)) (t ++ joined Trailer (accepted K (at part n b t) qs))
    all_kept P step [] part n b t h = rw (append-nil n, append-nil b, append-nil t) h
    all_kept P step (q ∷ qs) part n b t h =
        let s : K.Session = at part n b t in
        let rest : List Piece = accepted K (and_piece part n b t q) qs in
        ⊎_elim
        (λ (y : is_accepted K s q ≡ true).
        rw (← accepted_list part n b t q qs y, ← append_assoc n (only Note q.label.part q.bytes) (joined Note rest), ← append_assoc b (only Body q.label.part q.bytes) (joined Body rest), ← append_assoc t (only Trailer q.label.part q.bytes) (joined Trailer rest))
        (all_kept P step qs q.label.part (n ++ only Note q.label.part q.bytes) (b ++ only Body q.label.part q.bytes) (t ++ only Trailer q.label.part q.bytes) (step part n b t q y h)))
        (λ (y : is_accepted K s q ≡ false). rw (← refused_list part n b t q qs y) (all_kept P step qs part n b t h))
        (either (is_accepted K s q))

    pub fresh_held : fresh_of K key nonce T ≡ at Note [] [] []
    unfolding fresh_of
    fresh_held =
        ap (λ (x : List ℕ). K.make (fresh_place T) (fed K.width T.rounds header_mark (start_state K key nonce T) 0 x) (row_of K.width key))
        (sym (append-nil (front_of T.edition)))

    -- from a start: the session of the accepted pieces joined part by part
    pub session_held : (qs : List Piece) → after_all K (fresh_of K key nonce T) qs ≡ held_by K key nonce T (accepted K (fresh_of K key nonce T) qs)
    session_held qs = rw fresh_held (all_held qs Note [] [] [])
