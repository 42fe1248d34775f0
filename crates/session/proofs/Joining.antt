-- One more accepted piece: the session that is held with the joined parts goes over into the one that is held with this piece joined to them.
-- Assumes nothing.
use mathlib.Core.Path.{◌≡◌, refl, sym, ap, ◌∙◌}
use mathlib.Core.Bool.{true, ◌&&◌, false≢true}
use mathlib.Core.List.{List, [], ◌∷◌, ◌++◌, append_assoc, append-nil}
use Prim.Native.Nat.{ℕ, ◌+◌}
use native.Mathlib.Nat.{zero-add}
use native.Mathlib.Omega.{arith}
use borrow.Author.Tests.{eqb-true}
use lib.Dec.{leb, eqb}
use lib.ListN.{length, length-append}
use Rattle.norx.specs.Norx.{Width, State, header_mark, body_mark, trailer_mark}
use Rattle.norx.specs.Front.{front_bytes}
use Rattle.norx.specs.Stream.{fed, ended, fed_text, unfed}
use Rattle.norx.proofs.Stream.{fed-append}
use Rattle.norx.proofs.Text.{text_append}
use Rattle.norx.proofs.Unseal.{unfed-append}
use Rattle.norx.proofs.Unfed.{length-unfed}
use Rattle.answers.proofs.Chain.{both}
use Rattle.places.specs.declared.terms.Terms.{Terms}
use Rattle.places.specs.declared.Part.{Part}
use Rattle.places.specs.declared.Part.TheVariants.{Note, Body, Trailer}
use Rattle.places.specs.Terms.{terms_ok, front_of}
use Rattle.places.specs.Places.{rank_of, moved, counts_within, unreached_of, sound_of}
use Rattle.places.proofs.Editions.{front_long}
use Rattle.session.specs.Sessions.{Way, sealing, checking, taken, end_if, readied, taken_at, Kind}
use Rattle.session.specs.Offered.{only, place_in, header_of, start_state, in_note, after_note, in_body, after_body, state_in}

pub header_long : (T : Terms) (note : List ℕ) → length (header_of T note) ≡ front_bytes + length note
header_long T note = length-append (front_of T.edition) note ∙ ap (λ (k : ℕ). k + length note) (front_long T.edition)

-- what a sound place says of the parts not yet reached
pub unreached : (T : Terms) (part : Part) (n b t : List ℕ) → sound_of (place_in T part n b t) ≡ true → unreached_of (place_in T part n b t) part ≡ true
unfolding sound_of
unreached T part n b t e = (both (terms_ok T && counts_within (place_in T part n b t)) (unreached_of (place_in T part n b t) part) e).1

pub some_bytes : (y : ℕ) (b : List ℕ) → eqb (length (y ∷ b)) 0 ≡ true → ⊥
some_bytes y b e = let z : length (y ∷ b) ≡ 0 = eqb-true (length (y ∷ b)) 0 e in omega arith

module _ (w : Width) (l : ℕ) where
  pub ended_none : (m : ℕ) (s : State) → ended w l m s 0 ≡ s
  unfolding ended
  ended_none m s = refl

  pub taken_none : (way : Way) (s : State) → taken w l way Body s 0 [] ≡ s
  unfolding taken fed unfed
  taken_none sealing s = refl
  taken_none checking s = refl

  fed_more : (m : ℕ) (s : State) (a x : List ℕ) (k : ℕ) → k ≡ length a → fed w l m (fed w l m s 0 a) k x ≡ fed w l m s 0 (a ++ x)
  fed_more m s a x k e = ap (λ (i : ℕ). fed w l m (fed w l m s 0 a) i x) (e ∙ sym (zero-add (length a))) ∙ sym (fed-append w l m a x s 0)

  -- a body goes on
  pub taken_more : (way : Way) (s : State) (a x : List ℕ) → taken w l way Body (taken w l way Body s 0 a) (length a) x ≡ taken w l way Body s 0 (a ++ x)
  unfolding taken
  taken_more sealing s a x = fed_more body_mark s a x (length a) refl
  taken_more checking s a x =
      let m : List ℕ = unfed w l s 0 a in
      let u : State = fed w l body_mark s 0 m in
      let n : length a ≡ length m = sym (length-unfed w l a s 0) in
      fed_more body_mark s m (unfed w l u (length a) x) (length a) n
      ∙ ap (λ (k : ℕ). fed w l body_mark s 0 (m ++ unfed w l u k x)) (sym (zero-add (length a)))
      ∙ ap (fed w l body_mark s 0) (sym (unfed-append w l a x s 0))

  pub text_more : (s : State) (a x : List ℕ) → fed_text w l s 0 a ++ fed_text w l (fed w l body_mark s 0 a) (length a) x ≡ fed_text w l s 0 (a ++ x)
  text_more s a x =
      ap (λ (i : ℕ). fed_text w l s 0 a ++ fed_text w l (fed w l body_mark s 0 a) i x) (sym (zero-add (length a))) ∙ sym (text_append w l a x s 0)

-- ---- the place

module _ (T : Terms) where
  pub moved_place : (part : Part) (n b t : List ℕ) (k : Part) (x : List ℕ)
      → moved (place_in T part n b t) k (length x) ≡ place_in T k (n ++ only Note k x) (b ++ only Body k x) (t ++ only Trailer k x)
  moved_place part n b t Note x = rw (append-nil, append-nil, length-append)
  moved_place part n b t Body x = rw (append-nil, append-nil, length-append)
  moved_place part n b t Trailer x = rw (append-nil, append-nil, length-append)

-- ---- the state

module _ (K : Kind) (key nonce : List ℕ) (T : Terms) where
  abbrev w : Width
  w = K.width

  abbrev l : ℕ
  l = T.rounds

  abbrev S : Part → List ℕ → List ℕ → List ℕ → State
  S = state_in K key nonce T

  abbrev went : Part → List ℕ → List ℕ → List ℕ → Part → List ℕ → State
  went part n b t k x = taken_at w (place_in T part n b t) K.way k x (S part n b t)

  -- the note goes on
  note_note : (n x : List ℕ) → went Note n [] [] Note x ≡ S Note (n ++ x) [] []
  unfolding taken_at readied end_if taken
  note_note n x =
      fed_more w l header_mark (start_state K key nonce T) (header_of T n) x (front_bytes + length n) (sym (header_long T n))
      ∙ ap (fed w l header_mark (start_state K key nonce T) 0) (append_assoc (front_of T.edition) n x)

  pub ended_note : (n : List ℕ) → ended w l header_mark (in_note K key nonce T n) (front_bytes + length n) ≡ after_note K key nonce T n
  ended_note n = ap (ended w l header_mark (in_note K key nonce T n)) (sym (header_long T n))

  note_body : (n x : List ℕ) → went Note n [] [] Body x ≡ S Body n x []
  unfolding taken_at readied end_if
  note_body n x = ap (λ (s : State). taken w l K.way Body s 0 x) (ended_note n)

  note_trailer : (n x : List ℕ) → went Note n [] [] Trailer x ≡ S Trailer n [] x
  unfolding taken_at readied end_if taken
  note_trailer n x =
      ap (λ (s : State). fed w l trailer_mark s 0 x)
      (ended_none w l body_mark _ ∙ ended_note n ∙ sym (taken_none w l K.way (after_note K key nonce T n)) ∙ sym (ended_none w l body_mark (in_body K key nonce T n [])))

  body_body : (n b x : List ℕ) → went Body n b [] Body x ≡ S Body n (b ++ x) []
  unfolding taken_at readied end_if
  body_body n b x = taken_more w l K.way (after_note K key nonce T n) b x

  body_trailer : (n b x : List ℕ) → went Body n b [] Trailer x ≡ S Trailer n b x
  unfolding taken_at readied end_if taken
  body_trailer n b x = refl

  trailer_trailer : (n b t x : List ℕ) → went Trailer n b t Trailer x ≡ S Trailer n b (t ++ x)
  unfolding taken_at readied end_if taken
  trailer_trailer n b t x = fed_more w l trailer_mark (after_body K key nonce T n b) t x (length t) refl

  pub moved_state : (part : Part) (n b t : List ℕ) (k : Part) (x : List ℕ) → sound_of (place_in T part n b t) ≡ true → leb (rank_of part) (rank_of k) ≡ true
      → taken_at K.width (place_in T part n b t) K.way k x (state_in K key nonce T part n b t)
      ≡ state_in K key nonce T k (n ++ only Note k x) (b ++ only Body k x) (t ++ only Trailer k x)
  moved_state Note n [] [] Note x e o = note_note n x
  moved_state Note n [] [] Body x e o = rw append-nil (note_body n x)
  moved_state Note n [] [] Trailer x e o = rw append-nil (note_trailer n x)
  moved_state Note n (y ∷ b) t k x e o = absurd (some_bytes y b (both (eqb (length (y ∷ b)) 0) (eqb (length t) 0) (unreached T Note n (y ∷ b) t e)).0)
  moved_state Note n [] (y ∷ t) k x e o = absurd (some_bytes y t (unreached T Note n [] (y ∷ t) e))
  moved_state Body n b [] Note x e o = absurd (false≢true o)
  moved_state Body n b [] Body x e o = rw append-nil (body_body n b x)
  moved_state Body n b [] Trailer x e o = rw (append-nil, append-nil) (body_trailer n b x)
  moved_state Body n b (y ∷ t) k x e o = absurd (some_bytes y t (unreached T Body n b (y ∷ t) e))
  moved_state Trailer n b t Note x e o = absurd (false≢true o)
  moved_state Trailer n b t Body x e o = absurd (false≢true o)
  moved_state Trailer n b t Trailer x e o = rw (append-nil, append-nil) (trailer_trailer n b t x)
