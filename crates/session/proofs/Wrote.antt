-- For any list of pieces offered to a sealing session: what the outputs hold, joined, is the ciphertext of the joined body.
-- Assumes nothing.
use mathlib.Core.Path.{◌≡◌, sym, ap, ap₂, ◌∙◌}
use mathlib.Core.Bool.{true, false, false≢true}
use mathlib.Core.Logic.{⊎_elim}
use mathlib.Core.List.{List, [], ◌∷◌, ◌++◌, append_assoc, append-nil}
use Prim.Native.Nat.{ℕ}
use borrow.Author.Tests.{eqb-true}
use lib.Dec.{leb, eqb}
use lib.ListN.{length}
use Rattle.norx.specs.Norx.{State}
use Rattle.norx.specs.Stream.{fed_text}
use Rattle.norx.proofs.Slices.{empty}
use Rattle.answers.proofs.Tests.{either, cond_true, cond_false}
use Rattle.answers.proofs.Chain.{both}
use Rattle.places.specs.declared.terms.Terms.{Terms}
use Rattle.places.specs.declared.Part.{Part}
use Rattle.places.specs.declared.Part.TheVariants.{Note, Body, Trailer}
use Rattle.places.specs.declared.Place.{Place}
use Rattle.places.specs.Places.{rank_of, sound_of, seal_exact}
use Rattle.session.specs.Sessions.{Way, sealing, taken, end_if, readied, written_at, exact_of, Kind, state_of, piece_out}
use Rattle.session.specs.Offered.{Piece, is_accepted, wrote, only, joined, place_in, after_note, state_in}
use Rattle.session.proofs.Pieces.{after_piece, accepted, wrote_all}
use Rattle.session.proofs.Joining.{unreached, some_bytes, text_more, ended_note}
use Rattle.session.proofs.Refused.{Lawful, accepted_answer, refused_session}
use Rattle.session.proofs.Held.{at, place_held, state_held, accepted_held, one_accepted, and_piece, accepted_list, refused_list}

module _ (K : Kind) (seals : K.way ≡ sealing) (key nonce : List ℕ) (T : Terms) where
  -- the ciphertext of a body behind a note
  abbrev pub cipher : List ℕ → List ℕ → List ℕ
  cipher n b = fed_text K.width T.rounds (after_note K key nonce T n) 0 b

  abbrev left : Part → List ℕ → List ℕ → List ℕ → Part → List ℕ → List ℕ → List ℕ
  left part n b t k x out = written_at K.width (place_in T part n b t) sealing k x (state_in K key nonce T part n b t) out

  body_first : (n x out : List ℕ) → cipher n [] ++ left Note n [] [] Body x out ≡ cipher n x
  unfolding fed_text readied end_if
  body_first n x out = ap (λ (s : State). fed_text K.width T.rounds s 0 x) (ended_note K key nonce T n)

  body_on : (n b x out : List ℕ) → cipher n b ++ left Body n b [] Body x out ≡ cipher n (b ++ x)
  unfolding readied end_if taken
  body_on n b x out =
      ap (λ (way : Way). cipher n b ++ fed_text K.width T.rounds (taken K.width T.rounds way Body (after_note K key nonce T n) 0 b) (length b) x) seals
      ∙ text_more K.width T.rounds (after_note K key nonce T n) b x

  note_on : (n x out : List ℕ) → out ≡ [] → cipher n [] ++ out ≡ cipher (n ++ x) []
  unfolding fed_text
  note_on n x out e = e

  none_more : (n b out : List ℕ) → out ≡ [] → cipher n b ++ out ≡ cipher (n ++ []) (b ++ [])
  none_more n b out e = ap (λ (o : List ℕ). cipher n b ++ o) e ∙ append-nil (cipher n b) ∙ sym (ap₂ cipher (append-nil n) (append-nil b))

  one_left : (part : Part) (n b t : List ℕ) (k : Part) (x out : List ℕ) → sound_of (place_in T part n b t) ≡ true → leb (rank_of part) (rank_of k) ≡ true
      → seal_exact k (length x) (length out) ≡ true → cipher n b ++ left part n b t k x out ≡ cipher (n ++ only Note k x) (b ++ only Body k x)
  one_left Note n [] [] Note x out e o f = note_on n x out (empty out (eqb-true (length out) 0 f))
  one_left Note n [] [] Body x out e o f = rw append-nil (body_first n x out)
  one_left Note n [] [] Trailer x out e o f = none_more n [] out (empty out (eqb-true (length out) 0 f))
  one_left Note n (y ∷ b) t k x out e o f = absurd (some_bytes y b (both (eqb (length (y ∷ b)) 0) (eqb (length t) 0) (unreached T Note n (y ∷ b) t e)).0)
  one_left Note n [] (y ∷ t) k x out e o f = absurd (some_bytes y t (unreached T Note n [] (y ∷ t) e))
  one_left Body n b [] Note x out e o f = absurd (false≢true o)
  one_left Body n b [] Body x out e o f = rw append-nil (body_on n b x out)
  one_left Body n b [] Trailer x out e o f = none_more n b out (empty out (eqb-true (length out) 0 f))
  one_left Body n b (y ∷ t) k x out e o f = absurd (some_bytes y t (unreached T Body n b (y ∷ t) e))
  one_left Trailer n b t Note x out e o f = absurd (false≢true o)
  one_left Trailer n b t Body x out e o f = absurd (false≢true o)
  one_left Trailer n b t Trailer x out e o f = none_more n b out (empty out (eqb-true (length out) 0 f))

  module _ (L : Lawful K) where
    one_wrote : (part : Part) (n b t : List ℕ) (q : Piece) → is_accepted K (at K L key nonce T part n b t) q ≡ true
        → cipher n b ++ wrote K (at K L key nonce T part n b t) q ≡ cipher (n ++ only Note q.label.part q.bytes) (b ++ only Body q.label.part q.bytes)
    unfolding piece_out
    one_wrote part n b t q h =
        let s : K.Session = at K L key nonce T part n b t in
        let a = accepted_held K L key nonce T part n b t q h in
        let fits : seal_exact q.label.part (length q.bytes) (length q.out) ≡ true = sym (ap (λ (way : Way). exact_of way q.label.part (length q.bytes) (length q.out)) seals) ∙ a.fits in
        let o : wrote K s q ≡ left part n b t q.label.part q.bytes q.out =
        cond_true (is_accepted K s q) _ [] h ∙ cond_true _ _ q.out (sym (accepted_answer K L s q) ∙ h)
        ∙ ap (λ (p : Place). written_at K.width p K.way q.label.part q.bytes (state_of K s) q.out) (place_held K L key nonce T part n b t)
        ∙ ap₂ (λ (u : State) (way : Way). written_at K.width (place_in T part n b t) way q.label.part q.bytes u q.out) (state_held K L key nonce T part n b t) seals in
        ap (λ (y : List ℕ). cipher n b ++ y) o ∙ one_left part n b t q.label.part q.bytes q.out a.sound a.onward fits

    pub all_wrote : (qs : List Piece) (part : Part) (n b t : List ℕ)
        → cipher n b ++ wrote_all K (at K L key nonce T part n b t) qs
        ≡ cipher (n ++ joined Note (accepted K (at K L key nonce T part n b t) qs)) (b ++ joined Body (accepted K (at K L key nonce T part n b t) qs))
    all_wrote [] part n b t = append-nil (cipher n b) ∙ sym (ap₂ cipher (append-nil n) (append-nil b))
    all_wrote (q ∷ qs) part n b t =
        let s : K.Session = at K L key nonce T part n b t in
        let n' : List ℕ = n ++ only Note q.label.part q.bytes in
        let b' : List ℕ = b ++ only Body q.label.part q.bytes in
        let t' : List ℕ = t ++ only Trailer q.label.part q.bytes in
        let u : K.Session = and_piece K L key nonce T part n b t q in
        ⊎_elim
        (λ (h : is_accepted K s q ≡ true).
        sym (append_assoc (cipher n b) (wrote K s q) (wrote_all K (after_piece K s q) qs))
        ∙ ap₂ (λ (y : List ℕ) (v : K.Session). y ++ wrote_all K v qs) (one_wrote part n b t q h) (one_accepted K L key nonce T part n b t q h)
        ∙ all_wrote qs q.label.part n' b' t'
        ∙ ap₂ cipher (append_assoc n (only Note q.label.part q.bytes) (joined Note (accepted K u qs))) (append_assoc b (only Body q.label.part q.bytes) (joined Body (accepted K u qs)))
        ∙ ap (λ (qs' : List Piece). cipher (n ++ joined Note qs') (b ++ joined Body qs')) (accepted_list K L key nonce T part n b t q qs h))
        (λ (h : is_accepted K s q ≡ false).
        ap₂ (λ (y : List ℕ) (v : K.Session). cipher n b ++ (y ++ wrote_all K v qs)) (cond_false (is_accepted K s q) _ [] h) (refused_session K L s q h)
        ∙ all_wrote qs part n b t
        ∙ ap (λ (qs' : List Piece). cipher (n ++ joined Note qs') (b ++ joined Body qs')) (refused_list K L key nonce T part n b t q qs h))
        (either (is_accepted K s q))
