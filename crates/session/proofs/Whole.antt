-- A session's joined parts as one sealing takes them in: the state before the body, the message of the body, and the tag.
-- Assumes nothing.
use mathlib.Core.Path.{◌≡◌, refl, sym, ap, ◌∙◌}
use mathlib.Core.Bool.{true}
use mathlib.Core.List.{List, [], ◌∷◌}
use Prim.Native.Nat.{ℕ}
use lib.Dec.{eqb}
use lib.ListN.{length}
use Rattle.norx.specs.Norx.{Width, State, row_of, header_mark, body_mark, trailer_mark, after_part, ciphertext, message, tag_of, before_body, tag}
use Rattle.norx.specs.Stream.{fed, ended, fed_text}
use Rattle.norx.proofs.Bytes.{Bytes, bytes_append}
use Rattle.norx.proofs.Stream.{fed_part}
use Rattle.norx.proofs.Text.{fed_text_lem}
use Rattle.norx.proofs.Unseal.{bytes_unfed, unfed_message}
use Rattle.norx.proofs.Unfed.{length-unfed}
use Rattle.answers.proofs.Chain.{both}
use Rattle.places.specs.declared.terms.Terms.{Terms}
use Rattle.places.specs.declared.Part.{Part}
use Rattle.places.specs.declared.Part.TheVariants.{Note, Body, Trailer}
use Rattle.places.specs.Terms.{front_of}
use Rattle.places.specs.Places.{behind_all, sound_of}
use Rattle.places.proofs.Editions.{front_bytes_lem}
use Rattle.session.specs.Sessions.{Way, sealing, checking, brought, taken, end_if, readied, Kind, tag_at}
use Rattle.session.specs.Offered.{place_in, header_of, start_state, after_note, in_body, after_body, in_trailer, state_in}
use Rattle.session.proofs.Joining.{unreached, some_bytes, taken_none, ended_note}

bytes_header : (T : Terms) (n : List ℕ) → Bytes n → Bytes (header_of T n)
bytes_header T n h = bytes_append (front_of T.edition) n (front_bytes_lem T.edition) h

module _ (w : Width) (l : ℕ) where
  fed_none : (m : ℕ) (s : State) → fed w l m s 0 [] ≡ s
  unfolding fed
  fed_none m s = refl

  -- a body and its message have one length, and both are bytes
  length-brought : (way : Way) (s : State) (b : List ℕ) → length (brought w l Body way s 0 b) ≡ length b
  length-brought sealing s b = refl
  length-brought checking s b = length-unfed w l b s 0

  bytes_brought : (way : Way) (s : State) (b : List ℕ) → Bytes b → Bytes (brought w l Body way s 0 b)
  bytes_brought sealing s b h = h
  bytes_brought checking s b h = bytes_unfed w l b s 0 h

module _ (K : Kind) (key nonce : List ℕ) (T : Terms) where
  abbrev w : Width
  w = K.width

  abbrev l : ℕ
  l = T.rounds

  -- ---- every part ended

  abbrev closing : Part → List ℕ → List ℕ → List ℕ → State
  closing part n b t = readied w (place_in T part n b t) behind_all (state_in K key nonce T part n b t)

  abbrev whole : List ℕ → List ℕ → List ℕ → State
  whole n b t = ended w l trailer_mark (in_trailer K key nonce T n b t) (length t)

  no_trailer : (n b : List ℕ) → ended w l trailer_mark (after_body K key nonce T n b) 0 ≡ whole n b []
  no_trailer n b = ap (λ (s : State). ended w l trailer_mark s 0) (sym (fed_none w l trailer_mark (after_body K key nonce T n b)))

  note_only : (n : List ℕ) → closing Note n [] [] ≡ whole n [] []
  unfolding readied end_if
  note_only n =
      ap (λ (s : State). ended w l trailer_mark (ended w l body_mark s 0) 0) (ended_note K key nonce T n ∙ sym (taken_none w l K.way (after_note K key nonce T n)))
      ∙ no_trailer n []

  closing_whole : (part : Part) (n b t : List ℕ) → sound_of (place_in T part n b t) ≡ true → closing part n b t ≡ whole n b t
  unfolding readied end_if
  closing_whole Note n [] [] e = note_only n
  closing_whole Note n (y ∷ b) t e = absurd (some_bytes y b (both (eqb (length (y ∷ b)) 0) (eqb (length t) 0) (unreached T Note n (y ∷ b) t e)).0)
  closing_whole Note n [] (y ∷ t) e = absurd (some_bytes y t (unreached T Note n [] (y ∷ t) e))
  closing_whole Body n b [] e = no_trailer n b
  closing_whole Body n b (y ∷ t) e = absurd (some_bytes y t (unreached T Body n b (y ∷ t) e))
  closing_whole Trailer n b t e = refl

  -- ---- the parts as NORX takes them in

  -- the state before the body in one sealing of the joined parts, and its tag
  abbrev pub before_as_one : List ℕ → State
  before_as_one n = before_body K.width T.rounds K.tag_bits key nonce (header_of T n)

  abbrev pub tag_as_one : List ℕ → List ℕ → List ℕ → List ℕ
  tag_as_one n m t = tag K.width T.rounds K.tag_bits key nonce (header_of T n) m t

  -- the message that a joined body brings
  abbrev pub brought_body : Way → List ℕ → List ℕ → List ℕ
  brought_body way n b = brought K.width T.rounds Body way (after_note K key nonce T n) 0 b

  module _ (n b t : List ℕ) (bytes-n : Bytes n) (bytes-b : Bytes b) (bytes-t : Bytes t) where
    abbrev msg : List ℕ
    msg = brought_body K.way n b

    note_whole : after_note K key nonce T n ≡ before_as_one n
    unfolding before_body
    note_whole = fed_part w l header_mark (start_state K key nonce T) (header_of T n) (bytes_header T n bytes-n)

    body_whole : after_body K key nonce T n b ≡ after_part w l body_mark (before_as_one n) msg
    unfolding taken
    body_whole =
        ap (ended w l body_mark (in_body K key nonce T n b)) (sym (length-brought w l K.way (after_note K key nonce T n) b))
        ∙ fed_part w l body_mark (after_note K key nonce T n) msg (bytes_brought w l K.way (after_note K key nonce T n) b bytes-b)
        ∙ ap (λ (s : State). after_part w l body_mark s msg) note_whole

    pub tag_whole : (part : Part) → sound_of (place_in T part n b t) ≡ true
        → tag_at K (place_in T part n b t) (row_of K.width key) (state_in K key nonce T part n b t) ≡ tag_as_one n (brought_body K.way n b) t
    unfolding tag
    tag_whole part e =
        ap (tag_of w l K.tag_bits (row_of w key))
        (closing_whole part n b t e ∙ fed_part w l trailer_mark (after_body K key nonce T n b) t bytes-t ∙ ap (λ (s : State). after_part w l trailer_mark s t) body_whole)

    pub text_whole : fed_text K.width T.rounds (after_note K key nonce T n) 0 b ≡ ciphertext K.width T.rounds (before_as_one n) b
    text_whole = fed_text_lem w l (after_note K key nonce T n) b bytes-b ∙ ap (λ (s : State). ciphertext w l s b) note_whole

    pub message_whole : brought_body checking n b ≡ message K.width T.rounds (before_as_one n) b
    message_whole = unfed_message w l (after_note K key nonce T n) b bytes-b ∙ ap (λ (s : State). message w l s b) note_whole
