-- Segments offered to a receiver one after another: which it takes, what it hands out, and what is promised of any list of them; and a body cut, sealed and taken whole.
-- Assumes nothing.
use Rattle.std.specs.Prelude.{ℕ, ◌+◌, ◌-◌, ◌≤◌, ◌≡◌, ◌≢◌, Bool, true, false, ◌||◌, cond, List, [], ◌∷◌, ◌++◌, eqb, length, take, drop}
use Rattle.norx.specs.Norx.{Width}
use Rattle.norx.specs.Texts.{Bytes}
use Rattle.answers.specs.Answers.{number_of}
use Rattle.rules.specs.Limits.{widths_length}
use Rattle.places.specs.declared.terms.Terms.{Terms}
use Rattle.cutting.specs.Cutting.{count_of, begin_of, end_of}
use Rattle.segments.specs.Rule.{JobLimits}
use Rattle.segments.specs.Segments.{segment_out}
use Rattle.segments.specs.Receivers.{Receiving, starts_answer, starts_with, taking_out, after_taking}
use Rattle.segments.specs.Promises.{GivenBySealing, taking_number}

-- a sealed segment as it is offered, with its note, its flag, and the output lent to it
pub record Offer : Type 0 where
  pub note : List ℕ
  pub last : Bool
  pub text : List ℕ
  pub out : List ℕ
  pub are_bytes : Bytes text

-- one that was taken, and the message that was handed out
pub record Taken : Type 0 where
  pub offer : Offer
  pub message : List ℕ

module _ (w : Width) where
  abbrev pub offer_number : Receiving → Offer → ℕ
  offer_number R o = taking_number w R o.note o.last o.text o.out

  abbrev pub handed : Receiving → Offer → List ℕ
  handed R o = taking_out w R o.note o.last o.text o.out

  abbrev pub after_offer : Receiving → Offer → Receiving
  after_offer R o = after_taking w R o.note o.last o.text o.out

  abbrev pub is_taken : Receiving → Offer → Bool
  is_taken R o = eqb (offer_number R o) 0

  -- ---- Any list of offers

  abbrev pub after_offers : Receiving → List Offer → Receiving
  after_offers R [] = R
  after_offers R (o ∷ os) = after_offers (after_offer R o) os

  -- those that are taken
  abbrev pub taken_in : Receiving → List Offer → List Taken
  taken_in R [] = []
  taken_in R (o ∷ os) = cond (is_taken R o) (record { offer = o; message = handed R o } ∷ taken_in (after_offer R o) os) (taken_in (after_offer R o) os)

  -- the bytes that are handed out: what the output of a segment that is taken holds
  abbrev pub handed_out : Receiving → List Offer → List ℕ
  handed_out R [] = []
  handed_out R (o ∷ os) = cond (is_taken R o) (handed R o) [] ++ handed_out (after_offer R o) os

-- their messages, joined
abbrev pub messages : List Taken → List ℕ
messages [] = []
messages (a ∷ ts) = a.message ++ messages ts

-- whether one of them was flagged last
abbrev pub flagged : List Taken → Bool
flagged [] = false
flagged (a ∷ ts) = a.offer.last || flagged ts

module _ (w : Width) (key nonce : List ℕ) (T : Terms) where
  -- each is what sealing gives for its place, counted from k, and the message that was handed out; and nothing follows one that was flagged last
  abbrev pub InOrder : ℕ → List Taken → Type 0
  InOrder k [] = Unit {0}
  InOrder k (a ∷ ts) =
      GivenBySealing w key nonce T a.offer.note k a.offer.last a.message a.offer.text
      × ((a.offer.last ≡ true → ts ≡ []) × InOrder (k + 1) ts)

  -- ---- What is promised of any list of offers after a start

  pub record Receives (os : List Offer) : Type 0 where
    -- the bytes handed out are the joined messages of those that were taken
    pub joined : handed_out w (starts_with w key nonce T) os ≡ messages (taken_in w (starts_with w key nonce T) os)
    -- the k-th that was taken is what sealing gives for index k, flag and note, under the receiver's own key, nonce, job and revision
    pub in_order : InOrder 0 (taken_in w (starts_with w key nonce T) os)
    -- the index is how many were taken, and complete is whether one of them was flagged last
    pub counted : (after_offers w (starts_with w key nonce T) os).waiting.index ≡ length (taken_in w (starts_with w key nonce T) os)
    pub complete : (after_offers w (starts_with w key nonce T) os).waiting.complete ≡ flagged (taken_in w (starts_with w key nonce T) os)
    -- after a refused start nothing is taken
    pub refused_start : number_of (starts_answer w key nonce T) ≢ 0 → taken_in w (starts_with w key nonce T) os ≡ []
    -- after the last everything is 14, and nothing changes
    pub ended : (after_offers w (starts_with w key nonce T) os).waiting.complete ≡ true → (o : Offer)
        → (offer_number w (after_offers w (starts_with w key nonce T) os) o ≡ 14)
        × ((handed w (after_offers w (starts_with w key nonce T) os) o ≡ o.out)
        × (after_offer w (after_offers w (starts_with w key nonce T) os) o ≡ after_offers w (starts_with w key nonce T) os))

-- ---- The whole way

-- segment k of a body
abbrev pub segment_at : List ℕ → ℕ → List ℕ
segment_at body k = take (end_of (length body) k - begin_of (length body) k) (drop (begin_of (length body) k) body)

module _ (w : Width) (key nonce : List ℕ) (T : Terms) (note body : List ℕ) where
  -- segment k as it is sealed into a buffer and offered, with an output of its length
  pub record Sent (k : ℕ) (o : Offer) : Type 0 where
    pub buffer : List ℕ
    pub buffer_long : length buffer ≡ length (segment_at body k) + widths_length w
    pub its_note : o.note ≡ note
    pub its_flag : o.last ≡ eqb (k + 1) (count_of (length body))
    pub its_text : o.text ≡ segment_out w key nonce T note k o.last (segment_at body k) buffer
    pub its_output : length o.out ≡ length (segment_at body k)

  -- every segment from k on, in order
  abbrev pub AllSent : ℕ → List Offer → Type 0
  AllSent k [] = k ≡ count_of (length body)
  AllSent k (o ∷ os) = Sent k o × AllSent (k + 1) os

  -- comes back whole, and the receiver is complete
  abbrev pub ComesBack : Type 0
  ComesBack =
      JobLimits w T.rounds (length key) (length nonce) (length note) → length body ≤ 68719476736 → Bytes body
      → (os : List Offer) → AllSent 0 os
      → (handed_out w (starts_with w key nonce T) os ≡ body)
      × (((after_offers w (starts_with w key nonce T) os).waiting.complete ≡ true)
      × ((after_offers w (starts_with w key nonce T) os).waiting.index ≡ count_of (length body)))
