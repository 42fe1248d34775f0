-- Where a session of any kind and width stands, and what is answered by its numbers.
-- Assumes nothing.
use Rattle.std.specs.Prelude.{ℕ, ◌+◌, ◌≤◌, ◌≡◌, Bool, true, false, ◌&&◌, leb, ltb, eqb, Ok}
use Rattle.norx.specs.Norx.{header_mark, body_mark, trailer_mark}
use Rattle.norx.specs.Front.{front_bytes}
use Rattle.answers.specs.declared.Refusal.TheVariants.{KeyLength, RoundsNumber, TagLength, OverLimit, OutputLength, EarlierPart, OtherOffset, NotSound}
use Rattle.answers.specs.Answers.{Answer, need_of}
use Rattle.rules.specs.Rules.{longest_note, longest_body, longest_trailer, rounds_ok, lengths_ok}
use Rattle.places.specs.declared.terms.Edition.{Edition}
use Rattle.places.specs.declared.terms.Terms.{Terms}
use Rattle.places.specs.declared.Part.{Part}
use Rattle.places.specs.declared.Part.TheVariants.{Note, Body, Trailer}
use Rattle.places.specs.declared.Label.{Label}
use Rattle.places.specs.declared.Standing.{Standing}
use Rattle.places.specs.declared.Standing.TheVariants.{Closed, Open}
use Rattle.places.specs.declared.Place.{Place}
use Rattle.places.specs.Terms.{no_terms, terms_ok, edition_link}

-- ---- Parts

-- the order of the parts
abbrev pub rank_of : Part → ℕ
rank_of Note = 0
rank_of Body = 1
rank_of Trailer = 2

-- the rank behind every part
abbrev pub behind_all : ℕ
behind_all = 3

abbrev pub limit_of : Part → ℕ
limit_of Note = longest_note
limit_of Body = longest_body
limit_of Trailer = longest_trailer

abbrev pub mark_of : Part → ℕ
mark_of Note = header_mark
mark_of Body = body_mark
mark_of Trailer = trailer_mark

-- ---- Places

-- the rank of the part that a session is open in; of a closed one, behind them all
abbrev pub present_of : Standing → ℕ
present_of Closed = behind_all
present_of (Open part) = rank_of part

-- whether a session that stands so ends a part where it goes on to the part of rank `next`: one from the present part on, and before that
abbrev pub ends_of : Part → Standing → ℕ → Bool
ends_of part standing next = leb (present_of standing) (rank_of part) && ltb (rank_of part) next

-- the bytes of a part accepted so far
abbrev pub count_of : Place → Part → ℕ
count_of p Note = p.note
count_of p Body = p.body
count_of p Trailer = p.trailer

-- the bytes that the state took in of a part: the front stands before the note
abbrev pub fed_of : Place → Part → ℕ
fed_of p Note = front_bytes + p.note
fed_of p Body = p.body
fed_of p Trailer = p.trailer

abbrev pub fresh_place : Terms → Place
fresh_place T = record { standing = Open Note; note = 0; body = 0; trailer = 0; terms = T }

abbrev pub closed_place : Place
closed_place = record { standing = Closed; note = 0; body = 0; trailer = 0; terms = no_terms }

-- the place once a piece of n bytes is accepted
abbrev pub moved : Place → Part → ℕ → Place
moved p Note n = record { standing = Open Note; note = p.note + n; body = p.body; trailer = p.trailer; terms = p.terms }
moved p Body n = record { standing = Open Body; note = p.note; body = p.body + n; trailer = p.trailer; terms = p.terms }
moved p Trailer n = record { standing = Open Trailer; note = p.note; body = p.body; trailer = p.trailer + n; terms = p.terms }

-- ---- Sound: open, its terms in order, no count over its limit, counts of parts not yet reached 0

abbrev pub counts_within : Place → Bool
counts_within p = leb p.note (limit_of Note) && leb p.body (limit_of Body) && leb p.trailer (limit_of Trailer)

abbrev pub unreached_of : Place → Part → Bool
unreached_of p Note = eqb p.body 0 && eqb p.trailer 0
unreached_of p Body = eqb p.trailer 0
unreached_of p Trailer = true

abbrev pub sound_at : Standing → Place → Bool
sound_at Closed p = false
sound_at (Open part) p = terms_ok p.terms && counts_within p && unreached_of p part

unfoldable pub sound_of : Place → Bool
sound_of p = sound_at p.standing p

-- ---- The orders of refusals

-- start: 2, 1; `row` is the length of a key and of a nonce
unfoldable pub start_answer : ℕ → Terms → ℕ → ℕ → Answer
start_answer row T key nonce = need_of (rounds_ok T.rounds) RoundsNumber (need_of (lengths_ok row key nonce) KeyLength (Ok tt))

-- piece: 9, 12, 6, 7, 8, 4, 5; `exact` says that the output has the exact length
unfoldable pub piece_answer : Place → Label → ℕ → Bool → Answer
piece_answer p label n exact =
    need_of (sound_of p) NotSound
    (edition_link label.edition p.terms.edition
    (need_of (leb (present_of p.standing) (rank_of label.part)) EarlierPart
    (need_of (eqb label.offset (count_of p label.part)) OtherOffset
    (need_of (leb (count_of p label.part + n) (limit_of label.part)) OverLimit
    (need_of exact OutputLength (Ok tt))))))

-- whether the output of a sealing session has the exact length for a piece of n bytes
abbrev pub seal_exact : Part → ℕ → ℕ → Bool
seal_exact Note n out = eqb out 0
seal_exact Body n out = eqb out n
seal_exact Trailer n out = eqb out 0

-- close: 9, 12, 6, 4, 3, before the tag is looked at; `wanted` is the length of a tag
unfoldable pub close_answer : Place → Edition → ℕ → ℕ → Answer
close_answer p edition wanted tag =
    need_of (sound_of p) NotSound
    (edition_link edition p.terms.edition
    (need_of (counts_within p) OverLimit
    (need_of (eqb tag wanted) TagLength (Ok tt))))

-- what is known of a piece that is accepted
pub record Accepted (p : Place) (part : Part) (n : ℕ) (exact : Bool) : Type 0 where
  pub sound : sound_of p ≡ true
  pub onward : leb (present_of p.standing) (rank_of part) ≡ true
  pub noted : p.note ≤ limit_of Note
  pub termed : terms_ok p.terms ≡ true
  pub room : count_of p part + n ≤ limit_of part
  pub fits : exact ≡ true
