-- How often P runs in each call of a session, by lengths: once wherever the state of the session goes through P; and that a close reports all that ran since the start.
-- Assumes nothing.
use Rattle.std.specs.Prelude.{ℕ, zero, suc, ◌+◌, ◌%◌, ◌≡◌, Bool, ◌||◌, cond, List, [], ◌∷◌, ◌++◌, eqb, length}
use Rattle.norx.specs.Norx.{Width, rate}
use Rattle.norx.specs.Front.{front_bytes}
use Rattle.places.specs.declared.terms.Terms.{Terms}
use Rattle.places.specs.declared.Part.{Part}
use Rattle.places.specs.declared.Part.TheVariants.{Note, Body, Trailer}
use Rattle.places.specs.declared.Place.{Place}
use Rattle.places.specs.Places.{rank_of, behind_all, ends_of, fed_of}
use Rattle.session.specs.Sessions.{Kind, close_runs}
use Rattle.session.specs.Offered.{Close, Call, piece, close, number_to, after_call, is_accepted}
use Rattle.session.specs.Promises.{Started, begun, session_after, OwnClose}

-- ---- A part in blocks of R, as `fed` and `ended` take it in

-- before byte i: once at the start of a block
abbrev pub entered_runs : ℕ → ℕ → ℕ
entered_runs R i = cond (eqb (i % R) 0) 1 0

-- n bytes taken in, i bytes of the part having come before
unfoldable pub fed_runs : ℕ → ℕ → ℕ → ℕ
fed_runs R i zero = 0
fed_runs R i (suc n) = entered_runs R i + fed_runs R (suc i) n

-- the end of a part of n bytes: none where there were none
unfoldable pub ended_runs : ℕ → ℕ → ℕ
ended_runs R zero = 0
ended_runs R (suc n) = entered_runs R (suc n)

-- ---- The calls

-- a start that is answered 0: NORX's start, and the front taken in
unfoldable pub started_runs : Width → ℕ
started_runs w = 1 + fed_runs (rate w) 0 front_bytes

module _ (w : Width) (p : Place) where
  -- the parts from the present one on are ended, up to the one of rank `next` and without it
  abbrev pub readied_runs : ℕ → ℕ
  readied_runs next =
      cond (ends_of Note p.standing next) (ended_runs (rate w) (fed_of p Note)) 0
      + (cond (ends_of Body p.standing next) (ended_runs (rate w) (fed_of p Body)) 0
      + cond (ends_of Trailer p.standing next) (ended_runs (rate w) (fed_of p Trailer)) 0)

  -- a piece of n bytes that is accepted: the parts before it are ended, and it is taken in
  abbrev pub taken_runs : Part → ℕ → ℕ
  taken_runs part n = readied_runs (rank_of part) + fed_runs (rate w) (fed_of p part) n

  -- a close that is answered 0 or 10: every part is ended, and the finish has two
  abbrev pub closed_runs : ℕ
  closed_runs = readied_runs behind_all + 2

-- whether a close is answered 0 or 10
abbrev pub looks_at_tag : ℕ → Bool
looks_at_tag answer = eqb answer 0 || eqb answer 10

module _ (K : Kind) where
  -- all calls of a list; one that is refused by its numbers runs none
  abbrev pub ran_in : K.Session → List Call → ℕ
  ran_in s [] = 0
  ran_in s (piece q ∷ cs) =
      cond (is_accepted K s q) (taken_runs K.width (K.place s) q.label.part (length q.bytes)) 0 + ran_in (after_call K s (piece q)) cs
  ran_in s (close c ∷ cs) = cond (looks_at_tag (number_to K s (close c))) (closed_runs K.width (K.place s)) 0 + ran_in (after_call K s (close c)) cs

module _ (K : Kind) where
  -- what the close of a session's own reports is what ran in the start, in every call since, and in itself
  abbrev pub ReportsAllThatRan : Type 0
  ReportsAllThatRan =
      (key nonce : List ℕ) (T : Terms) → Started K key nonce T → (cs : List Call) (c : Close) → OwnClose K key nonce T cs c
      → close_runs K (session_after K key nonce T cs) c.edition c.tag ≡ started_runs K.width + ran_in K (begun K key nonce T) (cs ++ (close c ∷ []))
