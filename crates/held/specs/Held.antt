-- A session of either kind and width, and what each call on it gives, on all inputs: what the session of its width gives.
-- Assumes nothing.
use Rattle.std.specs.Prelude.{ℕ, Bool, true, false, cond, List}
use Rattle.norx.specs.Norx.{word32, word64}
use Rattle.places.specs.declared.terms.Edition.{Edition}
use Rattle.places.specs.declared.terms.Terms.{Terms}
use Rattle.places.specs.declared.Label.{Label}
use Rattle.places.specs.declared.Place.{Place}
use Rattle.session.specs.Seen.{Closing as Close}
use Rattle.held.specs.At.{held_close_of, checks_at, session_at, put_at, word_at, closed_at, start_at, piece_at, piece_out_at, close_at, close_tag_at}
use Rattle.held.specs.declared.EitherSession.{EitherSession as Held}
use Rattle.held.specs.declared.EitherSession.TheVariants.{Narrow, Wide}

-- the closed session of a kind and a width: every number in it is zero
abbrev pub closed_held : Bool → Bool → Held
closed_held check wide = cond wide (Wide (closed_at ℕ word64 check)) (Narrow (closed_at ℕ word32 check))

unfoldable pub held_start : Bool → Bool → List ℕ → List ℕ → Terms → Close Held
held_start check wide key nonce T =
    cond wide (held_close_of Wide (start_at ℕ word64 check key nonce T)) (held_close_of Narrow (start_at ℕ word32 check key nonce T))

unfoldable pub held_piece : Held → Label → List ℕ → List ℕ → Close Held
held_piece (Narrow h) label x out = held_close_of Narrow (piece_at word32 h label x out)
held_piece (Wide h) label x out = held_close_of Wide (piece_at word64 h label x out)

unfoldable pub held_piece_out : Held → Label → List ℕ → List ℕ → List ℕ
held_piece_out (Narrow h) label x out = piece_out_at word32 h label x out
held_piece_out (Wide h) label x out = piece_out_at word64 h label x out

unfoldable pub held_close : Held → Edition → List ℕ → List ℕ → Close Held
held_close (Narrow h) edition given tag = held_close_of Narrow (close_at word32 h edition given tag)
held_close (Wide h) edition given tag = held_close_of Wide (close_at word64 h edition given tag)

unfoldable pub held_tag : Held → Edition → List ℕ → List ℕ
held_tag (Narrow h) edition tag = close_tag_at word32 h edition tag
held_tag (Wide h) edition tag = close_tag_at word64 h edition tag

abbrev pub held_wide : Held → Bool
held_wide (Narrow h) = false
held_wide (Wide h) = true

abbrev pub held_place : Held → Place
held_place (Narrow h) = (session_at h).place
held_place (Wide h) = (session_at h).place

abbrev pub held_checks : Held → Bool
held_checks (Narrow h) = checks_at h
held_checks (Wide h) = checks_at h

-- the same session at another place
abbrev pub held_put : Held → Place → Held
held_put (Narrow h) p = Narrow (put_at h p)
held_put (Wide h) p = Wide (put_at h p)

unfoldable pub held_word : Held → ℕ → ℕ
held_word (Narrow h) i = word_at h i
held_word (Wide h) i = word_at h i
