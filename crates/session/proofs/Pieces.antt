-- Pieces alone, offered to a session one after another.
-- Assumes nothing.
use mathlib.Core.Bool.{cond}
use mathlib.Core.List.{List, [], ◌∷◌, ◌++◌}
use Prim.Native.Nat.{ℕ}
use Rattle.session.specs.Sessions.{Kind}
use Rattle.session.specs.Offered.{Piece, piece, after_call, is_accepted, wrote}

module _ (K : Kind) where
  abbrev pub after_piece : K.Session → Piece → K.Session
  after_piece s q = after_call K s (piece q)

  -- the session after all pieces of a list
  abbrev pub after_all : K.Session → List Piece → K.Session
  after_all s [] = s
  after_all s (q ∷ qs) = after_all (after_piece s q) qs

  -- those of them that are accepted
  abbrev pub accepted : K.Session → List Piece → List Piece
  accepted s [] = []
  accepted s (q ∷ qs) = cond (is_accepted K s q) (q ∷ accepted (after_piece s q) qs) (accepted (after_piece s q) qs)

  -- what their outputs hold, joined
  abbrev pub wrote_all : K.Session → List Piece → List ℕ
  wrote_all s [] = []
  wrote_all s (q ∷ qs) = wrote K s q ++ wrote_all (after_piece s q) qs
