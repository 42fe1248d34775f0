-- A list of calls in which every close was refused does what its pieces alone do; and a session that is still open after some calls was not closed by them.
-- Assumes nothing.
use mathlib.Core.Path.{◌≡◌, refl, sym, ap, ◌∙◌}
use mathlib.Core.Bool.{cond}
use mathlib.Core.Logic.{◌⊎◌, inl, inr}
use mathlib.Core.List.{List, [], ◌∷◌, ◌++◌, map}
use Prim.Native.Nat.{ℕ}
use native.Mathlib.Omega.{arith}
use Rattle.places.specs.declared.Standing.TheVariants.{Closed}
use Rattle.session.specs.Sessions.{Kind, closed_of}
use Rattle.session.specs.Offered.{Piece, Close, Call, piece, close, number_to, after_call, is_accepted, wrote, after_calls, accepted_in, wrote_in}
use Rattle.session.specs.Promises.{StillOpen, Unclosed, WithoutRefused}
use Rattle.session.proofs.Pieces.{after_piece, after_all, accepted, wrote_all}
use Rattle.session.proofs.Refused.{Lawful, session_without, wrote_without, refusal_changes_nothing, close_ends, closed_refuses}

-- the pieces of a list of calls
abbrev pub pieces_of : List Call → List Piece
pieces_of [] = []
pieces_of (piece q ∷ cs) = q ∷ pieces_of cs
pieces_of (close c ∷ cs) = pieces_of cs

pub record AsPieces (K : Kind) (s : K.Session) (cs : List Call) : Type 0 where
  pub session : after_calls K s cs ≡ after_all K s (pieces_of cs)
  pub pieces : accepted_in K s cs ≡ accepted K s (pieces_of cs)
  pub written : wrote_in K s cs ≡ wrote_all K s (pieces_of cs)

module _ (K : Kind) (L : Lawful K) where
  closed_stays : (cs : List Call) (s : K.Session) → (K.place s).standing ≡ Closed → after_calls K s cs ≡ s
  closed_stays [] s e = refl
  closed_stays (c ∷ cs) s e = ap (λ (u : K.Session). after_calls K u cs) (go c) ∙ closed_stays cs s e
    where
      go : (c : Call) → after_call K s c ≡ s
      go (piece q) =
          let nine : number_to K s (piece q) ≡ 9 = (closed_refuses K L).pieces s e q.label q.bytes q.out in
          let not-zero : number_to K s (piece q) ≡ 0 → ⊥ = λ z. omega arith in
          ((refusal_changes_nothing K L).pieces s q.label q.bytes q.out not-zero).0
      go (close c) =
          let nine : number_to K s (close c) ≡ 9 = (closed_refuses K L).closes s e c.edition c.tag in
          let not-zero : number_to K s (close c) ≡ 0 → ⊥ = λ z. omega arith in
          let not-ten : number_to K s (close c) ≡ 10 → ⊥ = λ z. omega arith in
          ((refusal_changes_nothing K L).closes s c.edition c.tag not-zero not-ten).0

  -- a close that is not refused leaves no session open
  close_shuts : (c : Close) (cs : List Call) (s : K.Session) → (number_to K s (close c) ≡ 0) ⊎ (number_to K s (close c) ≡ 10)
      → (K.place (after_calls K s (close c ∷ cs))).standing ≡ Closed
  close_shuts c cs s e =
      ap (λ (u : K.Session). (K.place (after_calls K u cs)).standing) (close_ends K L s c.edition c.tag e)
      ∙ ap (λ (u : K.Session). (K.place u).standing) (closed_stays cs (closed_of K) (closed_refuses K L).is_closed)
      ∙ (closed_refuses K L).is_closed

  pub as_pieces : (cs : List Call) (s : K.Session) → Unclosed K s cs → AsPieces K s cs
  as_pieces [] s h = record { session = refl; pieces = refl; written = refl }
  as_pieces (piece q ∷ cs) s h =
      let rest = as_pieces cs (after_piece K s q) h in
      record {
        session = rest.session;
        pieces = ap (λ (qs : List Piece). cond (is_accepted K s q) (q ∷ qs) qs) rest.pieces;
        written = ap (λ (x : List ℕ). wrote K s q ++ x) rest.written;
      }
  as_pieces (close c ∷ cs) s h =
      let as_it_was : after_call K s (close c) ≡ s = ((refusal_changes_nothing K L).closes s c.edition c.tag h.0 h.1).0 in
      let rest = as_pieces cs (after_call K s (close c)) h.2 in
      record {
        session = rest.session ∙ ap (λ (u : K.Session). after_all K u (pieces_of cs)) as_it_was;
        pieces = rest.pieces ∙ ap (λ (u : K.Session). accepted K u (pieces_of cs)) as_it_was;
        written = rest.written ∙ ap (λ (u : K.Session). wrote_all K u (pieces_of cs)) as_it_was;
      }

  -- a session that is still open was not closed
  pub still_unclosed : (cs : List Call) (s : K.Session) → StillOpen K (after_calls K s cs) → Unclosed K s cs
  still_unclosed [] s still = tt
  still_unclosed (piece q ∷ cs) s still = still_unclosed cs (after_piece K s q) still
  still_unclosed (close c ∷ cs) s still =
      (λ z. still (close_shuts c cs s (inl z)), λ z. still (close_shuts c cs s (inr z)), still_unclosed cs (after_call K s (close c)) still)

  pieces_alone : (qs : List Piece) (s : K.Session) → (after_all K s qs ≡ after_calls K s (map piece qs)) × (wrote_all K s qs ≡ wrote_in K s (map piece qs))
  pieces_alone [] s = (refl, refl)
  pieces_alone (q ∷ qs) s =
      let rest = pieces_alone qs (after_piece K s q) in
      (rest.0, ap (λ (x : List ℕ). wrote K s q ++ x) rest.1)

  pub without_refused : WithoutRefused K
  without_refused s cs still =
      let same = as_pieces cs s (still_unclosed cs s still) in
      let qs : List Piece = pieces_of cs in
      let alone = pieces_alone (accepted K s qs) s in (
        same.session ∙ session_without K L qs s ∙ alone.0 ∙ ap (λ (x : List Piece). after_calls K s (map piece x)) (sym same.pieces),
        same.written ∙ wrote_without K L qs s ∙ alone.1 ∙ ap (λ (x : List Piece). wrote_in K s (map piece x)) (sym same.pieces),
      )
