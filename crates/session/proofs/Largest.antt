-- A job whose parts come in one piece each: its pieces are taken, and the close reports the runs of P by their lengths. The longest parts reach the largest number.
-- Assumes nothing.
use mathlib.Core.Path.{◌≡◌, refl, sym, ap, ap₂, ◌∙◌}
use mathlib.Core.Bool.{Bool, true, cond}
use mathlib.Core.List.{List, [], ◌∷◌, ◌++◌, append-nil}
use Prim.Native.Nat.{ℕ, ◌+◌, ◌≤◌}
use native.Mathlib.Omega.{arith}
use borrow.Author.Tests.{eq-eqb}
use lib.ListN.{length}
use Rattle.norx.specs.Runs.{sealing_runs}
use Rattle.norx.specs.Texts.{Bytes}
use Rattle.norx.proofs.Bytes.{zeros, length-zeros, bytes_zeros}
use Rattle.rules.specs.Limits.{widths_length}
use Rattle.rules.specs.Runs.{most_runs}
use Rattle.rules.proofs.Work.{longest}
use Rattle.places.specs.declared.terms.Terms.{Terms}
use Rattle.places.specs.declared.Part.{Part}
use Rattle.places.specs.declared.Part.TheVariants.{Note, Body, Trailer}
use Rattle.session.specs.Sessions.{Way, sealing, checking, Kind, tag_length, close_runs}
use Rattle.session.specs.Offered.{Piece, piece, is_accepted, joined, header_of}
use Rattle.session.specs.Promises.{Started, begun, ExactOutput}
use Rattle.session.specs.Largest.{ClosesWith, LargestClose}
use Rattle.session.proofs.Pieces.{after_piece, accepted}
use Rattle.session.proofs.Joining.{header_long}
use Rattle.session.proofs.Refused.{Lawful}
use Rattle.session.proofs.Begun.{after_start, accepted_from, stands}
use Rattle.session.proofs.Closing.{tag_length_lem, own_runs}
use Rattle.session.proofs.Reports.{reports_closes}
use Rattle.session.proofs.Taking.{takes_piece}
use Rattle.session.proofs.Demand.{is_open}

-- a part in one piece, with an output of a length
abbrev whole : Terms → Part → (bytes out : List ℕ) → Bytes bytes → Piece
whole T part bytes out are = record { label = record { edition = T.edition; part = part; offset = 0 }; bytes = bytes; out = out; are_bytes = are }

none_due : (way : Way) (n : ℕ) → ExactOutput way Note n 0
none_due sealing n = refl
none_due checking n = tt

none_due_last : (way : Way) (n : ℕ) → ExactOutput way Trailer n 0
none_due_last sealing n = refl
none_due_last checking n = tt

as_long : (way : Way) (n : ℕ) → ExactOutput way Body n n
as_long sealing n = refl
as_long checking n = tt

module _ (K : Kind) (L : Lawful K) (key nonce : List ℕ) (T : Terms) (begins : Started K key nonce T) (n b t : List ℕ) (n-are : Bytes n) (b-are : Bytes b) (t-are : Bytes t)
    (n_within : length n ≤ 65520) (b-within : length b ≤ 16777216) (t_within : length t ≤ 65536) where
  abbrev q1 : Piece
  q1 = whole T Note n [] n-are

  abbrev q2 : Piece
  q2 = whole T Body b b b-are

  abbrev q3 : Piece
  q3 = whole T Trailer t [] t-are

  abbrev s0 : K.Session
  s0 = begun K key nonce T

  abbrev qs : List Piece
  qs = q1 ∷ q2 ∷ q3 ∷ []

  -- one after the other they are taken

  first_taken : is_accepted K s0 q1 ≡ true
  first_taken =
      eq-eqb _ 0
      ((takes_piece K L key nonce T begins [] q1).1
      (record { own_edition = refl; onward = omega arith; at_count = refl; room = omega arith; exact_output = none_due K.way (length n) }))

  one_taken : accepted_from K key nonce T (q1 ∷ []) ≡ q1 ∷ []
  one_taken = ap (λ (x : Bool). cond x (q1 ∷ []) []) first_taken

  second_taken : is_accepted K (after_piece K s0 q1) q2 ≡ true
  second_taken =
      eq-eqb _ 0
      ((takes_piece K L key nonce T begins (q1 ∷ []) q2).1
      (rw one_taken (record { own_edition = refl; onward = omega arith; at_count = refl; room = omega arith; exact_output = as_long K.way (length b) })))

  two_taken : accepted_from K key nonce T (q1 ∷ q2 ∷ []) ≡ q1 ∷ q2 ∷ []
  two_taken =
      ap₂ (λ (x y : Bool). cond x (q1 ∷ cond y (q2 ∷ []) []) (cond y (q2 ∷ []) [])) first_taken second_taken

  third_taken : is_accepted K (after_piece K (after_piece K s0 q1) q2) q3 ≡ true
  third_taken =
      eq-eqb _ 0
      ((takes_piece K L key nonce T begins (q1 ∷ q2 ∷ []) q3).1
      (rw two_taken (record { own_edition = refl; onward = omega arith; at_count = refl; room = omega arith; exact_output = none_due_last K.way (length t) })))

  -- what is taken behind the first two
  abbrev rest : List Piece
  rest = accepted K (after_piece K (after_piece K s0 q1) q2) (q3 ∷ [])

  all_taken : accepted_from K key nonce T (q1 ∷ q2 ∷ q3 ∷ []) ≡ q1 ∷ q2 ∷ q3 ∷ []
  all_taken =
      ap₂ (λ (x y : Bool). cond x (q1 ∷ cond y (q2 ∷ rest) rest) (cond y (q2 ∷ rest) rest)) first_taken second_taken ∙ ap (λ (z : Bool). q1 ∷ q2 ∷ cond z (q3 ∷ []) []) third_taken

  -- and the close reports by their lengths
  reports_lengths : (given : List ℕ) → length given ≡ tag_length K
      → close_runs K (after_start K key nonce T (q1 ∷ q2 ∷ q3 ∷ [])) T.edition given ≡ sealing_runs K.width (16 + length n) (length b) (length t)
  reports_lengths given h =
      own_runs K L key nonce T begins qs given h
      ∙ ap (λ (as' : List Piece). sealing_runs K.width (length (header_of T (joined Note as'))) (length (joined Body as')) (length (joined Trailer as'))) all_taken
      ∙ ap₂ (λ (x y : List ℕ). sealing_runs K.width (length (header_of T x)) (length y) (length (t ++ []))) (append-nil n) (append-nil b)
      ∙ ap₂ (λ (k : ℕ) (x : List ℕ). sealing_runs K.width k (length b) (length x)) (header_long T n) (append-nil t)

  pub closes_with : (given : List ℕ) → Bytes given → length given ≡ widths_length K.width
      → ClosesWith K key nonce T (sealing_runs K.width (16 + length n) (length b) (length t))
  closes_with given are h = record {
    calls = piece q1 ∷ piece q2 ∷ piece q3 ∷ [];
    closing = record { edition = T.edition; tag = given; are_bytes = are };
    own = (is_open K L _ _ (stands K L key nonce T begins qs), refl, h);
    reports = reports_lengths given (h ∙ sym (tag_length_lem K L));
  }

-- ---- the longest parts, of zeros

pub largest_close : (K : Kind) → Lawful K → LargestClose K
largest_close K L = record {
  reached = λ key nonce T begins. longest_closes key nonce T begins;
  never_more = λ s edition tag. (reports_closes K L s edition tag).at_most;
}
  where
    by_lengths : (key nonce : List ℕ) (T : Terms) → Started K key nonce T → (n b t given : List ℕ) → Bytes n → Bytes b → Bytes t → Bytes given
        → length n ≡ 65520 → length b ≡ 16777216 → length t ≡ 65536 → length given ≡ widths_length K.width → ClosesWith K key nonce T (most_runs K.width)
    by_lengths key nonce T begins n b t given n-are b-are t-are g-are n-long b-long t-long g-long =
        let is : sealing_runs K.width (16 + length n) (length b) (length t) ≡ most_runs K.width =
        ap₂ (λ (x y : ℕ). sealing_runs K.width (16 + x) y (length t)) n-long b-long ∙ ap (sealing_runs K.width 65536 16777216) t-long ∙ longest K.width in
        rw (sym is) (closes_with K L key nonce T begins n b t n-are b-are t-are (omega arith) (omega arith) (omega arith) given g-are g-long)

    longest_closes : (key nonce : List ℕ) (T : Terms) → Started K key nonce T → ClosesWith K key nonce T (most_runs K.width)
    longest_closes key nonce T begins =
        by_lengths key nonce T begins (zeros 65520) (zeros 16777216) (zeros 65536) (zeros (widths_length K.width))
        (bytes_zeros 65520) (bytes_zeros 16777216) (bytes_zeros 65536) (bytes_zeros (widths_length K.width))
        (length-zeros 65520) (length-zeros 16777216) (length-zeros 65536) (length-zeros (widths_length K.width))
