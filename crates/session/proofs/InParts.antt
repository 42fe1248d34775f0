-- What the calls on a session's state ensure, put together over the width.
-- Assumes nothing.
use mathlib.Core.Path.{◌≡◌, sym, ap, ap₂, ◌∙◌}
use mathlib.Core.Bool.{Bool, true, cond}
use mathlib.Core.List.{List, ◌++◌}
use Prim.Native.Nat.{ℕ, ◌≤◌}
use native.Mathlib.Omega.{arith}
use lib.Dec.{eqb}
use lib.ListN.{length, drop, replicate}
use lib.Seq.{length-take-le}
use Rattle.norx.specs.Norx.{Width, row_bytes, tag_bits, State, row_at, row_of, bytes_of_row, header_mark, body_mark, trailer_mark, start, finished, tag_of}
use Rattle.norx.specs.Stream.{fed, fed_text}
use Rattle.norx.proofs.Words.{length-bytes_of_row}
use Rattle.norx.proofs.Slices.{copied}
use Rattle.answers.proofs.Tests.{cond_equal}
use Rattle.rules.specs.Rules.{tag_bytes}
use Rattle.rules.proofs.Lengths.{tag_fits}
use Rattle.places.specs.declared.terms.Terms.{Terms}
use Rattle.places.specs.declared.Part.{Part}
use Rattle.places.specs.declared.Part.TheVariants.{Note, Body, Trailer}
use Rattle.places.specs.declared.Place.{Place}
use Rattle.places.specs.Terms.{front_of}
use Rattle.places.specs.Places.{rank_of, mark_of, ends_of, fed_of, seal_exact}
use Rattle.session.specs.Sessions.{Way, sealing, fresh_state, brought, taken, end_if, readied, taken_at, written_at}

-- the words of a key or of a nonce that has the length of one
pub row_of_lem : (w : Width) (b : List ℕ) {r : List ℕ} → length b ≡ row_bytes w → r ≡ cond (eqb (length b) (row_bytes w)) (row_of w b) (replicate 4 0) → r ≡ row_of w b
row_of_lem w b h e = cond_equal (row_of w b) (replicate 4 0) (length b) (row_bytes w) h e

pub fresh_of_lem : (w : Width) (t : ℕ) (T : Terms) (key nonce : List ℕ) {b n : List ℕ} {s u : State} → length nonce ≡ row_bytes w → b ≡ front_of T.edition
    → n ≡ cond (eqb (length nonce) (row_bytes w)) (row_of w nonce) (replicate 4 0) → s ≡ start w T.rounds t key n → u ≡ fed w T.rounds header_mark s 0 b
    → u ≡ fresh_state w t T key (row_of w nonce)
fresh_of_lem w t T key nonce h eb en es eu =
    eu ∙ ap₂ (λ (x : State) (y : List ℕ). fed w T.rounds header_mark x 0 y) (es ∙ ap (start w T.rounds t key) (row_of_lem w nonce h en)) eb

pub readied_of : (w : Width) (p : Place) (next : ℕ) (s : State) {ends-note ends-body ends-trailer : Bool} {a b c : State}
    → ends-note ≡ ends_of Note p.standing next → a ≡ end_if w p.terms.rounds header_mark ends-note s (fed_of p Note)
    → ends-body ≡ ends_of Body p.standing next → b ≡ end_if w p.terms.rounds body_mark ends-body a (fed_of p Body)
    → ends-trailer ≡ ends_of Trailer p.standing next → c ≡ end_if w p.terms.rounds trailer_mark ends-trailer b (fed_of p Trailer)
    → c ≡ readied w p next s
unfolding readied
readied_of w p next s en ea eb' eb et ec =
    let l : ℕ = p.terms.rounds in
    ec ∙ (λ i. end_if w l trailer_mark (et i) ((eb ∙ (λ j. end_if w l body_mark (eb' j) ((ea ∙ ap (λ (due : Bool). end_if w l header_mark due s (fed_of p Note)) en) j) (fed_of p Body))) i) (fed_of p Trailer))

-- a piece of the part k taken in, once the parts before it are ended
module _ (w : Width) (p : Place) (part k : Part) (x : List ℕ) (s : State) {rank : ℕ} {ready : State} (e : part ≡ k) (er : rank ≡ rank_of part)
    (es : ready ≡ readied w p rank s) where
  ready_is : ready ≡ readied w p (rank_of k) s
  ready_is = es ∙ ap (λ (i : ℕ). readied w p i s) (er ∙ ap rank_of e)

  pub taken_at_of : (way : Way) {v : State} → v ≡ fed w p.terms.rounds (mark_of k) ready (fed_of p k) (brought w p.terms.rounds k way ready (fed_of p k) x)
      → v ≡ taken_at w p way part x s
  unfolding taken_at taken
  taken_at_of way ev =
      ev ∙ ap (λ (u : State). fed w p.terms.rounds (mark_of k) u (fed_of p k) (brought w p.terms.rounds k way u (fed_of p k) x)) ready_is
      ∙ ap (λ (j : Part). taken_at w p way j x s) (sym e)

-- the same of a body that is sealed: where the output is as long as the piece, the state and the ciphertext
module _ (w : Width) (p : Place) (part : Part) (x out : List ℕ) (s : State) {rank : ℕ} {ready : State} (e : part ≡ Body) (er : rank ≡ rank_of part)
    (es : ready ≡ readied w p rank s) (fits : seal_exact part (length x) (length out) ≡ true) where
  long : eqb (length out) (length x) ≡ true
  long = sym (ap (λ (k : Part). seal_exact k (length x) (length out)) e) ∙ fits

  pub sealed_taken_at : {v : State} → v ≡ cond (eqb (length out) (length x)) (fed w p.terms.rounds body_mark ready p.body x) ready → v ≡ taken_at w p sealing part x s
  sealed_taken_at ev =
      taken_at_of w p part Body x s e er es sealing (ev ∙ ap (λ (b : Bool). cond b (fed w p.terms.rounds body_mark ready p.body x) ready) long)

  pub sealed_wrote : {v : List ℕ} → v ≡ cond (eqb (length out) (length x)) (fed_text w p.terms.rounds ready p.body x) out → v ≡ written_at w p sealing part x s out
  sealed_wrote ev =
      ev ∙ ap (λ (b : Bool). cond b (fed_text w p.terms.rounds ready p.body x) out) long
      ∙ ap (λ (u : State). fed_text w p.terms.rounds u p.body x) (ready_is w p part Body x s e er es)
      ∙ ap (λ (k : Part). written_at w p sealing k x s out) (sym e)

-- a text copied over one of its length
pub copied_over : (e o : List ℕ) {v : List ℕ} → length e ≡ length o → v ≡ e ++ drop (length e) o → v ≡ e
copied_over e o h ev = ev ∙ copied e o h

-- a tag is as long as the buffer that was asked for
pub own_long : (w : Width) (l : ℕ) (k : List ℕ) (s : State) (tag : List ℕ) {o : List ℕ} → o ≡ tag_of w l (tag_bits w) k s → length tag ≡ tag_bytes w → length o ≡ length tag
unfolding tag_of
own_long w l k s tag eo h =
    let r : List ℕ = row_at (finished w l k s) 3 in
    let fits : tag_bytes w ≤ row_bytes w = tag_fits w in
    ap length eo ∙ length-take-le (tag_bytes w) (bytes_of_row w r) (omega (arith, length-bytes_of_row w r)) ∙ sym h
