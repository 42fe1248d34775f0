-- What the calls that make a segment's nonce and take in its header leave, put together, at every width.
-- Assumes nothing.
use mathlib.Core.Path.{◌≡◌, sym, ap, ap₂, ◌∙◌}
use mathlib.Core.Bool.{Bool, cond}
use mathlib.Core.List.{List, [], ◌++◌}
use Prim.Native.Nat.{ℕ, ◌+◌}
use native.Mathlib.Nat.{zero-add}
use lib.Dec.{eqb}
use lib.ListN.{length}
use Rattle.std.specs.Prelude.{Err}
use Rattle.answers.specs.Answers.{Answer}
use Rattle.norx.specs.Norx.{Width, row_bytes, tag_bits, State, row_of, header_mark, start, after_part, sealed}
use Rattle.norx.specs.Front.{front_bytes}
use Rattle.norx.specs.Stream.{fed, ended}
use Rattle.norx.proofs.Bytes.{Bytes, bytes_append}
use Rattle.norx.proofs.Stream.{fed-append, fed_part}
use Rattle.answers.specs.declared.Refusal.TheVariants.{OutputLength}
use Rattle.rules.specs.Rules.{tag_bytes}
use Rattle.rules.specs.Calls.{Exact, answer_of, out_of}
use Rattle.rules.specs.OneCall.{tag_answer, tag_out}
use Rattle.places.specs.declared.terms.Terms.{Terms}
use Rattle.places.specs.Terms.{front_of}
use Rattle.places.proofs.Editions.{front_long, front_bytes_lem}
use Rattle.sealing.specs.Bodies.{sealed_from, opened_from}
use Rattle.sealing.proofs.Whole.{loaded, sealed_of_whole, opened_of_whole}
use Rattle.segments.specs.Segments.{segment_nonce, segment_header}
use Rattle.segments.proofs.Checks.{header_long}

-- front and note, one after the other and then ended, are the header
pub header_of : (w : Width) (T : Terms) (k n note : List ℕ) {b : List ℕ} {s a h e : State} → Bytes note → b ≡ front_of T.edition → s ≡ start w T.rounds (tag_bits w) k n
    → a ≡ fed w T.rounds header_mark s 0 b → h ≡ fed w T.rounds header_mark a front_bytes note → e ≡ ended w T.rounds header_mark h (front_bytes + length note)
    → e ≡ after_part w T.rounds header_mark (start w T.rounds (tag_bits w) k n) (segment_header T note)
unfolding segment_header
header_of w T k n note bytes eb es ea eh ee =
    let l : ℕ = T.rounds in
    let f : List ℕ = front_of T.edition in
    let s' : State = start w l (tag_bits w) k n in
    let a' = ea ∙ ap₂ (λ (x : State) (y : List ℕ). fed w l header_mark x 0 y) es eb in
    let h' = eh ∙ ap (λ (x : State). fed w l header_mark x front_bytes note) a'
    ∙ ap (λ (k : ℕ). fed w l header_mark (fed w l header_mark s' 0 f) k note) (sym (zero-add (length f) ∙ front_long T.edition)) ∙ sym (fed-append w l header_mark f note s' 0) in
    ee ∙ ap₂ (λ (x : State) (k : ℕ). ended w l header_mark x k) h' (sym (header_long T note))
    ∙ fed_part w l header_mark s' (f ++ note) (bytes_append f note (front_bytes_lem T.edition) bytes)

-- a body sealed, and a text opened, from that state
module _ (w : Width) (key nonce : List ℕ) (T : Terms) (note : List ℕ) (i : ℕ) (last : Bool) (text out : List ℕ) where
  abbrev l : ℕ
  l = T.rounds

  abbrev own : List ℕ
  own = segment_nonce nonce i last

  abbrev header : List ℕ
  header = segment_header T note

  module _ {k n : List ℕ} {s : State} (hk : k ≡ loaded w key) (hn : n ≡ row_of w (segment_nonce nonce i last))
      (hs : s ≡ after_part w T.rounds header_mark (start w T.rounds (tag_bits w) k n) (segment_header T note)) where
    behind : s ≡ after_part w l header_mark (start w l (tag_bits w) k (row_of w own)) header
    behind = hs ∙ ap (λ (x : List ℕ). after_part w l header_mark (start w l (tag_bits w) k x) header) hn

    pub segment_sealed_of : Exact (row_bytes w) (tag_bytes w) (length key) (length nonce + 8) (length text) (length out) → {y : List ℕ}
        → y ≡ cond (eqb (length out) (length text + tag_bytes w)) (sealed_from w T.rounds (tag_bits w) k s text []) out
        → y ≡ sealed w T.rounds (tag_bits w) key (segment_nonce nonce i last) (segment_header T note) text []
    segment_sealed_of exact e = sealed_of_whole w l key own header text [] exact.key_long hk behind out exact.text_long e

    pub segment_opened_of : Exact (row_bytes w) (tag_bytes w) (length key) (length nonce + 8) (length out) (length text) → {r : Answer} {y : List ℕ}
        → r ≡ cond (eqb (length text) (length out + tag_bytes w)) (answer_of (opened_from w T.rounds (tag_bits w) k s text [])) (Err OutputLength)
        → y ≡ cond (eqb (length text) (length out + tag_bytes w)) (out_of (opened_from w T.rounds (tag_bits w) k s text []) (length out)) out
        → (r ≡ tag_answer w T.rounds key (segment_nonce nonce i last) (segment_header T note) text [] out)
        × (y ≡ tag_out w T.rounds key (segment_nonce nonce i last) (segment_header T note) text [] out)
    segment_opened_of exact e f = opened_of_whole w l key own header text [] exact.key_long hk behind out exact.text_long e f
