-- A call where its checks pass, as code makes them, at every width.
-- Assumes nothing.
use mathlib.Core.Path.{◌≡◌, sym, ap, ap₂, ◌∙◌}
use mathlib.Core.Bool.{true, cond}
use mathlib.Core.List.{List}
use Prim.Native.Nat.{ℕ, ◌+◌}
use lib.Dec.{eqb}
use lib.ListN.{length, replicate}
use Rattle.std.specs.Prelude.{Err}
use Rattle.norx.specs.Norx.{Width, row_bytes, tag_bits, State, row_of, header_mark, start, after_part}
use Rattle.norx.proofs.Widths.{tag_is_row}
use Rattle.answers.specs.declared.Refusal.TheVariants.{OutputLength}
use Rattle.answers.specs.Answers.{Answer, done_of}
use Rattle.answers.proofs.Tests.{cond_true, cond_equal}
use Rattle.rules.specs.Rules.{rounds_of, tag_bytes}
use Rattle.rules.specs.Calls.{seal_checks, open_checks, answer_of, out_of}
use Rattle.rules.specs.OneCall.{seal_answer, seal_out, checked, open_answer, open_out}
use Rattle.rules.proofs.Lengths.{seal_exact, open_exact}
use Rattle.rules.proofs.Limits.{rounds_asked, seal_rounds, open_rounds}
use Rattle.sealing.specs.Bodies.{sealed_from, opened_from}
use Rattle.sealing.proofs.Whole.{loaded, sealed_of_whole, opened_of_whole}

behind : (w : Width) (l : ℕ) (nonce header k : List ℕ) → length nonce ≡ row_bytes w → {m : List ℕ} {s : State} → m ≡ loaded w nonce
    → s ≡ after_part w (rounds_of w l) header_mark (start w (rounds_of w l) (tag_bits w) k m) header
    → s ≡ after_part w (rounds_of w l) header_mark (start w (rounds_of w l) (tag_bits w) k (row_of w nonce)) header
behind w l nonce header k long hm hs =
    hs ∙ ap (λ (x : List ℕ). after_part w (rounds_of w l) header_mark (start w (rounds_of w l) (tag_bits w) k x) header)
    (cond_equal (row_of w nonce) (replicate 4 0) (length nonce) (row_bytes w) long hm)

-- n is the length of a row, and of a tag
module _ (w : Width) (l : ℕ) (key nonce header text trailer out : List ℕ) {n : ℕ} (row : n ≡ row_bytes w) {a : Answer} where
  seal_chain : a ≡ seal_checks n n l (length key) (length nonce) (length header) (length text) (length trailer) (length out) → a ≡ seal_answer w l key nonce header text trailer out
  unfolding seal_answer
  seal_chain e =
      e ∙ ap₂ (λ (r t : ℕ). seal_checks r t l (length key) (length nonce) (length header) (length text) (length trailer) (length out)) row (row ∙ sym (tag_is_row w))

  open_chain : a ≡ open_checks n n l (length key) (length nonce) (length header) (length text) (length trailer) (length out) → a ≡ checked w l key nonce header text trailer out
  open_chain e =
      e ∙ ap₂ (λ (r t : ℕ). open_checks r t l (length key) (length nonce) (length header) (length text) (length trailer) (length out)) row (row ∙ sym (tag_is_row w))

  module _ (passes : done_of a ≡ true) {k m : List ℕ} {s : State} (hk : k ≡ loaded w key) (hm : m ≡ loaded w nonce)
      (hs : s ≡ after_part w (rounds_of w l) header_mark (start w (rounds_of w l) (tag_bits w) k m) header) where
    pub seal_passed : {y : List ℕ} → a ≡ seal_checks n n l (length key) (length nonce) (length header) (length text) (length trailer) (length out)
        → y ≡ cond (eqb (length out) (length text + tag_bytes w)) (sealed_from w (rounds_of w l) (tag_bits w) k s text trailer) out
        → y ≡ seal_out w l key nonce header text trailer out
    unfolding seal_answer seal_out
    seal_passed e f =
        let passed = sym (ap done_of (seal_chain e)) ∙ passes in
        let exact = seal_exact (row_bytes w) (tag_bytes w) l (length key) (length nonce) (length header) (length text) (length trailer) (length out) passed in
        let asked = rounds_asked w l (seal_rounds (row_bytes w) (tag_bytes w) l (length key) (length nonce) (length header) (length text) (length trailer) (length out) passed) in
        let sealed = sealed_of_whole w (rounds_of w l) key nonce header text trailer exact.key_long hk (behind w l nonce header k exact.nonce_long hm hs) out exact.text_long f in
        (rw asked at sealed) ∙ sym (cond_true _ _ _ passed)

    pub open_passed : {r : Answer} {y : List ℕ} → a ≡ open_checks n n l (length key) (length nonce) (length header) (length text) (length trailer) (length out)
        → r ≡ cond (eqb (length text) (length out + tag_bytes w)) (answer_of (opened_from w (rounds_of w l) (tag_bits w) k s text trailer)) (Err OutputLength)
        → y ≡ cond (eqb (length text) (length out + tag_bytes w)) (out_of (opened_from w (rounds_of w l) (tag_bits w) k s text trailer) (length out)) out
        → (r ≡ open_answer w l key nonce header text trailer out) × (y ≡ open_out w l key nonce header text trailer out)
    unfolding open_answer open_out
    open_passed e f g =
        let passed = sym (ap done_of (open_chain e)) ∙ passes in
        let exact = open_exact (row_bytes w) (tag_bytes w) l (length key) (length nonce) (length header) (length text) (length trailer) (length out) passed in
        let asked = rounds_asked w l (open_rounds (row_bytes w) (tag_bytes w) l (length key) (length nonce) (length header) (length text) (length trailer) (length out) passed) in
        let opened = opened_of_whole w (rounds_of w l) key nonce header text trailer exact.key_long hk (behind w l nonce header k exact.nonce_long hm hs) out exact.text_long f g in
        ((rw asked at opened.0) ∙ sym (cond_true _ _ _ passed), (rw asked at opened.1) ∙ sym (cond_true _ _ _ passed))
