-- Opening and sealing: a text opens to a message exactly when that message seals to it, and no two messages seal to one text.
-- Over the width, the rounds and t.
-- Assumes nothing.
use mathlib.Core.Path.{◌≡◌, refl, sym, ap, ap₂, ◌∙◌}
use mathlib.Core.Bool.{Bool, true, false, ◌&&◌, cond}
use mathlib.Core.List.{List, [], ◌∷◌, ◌++◌}
use mathlib.Core.Option.{none, some}
use Prim.Native.Nat.{ℕ, ◌+◌, ◌-◌, ◌/◌, ◌≤◌}
use native.Mathlib.Omega.{arith}
use borrow.Author.Tests.{eq-eqb, eqb-true}
use lib.Dec.{eqb}
use lib.ListN.{length, length-append, take-append-drop}
use lib.Seq.{length-take-le, take_at, drop_at}
use Rattle.norx.specs.Norx.{Width, row_bytes, row_of, row_at, State, bytes_of_row, finished, ciphertext, message, after_part, tag_of, before_body, tag, sealed, same, body_part, tag_part, recovered, opened, body_mark, trailer_mark}
use Rattle.norx.proofs.Bytes.{Bytes, bytes_take}
use Rattle.norx.proofs.Words.{length-bytes_of_row}
use Rattle.norx.proofs.Blocks.{length-ciphertext}
use Rattle.norx.proofs.Text.{fed_text_lem}
use Rattle.norx.specs.Stream.{fed_text, unfed}
use Rattle.norx.proofs.Unseal.{unfed-fed_text, fed_text-unfed, bytes_fed_text, bytes_unfed, unfed_message}

-- ---- two texts are the same

both : (a b : Bool) → (a && b) ≡ true → (a ≡ true) × (b ≡ true)
both true b e = (refl, e)
both false b e = let z : ◌≡◌ {A = ℕ} 0 1 = cc in let no : ⊥ = omega arith in absurd no

pub same_true : (a b : List ℕ) → same a b ≡ true → a ≡ b
unfolding same
same_true [] [] e = refl
same_true [] (y ∷ b) e = let z : ◌≡◌ {A = ℕ} 0 1 = cc in let no : ⊥ = omega arith in absurd no
same_true (x ∷ a) [] e = let z : ◌≡◌ {A = ℕ} 0 1 = cc in let no : ⊥ = omega arith in absurd no
same_true (x ∷ a) (y ∷ b) e =
    let p = both (eqb x y) (same a b) e in
    λ k. eqb-true x y p.0 k ∷ same_true a b p.1 k

pub same_refl : (a : List ℕ) → same a a ≡ true
unfolding same
same_refl [] = refl
same_refl (x ∷ a) = ap₂ (λ (p q : Bool). p && q) (eq-eqb x x refl) (same_refl a)

-- ---- a message or none

given : (b : Bool) (x m : List ℕ) → cond b (some x) none ≡ some m → (b ≡ true) × (x ≡ m)
given true x m e = (refl, (cc))
given false x m e = let z : ◌≡◌ {A = ℕ} 0 1 = cc in let no : ⊥ = omega arith in absurd no

-- ---- ciphertext and message undo each other

module _ (w : Width) (l : ℕ) (s : State) where
  pub bytes_ciphertext : (m : List ℕ) → Bytes m → Bytes (ciphertext w l s m)
  bytes_ciphertext m h i = rw (sym (fed_text_lem w l s m h)) (bytes_fed_text w l m s 0 i)

  pub bytes_message : (c : List ℕ) → Bytes c → Bytes (message w l s c)
  bytes_message c h i = rw (sym (unfed_message w l s c h)) (bytes_unfed w l c s 0 h i)

  pub message_ciphertext : (m : List ℕ) → Bytes m → message w l s (ciphertext w l s m) ≡ m
  message_ciphertext m h =
      sym (unfed_message w l s (ciphertext w l s m) (bytes_ciphertext m h)) ∙ ap (unfed w l s 0) (sym (fed_text_lem w l s m h)) ∙ unfed-fed_text w l m s 0 h

  pub ciphertext_message : (c : List ℕ) → Bytes c → ciphertext w l s (message w l s c) ≡ c
  ciphertext_message c h =
      sym (fed_text_lem w l s (message w l s c) (bytes_message c h)) ∙ ap (fed_text w l s 0) (sym (unfed_message w l s c h)) ∙ fed_text-unfed w l c s 0 h

-- ---- the theorems

module _ (w : Width) (l t : ℕ) (fits : t / 8 ≤ row_bytes w) (key nonce header trailer : List ℕ) where
  pub length_tag : (m : List ℕ) → length (tag w l t key nonce header m trailer) ≡ t / 8
  unfolding tag tag_of
  length_tag m =
      let r : List ℕ = row_at (finished w l (row_of w key) (after_part w l trailer_mark (after_part w l body_mark (before_body w l t key nonce header) m) trailer)) 3 in
      length-take-le (t / 8) (bytes_of_row w r) (omega (arith, length-bytes_of_row w r))

  pub length-sealed : (m : List ℕ) → length (sealed w l t key nonce header m trailer) ≡ length m + t / 8
  unfolding sealed
  length-sealed m =
      length-append (ciphertext w l (before_body w l t key nonce header) m) (tag w l t key nonce header m trailer)
      ∙ ap₂ (λ (a b : ℕ). a + b) (length-ciphertext w l (before_body w l t key nonce header) m) (length_tag m)

  module _ (m : List ℕ) where
    abbrev text : List ℕ
    text = sealed w l t key nonce header m trailer

    cut_at : length text - t / 8 ≡ length (ciphertext w l (before_body w l t key nonce header) m)
    cut_at = omega (arith, length-sealed m, length-ciphertext w l (before_body w l t key nonce header) m)

    body_of : body_part t text ≡ ciphertext w l (before_body w l t key nonce header) m
    unfolding sealed
    body_of = take_at (ciphertext w l (before_body w l t key nonce header) m) (tag w l t key nonce header m trailer) (length text - t / 8) (sym cut_at)

    tag_of_lem : tag_part t text ≡ tag w l t key nonce header m trailer
    unfolding sealed
    tag_of_lem = drop_at (ciphertext w l (before_body w l t key nonce header) m) (tag w l t key nonce header m trailer) (length text - t / 8) (sym cut_at)

    -- what was sealed opens to the message that it was
    pub open_sealed : Bytes m → opened w l t key nonce header text trailer ≡ some m
    unfolding opened recovered
    open_sealed h =
        let back : recovered w l t key nonce header text ≡ m =
        ap (message w l (before_body w l t key nonce header)) body_of ∙ message_ciphertext w l (before_body w l t key nonce header) m h in
        ap₂ (λ (a b : List ℕ). cond (same a (tag w l t key nonce header b trailer)) (some b) none) tag_of_lem back
        ∙ ap (λ (b : Bool). cond b (some m) none) (same_refl (tag w l t key nonce header m trailer))

  -- a message that a text opens to seals to that text
  pub sealed_opened : (x m : List ℕ) → Bytes x → opened w l t key nonce header x trailer ≡ some m → sealed w l t key nonce header m trailer ≡ x
  unfolding opened recovered sealed
  sealed_opened x m h e =
      let s : State = before_body w l t key nonce header in
      let b : List ℕ = message w l s (body_part t x) in
      let p = given (same (tag_part t x) (tag w l t key nonce header b trailer)) b m e in
      ap (λ (y : List ℕ). ciphertext w l s y ++ tag w l t key nonce header y trailer) (sym p.1)
      ∙ ap₂ (λ (y z : List ℕ). y ++ z) (ciphertext_message w l s (body_part t x) (bytes_take (length x - t / 8) x h))
      (sym (same_true (tag_part t x) (tag w l t key nonce header b trailer) p.0))
      ∙ take-append-drop (length x - t / 8) x

  -- what a text of bytes opens to is bytes
  pub opened_bytes : (x m : List ℕ) → Bytes x → opened w l t key nonce header x trailer ≡ some m → Bytes m
  unfolding opened recovered
  opened_bytes x m h e i =
      let s : State = before_body w l t key nonce header in
      let b : List ℕ = message w l s (body_part t x) in
      let p = given (same (tag_part t x) (tag w l t key nonce header b trailer)) b m e in
      rw (sym p.1) (bytes_message w l s (body_part t x) (bytes_take (length x - t / 8) x h) i)

  -- where a text is refused, no message seals to it
  pub refused_unsealed : (x m : List ℕ) → Bytes m → opened w l t key nonce header x trailer ≡ none → sealed w l t key nonce header m trailer ≡ x → ⊥
  refused_unsealed x m h e f =
      let g : opened w l t key nonce header x trailer ≡ some m = ap (λ (y : List ℕ). opened w l t key nonce header y trailer) (sym f) ∙ open_sealed m h in
      let z : ◌≡◌ {A = ℕ} 0 1 = cc in
      omega arith

  -- no two messages seal to one text
  pub one_message : (m n : List ℕ) → Bytes m → Bytes n → sealed w l t key nonce header m trailer ≡ sealed w l t key nonce header n trailer → m ≡ n
  one_message m n hm hn e =
      let f : some m ≡ some n = sym (open_sealed m hm) ∙ ap (λ (y : List ℕ). opened w l t key nonce header y trailer) e ∙ open_sealed n hn in
      cc
