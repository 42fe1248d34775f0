-- The functions on pieces of a body that is sealed: what their calls write, put together, is `fed_text`. At every width.
-- Assumes nothing.
use mathlib.Core.Path.{◌≡◌, refl, sym, ap, ap₂, ◌∙◌}
use mathlib.Core.Logic.{◌⊎◌, inl, inr, ⊎_elim}
use mathlib.Core.List.{List, [], ◌∷◌, ◌++◌, append-nil}
use Prim.Native.Nat.{ℕ, suc, ◌+◌, ◌-◌, ◌*◌, ◌%◌, ◌<◌, ◌≤◌}
use native.Mathlib.Nat.{mod-eq_of_lt, mul-mod_left}
use native.Mathlib.Omega.{arith}
use lib.ListN.{length, take, drop, length-append, length-drop, take-append-drop}
use lib.Seq.{length-take-le, drop-length}
use Rattle.norx.specs.Norx.{Width, rate, State, rate_of, after_blocks, body_mark, cipher_blocks}
use Rattle.norx.specs.Stream.{fed, fed_text}
use Rattle.norx.proofs.Bytes.{Bytes}
use Rattle.norx.proofs.Words.{length-rate_of}
use Rattle.norx.specs.Turns.{put}
use Rattle.norx.proofs.Slices.{put_next, copied, cut, blocks_le}
use Rattle.norx.specs.Blocks.{fulls, left}
use Rattle.norx.proofs.Blocks.{rate_pos, length-cipher_blocks}
use Rattle.norx.proofs.Stream.{fed_fulls}
use Rattle.norx.proofs.Text.{text_some, text_append, text_fulls}
use Rattle.norx.proofs.Pieces.{text_mod, text_cut}

-- a first part y of k bytes, and behind it the rest z
pub joined_of : (o y z : List ℕ) (k : ℕ) → length y ≡ k → length z ≡ length o - k → k ≤ length o
    → put (y ++ drop k o) k z (length (y ++ drop k o) - k) ≡ y ++ z
joined_of o y z k hy hz h =
    let q : List ℕ = drop k o in
    let n : length (y ++ q) - k ≡ length q = omega (arith, length-append y q) in
    put_next y q z k (length (y ++ q) - k) hy
    ∙ ap (λ (t : List ℕ). (y ++ z) ++ t) (ap (λ (i : ℕ). drop i q) n ∙ drop-length q) ∙ append-nil (y ++ z)

module _ (w : Width) (l : ℕ) where
  pub length-fed_text : (d : List ℕ) (s : State) (i : ℕ) → length (fed_text w l s i d) ≡ length d
  unfolding fed_text
  length-fed_text [] s i = refl
  length-fed_text (b ∷ d) s i = ap suc (length-fed_text d _ (suc i))

  -- within a block: the new rate's bytes at their place
  pub written_of : (s : State) (i : ℕ) (d : List ℕ) {t : State} {y : List ℕ} → i % rate w + length d ≤ rate w → Bytes d → t ≡ fed w l body_mark s i d
      → y ≡ take (length d) (drop (i % rate w) (rate_of w t)) → y ≡ fed_text w l s i d
  unfolding fed_text
  written_of s i [] h bytes ht hy = hy
  written_of s i (b ∷ d) h bytes ht hy =
      hy ∙ ap (λ (x : State). take (suc (length d)) (drop (i % rate w) (rate_of w x))) ht ∙ sym (text_some w l (b ∷ d) s i (omega arith) h bytes)

  -- as code shows them: copied from place j of the rate's bytes to an output o
  pub written_rate : (t : State) (j : ℕ) (o : List ℕ) {r y : List ℕ} → j + length o ≤ rate w → r ≡ rate_of w t
      → y ≡ take (j + length o - j) (drop j r) ++ drop (length (take (j + length o - j) (drop j r))) o
      → y ≡ take (length o) (drop j (rate_of w t))
  written_rate t j o {r} {y} h hr hy =
      let n : ℕ = length o in
      let len : length r ≡ rate w = ap length hr ∙ length-rate_of w t in
      let src : length (take (j + n - j) (drop j r)) ≡ n = ap length (cut n j r) ∙ length-take-le n (drop j r) (omega (arith, length-drop j r)) in
      hy ∙ copied (take (j + n - j) (drop j r)) o src ∙ cut n j r ∙ ap (λ (x : List ℕ). take n (drop j x)) hr

  pub written_filling : (s : State) (j : ℕ) (d o : List ℕ) {t : State} {y : List ℕ} → j < rate w → j + length d ≤ rate w → length o ≡ length d → Bytes d
      → t ≡ fed w l body_mark s j d → y ≡ take (length o) (drop j (rate_of w t)) → y ≡ fed_text w l s j d
  written_filling s j d o {t} {y} lt h e bytes ht hy =
      let m : j % rate w ≡ j = mod-eq_of_lt lt in
      written_of s j d (omega arith) bytes ht (hy ∙ ap₂ (λ (a b : ℕ). take a (drop b (rate_of w t))) e (sym m))

  -- bytes that begin a block: the full blocks, and the bytes left
  pub text_aligned : (s : State) (d : List ℕ) → Bytes d
      → fed_text w l s 0 d ≡ cipher_blocks w l s d (fulls w d) ++ fed_text w l (after_blocks w l body_mark s d (fulls w d)) 0 (left w d)
  text_aligned s d bytes =
      let R : ℕ = rate w in
      let q : ℕ = fulls w d in
      let le : q * R ≤ length d = blocks_le (length d) R (rate_pos w) in
      let len : length (take (q * R) d) ≡ q * R = length-take-le (q * R) d le in
      let at : 0 + length (take (q * R) d) ≡ q * R = omega arith in
      let e : q * R % R ≡ 0 % R = mul-mod_left q R ∙ sym (mod-eq_of_lt (rate_pos w)) in
      ap (fed_text w l s 0) (sym (take-append-drop (q * R) d))
      ∙ text_append w l (take (q * R) d) (drop (q * R) d) s 0
      ∙ ap₂ (λ (a b : List ℕ). a ++ b) (text_fulls w l s d bytes q le)
      (ap₂ (λ (t : State) (k : ℕ). fed_text w l t k (left w d)) (fed_fulls w l body_mark s d bytes q le) at
      ∙ text_mod w l (left w d) (after_blocks w l body_mark s d q) (q * R) 0 e)

  pub written_aligned : (s : State) (d o : List ℕ) {out y : List ℕ} {t : State} {x : List ℕ} → Bytes d → length o ≡ length d
      → t ≡ after_blocks w l body_mark s d (fulls w d) → x ≡ left w d → out ≡ cipher_blocks w l s d (fulls w d) ++ drop (fulls w d * rate w) o
      → y ≡ fed_text w l t 0 x → put out (fulls w d * rate w) y (length out - fulls w d * rate w) ≡ fed_text w l s 0 d
  written_aligned s d o {out} {y} {t} {x} bytes ho ht hx hout hy =
      let k : ℕ = fulls w d * rate w in
      let le : k ≤ length d = blocks_le (length d) (rate w) (rate_pos w) in
      let z : List ℕ = fed_text w l (after_blocks w l body_mark s d (fulls w d)) 0 (left w d) in
      let lz : length z ≡ length d - k = length-fed_text (left w d) (after_blocks w l body_mark s d (fulls w d)) 0 ∙ length-drop k d in
      let y' : y ≡ z = hy ∙ ap₂ (λ (a : State) (b : List ℕ). fed_text w l a 0 b) ht hx in
      (λ i. put (hout i) k (y' i) (length (hout i) - k))
      ∙ joined_of o (cipher_blocks w l s d (fulls w d)) z k (length-cipher_blocks w l s d (fulls w d) le) (omega arith) (omega arith)
      ∙ sym (text_aligned s d bytes)

  -- a piece: what goes on in a block, and the rest
  pub written_piece : (s : State) (n k : ℕ) (d o : List ℕ) {t : State} {a b y z : List ℕ} → k ≤ length d → length o ≡ length d
      → (length d - k ≡ 0) ⊎ ((n % rate w + k) % rate w ≡ 0) → a ≡ take k d → b ≡ drop k d → t ≡ fed w l body_mark s (n % rate w) a
      → y ≡ fed_text w l s (n % rate w) a → z ≡ fed_text w l t 0 b
      → put (y ++ drop (k - 0) o) k z (length (y ++ drop (k - 0) o) - k) ≡ fed_text w l s n d
  written_piece s n k d o {t} {a} {b} {y} {z} h ho c ha hb ht hy hz =
      let j : ℕ = n % rate w in
      let y' : y ≡ fed_text w l s j (take k d) = hy ∙ ap (fed_text w l s j) ha in
      let z' : z ≡ fed_text w l (fed w l body_mark s j (take k d)) 0 (drop k d) =
      hz ∙ ap₂ (λ (x : State) (e : List ℕ). fed_text w l x 0 e) (ht ∙ ap (fed w l body_mark s j) ha) hb in
      let ly : length y ≡ k = ap length y' ∙ length-fed_text (take k d) s j ∙ length-take-le k d h in
      let lz : length z ≡ length o - k =
      ap length z' ∙ length-fed_text (drop k d) (fed w l body_mark s j (take k d)) 0 ∙ length-drop k d ∙ ap (λ (i : ℕ). i - k) (sym ho) in
      let e : k - 0 ≡ k = omega arith in
      ap (λ (i : ℕ). put (y ++ drop i o) k z (length (y ++ drop i o) - k)) e
      ∙ joined_of o y z k ly lz (omega arith)
      ∙ ap₂ (λ (x v : List ℕ). x ++ v) y' z'
      ∙ sym (text_cut w l d s n k h (⊎_elim (λ e. inl (length-drop k d ∙ e)) inr c))
