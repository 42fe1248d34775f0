-- What the calls that seal a body and open a text leave, put together, at every width.
-- Assumes nothing.
use mathlib.Core.Path.{◌≡◌, refl, sym, ap, ap₂, ◌∙◌}
use mathlib.Core.Bool.{Bool, true, false, cond}
use mathlib.Core.List.{List, ◌++◌, append-nil}
use mathlib.Core.Option.{Option, none, some}
use Prim.Native.Nat.{ℕ, ◌+◌, ◌-◌}
use native.Mathlib.Omega.{arith}
use borrow.Author.Tests.{eq-eqb}
use lib.Dec.{eqb}
use lib.ListN.{length, take, drop, replicate, length-append, length-drop}
use lib.Seq.{length-take-le, drop-length}
use Rattle.std.specs.Prelude.{Ok, Err}
use Rattle.answers.specs.Answers.{Answer}
use Rattle.norx.specs.Norx.{Width, row_bytes, tag_bits, State, row_at, bytes_of_row, body_mark, trailer_mark, after_part, ciphertext, message, finished, tag_of, same}
use Rattle.norx.specs.Turns.{put}
use Rattle.norx.proofs.Slices.{put_next, tail}
use Rattle.norx.proofs.Widths.{tag_is_row}
use Rattle.norx.proofs.Blocks.{length-ciphertext}
use Rattle.norx.proofs.Words.{length-bytes_of_row}
use Rattle.answers.specs.declared.Refusal.TheVariants.{OutputLength, TagDiffers}
use Rattle.answers.proofs.Tests.{cond_true, cond_equal}
use Rattle.rules.specs.Rules.{tag_bytes}
use Rattle.rules.specs.Calls.{answer_of, out_of}
use Rattle.rules.proofs.Lengths.{tag_fits}
use Rattle.sealing.specs.Bodies.{tag_from, sealed_from, opened_from}

-- ciphertext and then tag, each at its place of the output o
laid : (o c g : List ℕ) {y z : List ℕ} → length o ≡ length c + length g → y ≡ c → z ≡ g
    → put (y ++ drop (length c - 0) o) (length c) z (length (y ++ drop (length c - 0) o) - length c) ≡ c ++ g
laid o c g h hy hz =
    let q : List ℕ = drop (length c - 0) o in
    let le : length (c ++ q) - length c ≡ length q = omega (arith, length-append c q) in
    (λ k. put (hy k ++ q) (length c) (hz k) (length (hy k ++ q) - length c))
    ∙ put_next c q g (length c) (length (c ++ q) - length c) refl
    ∙ ap (λ (t : List ℕ). (c ++ g) ++ t) (ap (λ (n : ℕ). drop n q) le ∙ drop-length q) ∙ append-nil (c ++ g)

-- a message or none, by a test
answer_by : (b : Bool) (y : List ℕ) → answer_of (cond b (some y) none) ≡ cond b (Ok tt) (Err TagDiffers)
answer_by true y = refl
answer_by false y = refl

out_by : (b : Bool) (y : List ℕ) (n : ℕ) → out_of (cond b (some y) none) n ≡ cond b y (replicate n 0)
out_by true y n = refl
out_by false y n = refl

module _ (w : Width) (l : ℕ) (k : List ℕ) (s : State) (text trailer : List ℕ) where
  length-tag_from : (body : List ℕ) → length (tag_from w l (tag_bits w) k s body trailer) ≡ tag_bytes w
  unfolding tag_from tag_of
  length-tag_from body =
      let r : List ℕ = row_at (finished w l k (after_part w l trailer_mark (after_part w l body_mark s body) trailer)) 3 in
      length-take-le (tag_bytes w) (bytes_of_row w r) (omega (arith, length-bytes_of_row w r, tag_fits w))

  -- ciphertext and tag are what is written
  pub sealed_of : (o : List ℕ) {y z : List ℕ} {u v : State} {n : ℕ} → n ≡ row_bytes w → length o ≡ length text + n
      → u ≡ cond (eqb (length (take (length text - 0) o)) (length text)) (after_part w l body_mark s text) s
      → y ≡ cond (eqb (length (take (length text - 0) o)) (length text)) (ciphertext w l s text) (take (length text - 0) o)
      → v ≡ after_part w l trailer_mark u trailer
      → z ≡ cond (eqb (length (take (length (y ++ drop (length text - 0) o) - length text) (drop (length text) (y ++ drop (length text - 0) o)))) (tag_bytes w))
      (tag_of w l (tag_bits w) k v) (take (length (y ++ drop (length text - 0) o) - length text) (drop (length text) (y ++ drop (length text - 0) o)))
      → put (y ++ drop (length text - 0) o) (length text) z (length (y ++ drop (length text - 0) o) - length text)
      ≡ cond (eqb (length o) (length text + tag_bytes w)) (sealed_from w l (tag_bits w) k s text trailer) o
  unfolding sealed_from tag_from
  sealed_of o {y} {z} {u} {v} hn ho hu hy hv hz =
      let p : List ℕ = take (length text - 0) o in
      let q : List ℕ = drop (length text - 0) o in
      let long : length o ≡ length text + tag_bytes w = omega (arith, tag_is_row w) in
      let hp : length p ≡ length text = length-take-le (length text - 0) o (omega arith) ∙ omega arith in
      let c : List ℕ = ciphertext w l s text in
      let lc : length c ≡ length text = length-ciphertext w l s text in
      let u' : u ≡ after_part w l body_mark s text = cond_equal (after_part w l body_mark s text) s (length p) (length text) hp hu in
      let y' : y ≡ c = cond_equal c p (length p) (length text) hp hy in
      let ly : length y ≡ length text = ap length y' ∙ lc in
      let room : length (take (length (y ++ q) - length text) (drop (length text) (y ++ q))) ≡ tag_bytes w =
      ap length (tail (length text) (y ++ q)) ∙ omega (arith, length-drop (length text) (y ++ q), length-append y q, length-drop (length text - 0) o) in
      let z' : z ≡ tag_from w l (tag_bits w) k s text trailer =
      cond_equal _ _ _ (tag_bytes w) room hz ∙ ap (tag_of w l (tag_bits w) k) (hv ∙ ap (λ (x : State). after_part w l trailer_mark x trailer) u') in
      ap (λ (n : ℕ). put (y ++ drop (n - 0) o) n z (length (y ++ drop (n - 0) o) - n)) (sym lc)
      ∙ laid o c (tag_from w l (tag_bits w) k s text trailer) (omega (arith, length-tag_from text)) y' z'
      ∙ sym (cond_true _ _ _ (eq-eqb (length o) (length text + tag_bytes w) long))

  -- the message is what is written, and the comparison decides
  opened_of : (o : List ℕ) {c y : List ℕ} {u v : State} {b : Bool} → length text ≡ length o + tag_bytes w → c ≡ take (length o - 0) text
      → u ≡ cond (eqb (length o) (length c)) (after_part w l body_mark s (message w l s c)) s
      → y ≡ cond (eqb (length o) (length c)) (message w l s c) o
      → v ≡ after_part w l trailer_mark u trailer
      → b ≡ same (take (length text - length o) (drop (length o) text)) (tag_of w l (tag_bits w) k v)
      → opened_from w l (tag_bits w) k s text trailer ≡ cond b (some y) none
  unfolding opened_from tag_from
  opened_of o {c = c} {y = y} {u = u} {v = v} {b = b} ho hc hu hy hv hb =
      let n : length text - tag_bytes w ≡ length o = omega arith in
      let n0 : length o - 0 ≡ length text - tag_bytes w = omega arith in
      let body : c ≡ take (length text - tag_bytes w) text = hc ∙ ap (λ (k : ℕ). take k text) n0 in
      let lc : length o ≡ length c = sym (ap length body ∙ length-take-le (length text - tag_bytes w) text (omega arith) ∙ n) in
      let M : List ℕ = message w l s (take (length text - tag_bytes w) text) in
      let m : message w l s c ≡ M = ap (message w l s) body in
      let y' : y ≡ M = cond_equal (message w l s c) o (length o) (length c) lc hy ∙ m in
      let u' : u ≡ after_part w l body_mark s M =
      cond_equal (after_part w l body_mark s (message w l s c)) s (length o) (length c) lc hu ∙ ap (after_part w l body_mark s) m in
      let own : tag_of w l (tag_bits w) k v ≡ tag_from w l (tag_bits w) k s M trailer =
      ap (tag_of w l (tag_bits w) k) (hv ∙ ap (λ (x : State). after_part w l trailer_mark x trailer) u') in
      let b' : b ≡ same (drop (length text - tag_bytes w) text) (tag_from w l (tag_bits w) k s M trailer) =
      hb ∙ ap₂ (λ (x z : List ℕ). same x z) (tail (length o) text ∙ ap (λ (k : ℕ). drop k text) (sym n)) own in
      sym (ap₂ (λ (x : Bool) (z : List ℕ). cond x (some z) none) b' y')

  -- what an opening answers and leaves, by whether the tag that came is its own
  pub opened_by : (o : List ℕ) {c y z : List ℕ} {u v : State} {b : Bool} {r : Answer} {n : ℕ} → n ≡ row_bytes w → length text ≡ length o + n → c ≡ take (length o - 0) text
      → u ≡ cond (eqb (length o) (length c)) (after_part w l body_mark s (message w l s c)) s
      → y ≡ cond (eqb (length o) (length c)) (message w l s c) o → length y ≡ length o
      → v ≡ after_part w l trailer_mark u trailer
      → b ≡ same (take (length text - length o) (drop (length o) text)) (tag_of w l (tag_bits w) k v)
      → r ≡ cond b (Ok tt) (Err TagDiffers) → z ≡ cond b y (replicate (length y) 0)
      → (r ≡ cond (eqb (length text) (length o + tag_bytes w)) (answer_of (opened_from w l (tag_bits w) k s text trailer)) (Err OutputLength))
      × (z ≡ cond (eqb (length text) (length o + tag_bytes w)) (out_of (opened_from w l (tag_bits w) k s text trailer) (length o)) o)
  opened_by o {c} {y} {z} {u} {v} {b} {r} hn ho hc hu hy ly hv hb hr hz =
      let long : length text ≡ length o + tag_bytes w = omega (arith, tag_is_row w) in
      let is : opened_from w l (tag_bits w) k s text trailer ≡ cond b (some y) none = opened_of o {c = c} {y = y} {u = u} {v = v} {b = b} long hc hu hy hv hb in
      let looked : eqb (length text) (length o + tag_bytes w) ≡ true = eq-eqb (length text) (length o + tag_bytes w) long in (
        hr ∙ sym (cond_true _ _ _ looked ∙ ap answer_of is ∙ answer_by b y),
        hz ∙ ap (λ (n : ℕ). cond b y (replicate n 0)) ly ∙ sym (cond_true _ _ _ looked ∙ ap (λ (x : Option (List ℕ)). out_of x (length o)) is ∙ out_by b y (length o)),
      )
