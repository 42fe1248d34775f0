-- What is read at a place, from the digits there: a number and what ends it, and from four of these a line.
-- Assumes nothing.
use mathlib.Core.Path.{◌≡◌, refl, sym, ap, ap₂, ◌∙◌}
use mathlib.Core.Bool.{true, false, false≢true}
use mathlib.Core.List.{List, [], ◌∷◌, ◌++◌, append_assoc}
use Prim.Native.Nat.{ℕ, ◌+◌, ◌-◌, ◌<◌, ◌≤◌, ◌^◌}
use native.Mathlib.Omega.{arith}
use native.Mathlib.Numerals.{add-one}
use borrow.Author.Tests.{lt-ltb, le-ltb, ltb-true, eq-eqb, eqb-true}
use lib.Dec.{ltb, eqb}
use lib.ListN.{length, take, drop, get_or, length-append, length-drop}
use lib.Seq.{drop-cons, drop-drop, get_or-drop, get_or-append_seam, length-take-le, drop_at}
use Rattle.std.specs.Prelude.{Option, Some, None}
use Rattle.std.specs.List.{starts_with}
use Rattle.std.proofs.lemmas.Bool.Decides.{Decides-eqb}
use Rattle.std.proofs.lemmas.List.{take_rest}
use Rattle.std.proofs.lemmas.Slice.Eq.{starts_is}
use Rattle.answers.proofs.Chain.{both, and_true}
use Rattle.rules.specs.Rules.{segment_bytes}
use Rattle.cutting.specs.Cutting.{segment_ok}
use Rattle.cutting.proofs.Cuts.{last_rule}
use Rattle.decimal.specs.Decimal.{digits, num_text, digits_of, FoundIs}
use Rattle.decimal.proofs.Runs.{run_then, run_split}
use Rattle.fields.specs.Fields.{tab, newline}
use Rattle.lists.specs.Lists.{line_text}
use Rattle.lists.specs.Pieces.{rest_text}
use Rattle.lists.specs.Places.{ended_by, PartIs, LineIs, RestIs, SegmentIs}
use Rattle.lists.proofs.OneLine.{from_body, from_index, from_revision, line_fields, rest_fields, num_then}

-- ---- A number and what ends it

pub ended_is : (t : List ℕ) (at stop : ℕ) → ended_by t at stop ≡ true → (at < length t) × (get_or t at 0 ≡ stop)
unfolding ended_by
ended_is t at stop e =
    let a = both (ltb at (length t)) (eqb (get_or t at 0) stop) e in
    (ltb-true at (length t) a.0, eqb-true (get_or t at 0) stop a.1)

ended_by_lem : (t : List ℕ) (at stop : ℕ) → at < length t → get_or t at 0 ≡ stop → ended_by t at stop ≡ true
unfolding ended_by
ended_by_lem t at stop h e =
    and_true (ltb at (length t)) (eqb (get_or t at 0) stop) (lt-ltb at (length t) h) (eq-eqb (get_or t at 0) stop e)

-- what the code looks up, and compares where a byte stands there
pub ended_beyond : (t : List ℕ) (at stop : ℕ) → length t ≤ at → false ≡ ended_by t at stop
unfolding ended_by
ended_beyond t at stop beyond = rw (le-ltb at (length t) beyond) refl

pub ended_there : (t : List ℕ) (at stop b : ℕ) → at < length t → b ≡ get_or t at 0 → eqb b stop ≡ ended_by t at stop
unfolding ended_by
ended_there t at stop b there e = rw (lt-ltb at (length t) there) (ap (λ (k : ℕ). eqb k stop) e)

module _ (t : List ℕ) (at stop : ℕ) (no_digit : stop < 48) where
  -- where a number and stop stand at the place, these are its digits
  the_digits : (v : ℕ) (rest : List ℕ) → drop at t ≡ num_text v ++ (stop ∷ rest) → digits_of (drop at t) ≡ num_text v
  the_digits v rest e = ap digits_of e ∙ run_then v stop rest (λ d. omega (arith, d.0))

  pub part_none : FoundIs t at None → PartIs t at stop None
  part_none none v rest lt e = none v lt (the_digits v rest e)

  pub part_other : (v end : ℕ) → FoundIs t at (Some (v, end)) → ended_by t end stop ≡ false → PartIs t at stop None
  part_other v end p fails w rest lt e =
      let there : end < length t =
      omega (arith, p.1, ap length (the_digits w rest e), ap length e, length-drop at t, length-append (num_text w) (stop ∷ rest)) in
      let is : get_or t end 0 ≡ stop =
      ap (λ (k : ℕ). get_or t k 0) (p.1 ∙ ap (λ (l : List ℕ). at + length l) (the_digits w rest e)) ∙ sym (get_or-drop at t (length (num_text w)) 0)
      ∙ ap (λ (l : List ℕ). get_or l (length (num_text w)) 0) e ∙ get_or-append_seam (num_text w) stop rest 0 in
      false≢true (sym fails ∙ ended_by_lem t end stop there is)

  pub part_is : (v end : ℕ) → FoundIs t at (Some (v, end)) → ended_by t end stop ≡ true → PartIs t at stop (Some (v, (end + 1)))
  part_is v end p holds =
      let h : end < length t = (ended_is t end stop holds).0 in
      let e : get_or t end 0 ≡ stop = (ended_is t end stop holds).1 in
      let d : List ℕ = digits_of (drop at t) in (
        p.0.0,
        omega (arith, p.1),
        omega arith,
        sym (run_split (drop at t))
            ∙ ap₂ (λ (x y : List ℕ). x ++ y) p.0.1
            (drop-drop (length d) at t ∙ ap (λ (k : ℕ). drop k t) (sym p.1) ∙ drop-cons t end 0 h ∙ ap₂ (λ (b k : ℕ). b ∷ drop k t) e (sym (add-one end))),
      )

-- ---- Four of them

-- what was read is what stands there
past : (t rest : List ℕ) (at a v w : ℕ) → drop at t ≡ num_text v ++ (tab ∷ drop a t) → drop at t ≡ num_text w ++ (tab ∷ rest) → drop a t ≡ rest
past t rest at a v w e f = (num_then tab v w (drop a t) rest (omega arith) (sym e ∙ f)).1

module _ (t : List ℕ) (at : ℕ) where
  pub no_job : PartIs t at tab None → LineIs t at None
  no_job none j r i n rest hj hr hi hn e = none j (from_revision r i n rest) hj (e ∙ line_fields j r i n rest)

  module _ (v1 a : ℕ) (p1 : PartIs t at tab (Some (v1, a))) where
    second : (j r i n : ℕ) (rest : List ℕ) → drop at t ≡ line_text j r i n ++ rest → drop a t ≡ from_revision r i n rest
    second j r i n rest e = past t (from_revision r i n rest) at a v1 j p1.3 (e ∙ line_fields j r i n rest)

    pub no_revision : PartIs t a tab None → LineIs t at None
    no_revision none j r i n rest hj hr hi hn e = none r (from_index i n rest) hr (second j r i n rest e)

    module _ (v2 b : ℕ) (p2 : PartIs t a tab (Some (v2, b))) where
      third : (j r i n : ℕ) (rest : List ℕ) → drop at t ≡ line_text j r i n ++ rest → drop b t ≡ from_index i n rest
      third j r i n rest e = past t (from_index i n rest) a b v2 r p2.3 (second j r i n rest e)

      pub no_index : PartIs t b tab None → LineIs t at None
      no_index none j r i n rest hj hr hi hn e = none i (from_body n rest) hi (third j r i n rest e)

      module _ (v3 c : ℕ) (p3 : PartIs t b tab (Some (v3, c))) where
        pub no_body : PartIs t c newline None → LineIs t at None
        no_body none j r i n rest hj hr hi hn e = none n rest hn (past t (from_body n rest) b c v3 i p3.3 (third j r i n rest e))

        pub is_line : (v4 d : ℕ) → PartIs t c newline (Some (v4, d)) → LineIs t at (Some (record { job = v1; revision = v2; index = v3; body = v4; next = d }))
        is_line v4 d p4 = (
          p1.0,
          p2.0,
          p3.0,
          p4.0,
          record {
            forward = omega (arith, p1.1, p2.1, p3.1, p4.1);
            inside = p4.2;
            text =
                p1.3
                ∙ ap (λ (x : List ℕ). num_text v1 ++ (tab ∷ x)) (p2.3 ∙ ap (λ (x : List ℕ). num_text v2 ++ (tab ∷ x)) (p3.3 ∙ ap (λ (x : List ℕ). num_text v3 ++ (tab ∷ x)) p4.3))
                ∙ sym (line_fields v1 v2 v3 v4 (drop d t));
          },
        )

-- ---- The length of a full segment

-- what the code's comparison says of the bytes at a place, as it cuts them out
pub begins : (t p : List ℕ) (at : ℕ) → true ≡ starts_with eqb (take (length t - at) (drop at t)) p → drop at t ≡ p ++ drop (at + length p) t
begins t p at e =
    sym (take_rest t at) ∙ (starts_is Decides-eqb _ p true e).0 refl ∙ ap (λ (l : List ℕ). p ++ drop (length p) l) (take_rest t at) ∙ ap (λ (l : List ℕ). p ++ l) (drop-drop (length p) at t)

pub begins_not : (t p : List ℕ) (at : ℕ) → false ≡ starts_with eqb (take (length t - at) (drop at t)) p → (rest : List ℕ) → drop at t ≡ p ++ rest → ⊥
begins_not t p at e rest is = false≢true ((starts_is Decides-eqb _ p false e).1 rest (take_rest t at ∙ is))

pub full_text : num_text segment_bytes ++ (newline ∷ []) ≡ 54 ∷ 53 ∷ 53 ∷ 51 ∷ 54 ∷ 10 ∷ []
unfolding num_text digits
full_text = refl

pub full_is : (t : List ℕ) (at : ℕ) → at + 6 ≤ length t → true ≡ starts_with eqb (take (length t - at) (drop at t)) (54 ∷ 53 ∷ 53 ∷ 51 ∷ 54 ∷ 10 ∷ [])
    → PartIs t at newline (Some (segment_bytes, at + 6))
full_is t at h e = (
  omega arith,
  omega arith,
  h,
  begins t (54 ∷ 53 ∷ 53 ∷ 51 ∷ 54 ∷ 10 ∷ []) at e ∙ ap (λ (x : List ℕ). x ++ drop (at + 6) t) (sym full_text) ∙ append_assoc (num_text segment_bytes) (newline ∷ []) (drop (at + 6) t),
)

-- ---- Index and body length

module _ (t : List ℕ) (at i : ℕ) where
  pub rest_none : i < 2 ^ 64 → PartIs t at tab None → RestIs t at i None
  rest_none hi none n rest ok e = none i (from_body n rest) hi (e ∙ rest_fields i n rest)

  module _ (v a : ℕ) (p : PartIs t at tab (Some (v, a))) where
    rest_read : (n : ℕ) (rest : List ℕ) → drop at t ≡ rest_text i n ++ rest → (v ≡ i) × (drop a t ≡ from_body n rest)
    rest_read n rest e = num_then tab v i (drop a t) (from_body n rest) (omega arith) (sym p.3 ∙ e ∙ rest_fields i n rest)

    pub rest_other : (v ≡ i → ⊥) → RestIs t at i None
    rest_other differs n rest ok e = differs (rest_read n rest e).0

    pub rest_no_body : PartIs t a newline None → RestIs t at i None
    rest_no_body none n rest ok e = none n rest (omega (arith, (last_rule i n ok).0)) (rest_read n rest e).1

    module _ (n d : ℕ) (q : PartIs t a newline (Some (n, d))) where
      pub rest_wrong : segment_ok i true n ≡ false → RestIs t at i None
      rest_wrong fails m rest ok e =
          let s = num_then newline n m (drop d t) rest (omega arith) (sym q.3 ∙ (rest_read m rest e).1) in
          false≢true (sym fails ∙ ap (segment_ok i true) s.0 ∙ ok)

      pub rest_is : v ≡ i → segment_ok i true n ≡ true → RestIs t at i (Some (n, d))
      rest_is same ok = (
        ok,
        record {
          forward = omega (arith, p.1, q.1);
          inside = q.2;
          text =
              p.3 ∙ ap₂ (λ (k : ℕ) (x : List ℕ). num_text k ++ (tab ∷ x)) same q.3 ∙ sym (rest_fields i n (drop d t));
        },
      )

-- ---- Behind a front

module _ (t : List ℕ) (at front i : ℕ) (within : front ≤ length t) where
  pub front_other : false ≡ starts_with eqb (take (length t - at) (drop at t)) (take front t) → SegmentIs t at front i None
  front_other differs n rest ok e = begins_not t (take front t) at differs (rest_text i n ++ rest) (e ∙ append_assoc (take front t) (rest_text i n) rest)

  pub front_same : true ≡ starts_with eqb (take (length t - at) (drop at t)) (take front t) → (r : Option (ℕ × ℕ)) → RestIs t (at + front) i r → SegmentIs t at front i r
  front_same same (Some (n, next)) q =
      let long : length (take front t) ≡ front = length-take-le front t within in (
        q.0,
        record {
          forward = omega (arith, q.1.forward);
          inside = q.1.inside;
          text =
              begins t (take front t) at same ∙ ap (λ (k : ℕ). take front t ++ drop (at + k) t) long ∙ ap (λ (x : List ℕ). take front t ++ x) q.1.text
              ∙ sym (append_assoc (take front t) (rest_text i n) (drop next t));
        },
      )
  front_same same None none = λ n rest ok e.
      let f : List ℕ = take front t in
      let split : drop at t ≡ take front t ++ (rest_text i n ++ rest) = e ∙ append_assoc f (rest_text i n) rest in
      none n rest ok (sym (drop-drop front at t) ∙ ap (drop front) split ∙ drop_at f (rest_text i n ++ rest) front (length-take-le front t within))
