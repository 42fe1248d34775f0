-- A close reports all the runs of P since the start: what ran so far, at each place of a session, and what each call adds to it.
-- Assumes nothing.
use mathlib.Core.Path.{◌≡◌, refl, sym, ap, subst, ◌∙◌}
use mathlib.Core.Bool.{Bool, true, false, false≢true, cond, ◌||◌}
use mathlib.Core.Logic.{◌≢◌, ◌⊎◌, inl, inr, ⊎_elim}
use mathlib.Core.List.{List, [], ◌∷◌, ◌++◌, append_assoc, append-nil}
use Prim.Native.Nat.{ℕ, zero, suc, ◌+◌, ◌/◌, ◌%◌}
use native.Mathlib.Omega.{arith}
use borrow.Author.Tests.{eqb-true, eqb-false, eq-eqb, ne_eqb}
use lib.Dec.{eqb, leb}
use lib.ListN.{length, length-append}
use Rattle.norx.specs.Norx.{Width, word32, word64, rate}
use Rattle.norx.specs.Runs.{part_runs, sealing_runs}
use Rattle.answers.proofs.Tests.{either, cond_true, cond_false}
use Rattle.answers.proofs.Chain.{both, or_true}
use Rattle.answers.proofs.Runs.{reported_with}
use Rattle.rules.proofs.Work.{part_none, part_some}
use Rattle.places.specs.declared.terms.Terms.{Terms}
use Rattle.places.specs.declared.Part.{Part}
use Rattle.places.specs.declared.Part.TheVariants.{Note, Body, Trailer}
use Rattle.places.specs.declared.Place.{Place}
use Rattle.places.specs.Terms.{front_of}
use Rattle.places.specs.Places.{rank_of, sound_of}
use Rattle.session.specs.Offered.{Close, Call, piece, close, number_to, after_call, after_calls, is_accepted, only, place_in, header_of}
use Rattle.session.specs.Promises.{Unclosed, begun}
use Rattle.session.specs.Ran.{entered_runs, fed_runs, ended_runs, taken_runs, closed_runs, started_runs, looks_at_tag, ran_in, ReportsAllThatRan}
use Rattle.session.specs.Sessions.{place_runs, Kind, close_of, close_runs}
use Rattle.session.proofs.Pieces.{after_piece}
use Rattle.session.proofs.Joining.{header_long, unreached, some_bytes}
use Rattle.session.proofs.Refused.{Lawful, refused_session, refusal_changes_nothing}
use Rattle.session.proofs.Calls.{still_unclosed}
use Rattle.session.proofs.Held.{at, place_held, accepted_held, and_piece, one_accepted, fresh_held}
use Rattle.session.proofs.Begun.{started}
use Rattle.session.proofs.Reports.{close_sound}
use Rattle.session.proofs.Demand.{promised}

-- ---- one part

fed_plus : (R i m n : ℕ) → fed_runs R i (m + n) ≡ fed_runs R i m + fed_runs R (i + m) n
unfolding fed_runs
fed_plus R i zero n =
    let e : zero + n ≡ n = omega arith in
    let f : i + zero ≡ i = omega arith in
    ap (fed_runs R i) e ∙ ap (λ (k : ℕ). fed_runs R k n) (sym f) ∙ omega arith
fed_plus R i (suc m) n =
    let e : suc m + n ≡ suc (m + n) = omega arith in
    let f : suc i + m ≡ i + suc m = omega arith in
    let g : fed_runs R (suc i + m) n ≡ fed_runs R (i + suc m) n = ap (λ (k : ℕ). fed_runs R k n) f in
    ap (fed_runs R i) e ∙ omega (arith, fed_plus R (suc i) m n, g)

fed_one : (R n : ℕ) → fed_runs R 0 (suc n) ≡ fed_runs R 0 n + entered_runs R n
unfolding fed_runs
fed_one R n =
    let e : suc n ≡ n + 1 = omega arith in
    let f : 0 + n ≡ n = omega arith in
    let g : fed_runs R (0 + n) 1 ≡ entered_runs R n + 0 = ap (λ (k : ℕ). fed_runs R k 1) f in
    ap (fed_runs R 0) e ∙ omega (arith, fed_plus R 0 n 1, g)

entered_first : (R n : ℕ) → n % R ≡ 0 → entered_runs R n ≡ 1
entered_first R n h = cond_true (eqb (n % R) 0) 1 0 (eq-eqb (n % R) 0 h)

entered_on : (R n : ℕ) → eqb (n % R) 0 ≡ false → entered_runs R n ≡ 0
entered_on R n h = cond_false (eqb (n % R) 0) 1 0 h

-- the next byte is in the same block, or begins the next one
same_block : (w : Width) (n : ℕ) → suc n % rate w ≢ 0 → suc n / rate w ≡ n / rate w
same_block word32 n h = omega arith
same_block word64 n h = omega arith

next_block : (w : Width) (n : ℕ) → suc n % rate w ≡ 0 → (n % rate w ≢ 0) × (suc n / rate w ≡ n / rate w + 1)
next_block word32 n h = (λ e. omega arith, omega arith)
next_block word64 n h = (λ e. omega arith, omega arith)

one_more : (w : Width) (n : ℕ) → fed_runs (rate w) 0 n + entered_runs (rate w) n ≡ n / rate w + 1
    → fed_runs (rate w) 0 (suc n) + entered_runs (rate w) (suc n) ≡ suc n / rate w + 1
one_more w n before =
    ⊎_elim
    (λ (g : eqb (suc n % rate w) 0 ≡ true).
    let m = eqb-true (suc n % rate w) 0 g in
    let next = next_block w n m in
    omega (arith, before, fed_one (rate w) n, next.1, entered_first (rate w) (suc n) m))
    (λ (g : eqb (suc n % rate w) 0 ≡ false).
    omega (arith, before, fed_one (rate w) n, same_block w n (eqb-false (suc n % rate w) 0 g), entered_on (rate w) (suc n) g))
    (either (eqb (suc n % rate w) 0))

-- as many blocks are begun as a part of n bytes has full ones, and one more where it is ended
begun_blocks : (w : Width) (n : ℕ) → fed_runs (rate w) 0 n + entered_runs (rate w) n ≡ n / rate w + 1
unfolding fed_runs
begun_blocks word32 zero = refl
begun_blocks word64 zero = refl
begun_blocks w (suc n) = one_more w n (begun_blocks w n)

-- a part in pieces runs P as often as the formula says
part_in_pieces : (w : Width) (n : ℕ) → fed_runs (rate w) 0 n + ended_runs (rate w) n ≡ part_runs (rate w) n
unfolding fed_runs ended_runs
part_in_pieces w zero = part_none (rate w) zero refl
part_in_pieces w (suc n) = begun_blocks w (suc n) ∙ part_some (rate w) (suc n) (λ e. omega arith)

-- n bytes more of a part
grown : (R had : ℕ) (a x : List ℕ) → had ≡ length a → fed_runs R 0 had + fed_runs R had (length x) ≡ fed_runs R 0 (length (a ++ x))
grown R had a x e =
    let f : 0 + had ≡ had = omega arith in
    let g : fed_runs R (0 + had) (length x) ≡ fed_runs R had (length x) = ap (λ (k : ℕ). fed_runs R k (length x)) f in
    let long : had + length x ≡ length (a ++ x) = omega (arith, e, length-append a x) in
    let whole : fed_runs R 0 (had + length x) ≡ fed_runs R 0 (length (a ++ x)) = ap (fed_runs R 0) long in
    omega (arith, fed_plus R 0 had (length x), g, whole)

-- ---- what ran so far, in a part with so many bytes taken in of each

abbrev so_far : Width → Part → List ℕ → List ℕ → List ℕ → ℕ
so_far w Note h b t = 1 + fed_runs (rate w) 0 (length h)
so_far w Body h b t = 1 + (part_runs (rate w) (length h) + fed_runs (rate w) 0 (length b))
so_far w Trailer h b t = 1 + (part_runs (rate w) (length h) + (part_runs (rate w) (length b) + fed_runs (rate w) 0 (length t)))

module _ (w : Width) (T : Terms) where
  header_had : (n : List ℕ) → 16 + length n ≡ length (header_of T n)
  header_had n = sym (header_long T n)

  header_whole : (n : List ℕ) → fed_runs (rate w) 0 (length (header_of T n)) + ended_runs (rate w) (16 + length n) ≡ part_runs (rate w) (length (header_of T n))
  header_whole n =
      let e : ended_runs (rate w) (16 + length n) ≡ ended_runs (rate w) (length (header_of T n)) = ap (ended_runs (rate w)) (header_had n) in
      omega (arith, e, part_in_pieces w (length (header_of T n)))

  header_grown : (n x : List ℕ) → fed_runs (rate w) 0 (length (header_of T n)) + fed_runs (rate w) (16 + length n) (length x) ≡ fed_runs (rate w) 0 (length (header_of T (n ++ x)))
  header_grown n x =
      let e : fed_runs (rate w) 0 (16 + length n) ≡ fed_runs (rate w) 0 (length (header_of T n)) = ap (fed_runs (rate w) 0) (header_had n) in
      let f : fed_runs (rate w) 0 (length (header_of T n ++ x)) ≡ fed_runs (rate w) 0 (length (header_of T (n ++ x))) =
      ap (λ (y : List ℕ). fed_runs (rate w) 0 (length y)) (append_assoc (front_of T.edition) n x) in
      omega (arith, e, f, grown (rate w) (16 + length n) (header_of T n) x (header_had n))

  -- a piece that is accepted adds what runs in it
  piece_adds : (part : Part) (n b t : List ℕ) (k : Part) (x : List ℕ) → sound_of (place_in T part n b t) ≡ true → leb (rank_of part) (rank_of k) ≡ true
      → so_far w part (header_of T n) b t + taken_runs w (place_in T part n b t) k (length x)
      ≡ so_far w k (header_of T (n ++ only Note k x)) (b ++ only Body k x) (t ++ only Trailer k x)
  unfolding fed_runs ended_runs
  piece_adds Note n [] [] Note x e o = omega (arith, header_grown n x)
  piece_adds Note n [] [] Body x e o = rw append-nil (omega (arith, header_whole n))
  piece_adds Note n [] [] Trailer x e o = rw append-nil (omega (arith, header_whole n, part_none (rate w) 0 refl))
  piece_adds Note n (y ∷ b) t k x e o = absurd (some_bytes y b (both (eqb (length (y ∷ b)) 0) (eqb (length t) 0) (unreached T Note n (y ∷ b) t e)).0)
  piece_adds Note n [] (y ∷ t) k x e o = absurd (some_bytes y t (unreached T Note n [] (y ∷ t) e))
  piece_adds Body n b [] Note x e o = absurd (false≢true o)
  piece_adds Body n b [] Body x e o = rw append-nil (omega (arith, grown (rate w) (length b) b x refl))
  piece_adds Body n b [] Trailer x e o = rw append-nil (rw append-nil (omega (arith, part_in_pieces w (length b))))
  piece_adds Body n b (y ∷ t) k x e o = absurd (some_bytes y t (unreached T Body n b (y ∷ t) e))
  piece_adds Trailer n b t Note x e o = absurd (false≢true o)
  piece_adds Trailer n b t Body x e o = absurd (false≢true o)
  piece_adds Trailer n b t Trailer x e o = rw append-nil (rw append-nil (omega (arith, grown (rate w) (length t) t x refl)))

  -- and a close makes them those of one sealing
  close_adds : (part : Part) (n b t : List ℕ) → sound_of (place_in T part n b t) ≡ true
      → so_far w part (header_of T n) b t + closed_runs w (place_in T part n b t) ≡ sealing_runs w (length (header_of T n)) (length b) (length t)
  unfolding ended_runs fed_runs
  close_adds Note n [] [] e = omega (arith, header_whole n, part_none (rate w) 0 refl)
  close_adds Note n (y ∷ b) t e = absurd (some_bytes y b (both (eqb (length (y ∷ b)) 0) (eqb (length t) 0) (unreached T Note n (y ∷ b) t e)).0)
  close_adds Note n [] (y ∷ t) e = absurd (some_bytes y t (unreached T Note n [] (y ∷ t) e))
  close_adds Body n b [] e = omega (arith, part_in_pieces w (length b), part_none (rate w) 0 refl)
  close_adds Body n b (y ∷ t) e = absurd (some_bytes y t (unreached T Body n b (y ∷ t) e))
  close_adds Trailer n b t e = omega (arith, part_in_pieces w (length t))

-- ---- any calls, and then a close that looks at the tag

module _ (K : Kind) (L : Lawful K) (key nonce : List ℕ) (T : Terms) (c : Close) where
  abbrev here : Part → List ℕ → List ℕ → List ℕ → K.Session
  here part n b t = at K L key nonce T part n b t

  abbrev Looked : K.Session → List Call → Type 0
  Looked s cs = (number_to K (after_calls K s cs) (close c) ≡ 0) ⊎ (number_to K (after_calls K s cs) (close c) ≡ 10)

  -- what ran before a session, and since, is what its close reports
  abbrev AddsUp : List Call → ℕ → K.Session → Type 0
  AddsUp cs before s = Unclosed K s cs → Looked s cs → before + ran_in K s (cs ++ (close c ∷ [])) ≡ close_runs K (after_calls K s cs) c.edition c.tag

  looked_true : (k : ℕ) → (k ≡ 0) ⊎ (k ≡ 10) → looks_at_tag k ≡ true
  looked_true k (inl e) = or_true (eqb k 0) (eqb k 10) (inl (eq-eqb k 0 e))
  looked_true k (inr e) = or_true (eqb k 0) (eqb k 10) (inr (eq-eqb k 10 e))

  looked_false : (k : ℕ) → k ≢ 0 → k ≢ 10 → looks_at_tag k ≡ false
  looked_false k h g = ap (λ (x : Bool). x || eqb k 10) (ne_eqb k 0 h) ∙ ne_eqb k 10 g

  closed_here : (part : Part) (n b t : List ℕ) → AddsUp [] (so_far K.width part (header_of T n) b t) (here part n b t)
  unfolding close_runs
  closed_here part n b t u looked =
      let s : K.Session = here part n b t in
      let p : K.place s ≡ place_in T part n b t = place_held K L key nonce T part n b t in
      let sound : sound_of (place_in T part n b t) ≡ true = sym (ap sound_of p) ∙ close_sound K L s c.edition c.tag looked in
      let ran : cond (looks_at_tag (number_to K s (close c))) (closed_runs K.width (K.place s)) 0 ≡ closed_runs K.width (place_in T part n b t) =
      cond_true _ (closed_runs K.width (K.place s)) 0 (looked_true (number_to K s (close c)) looked) ∙ ap (closed_runs K.width) p in
      let reported : close_runs K s c.edition c.tag ≡ sealing_runs K.width (16 + length n) (length b) (length t) =
      reported_with (K.answer (close_of K s c.edition c.tag)) _ looked ∙ ap (place_runs K.width) p in
      let headed : sealing_runs K.width (16 + length n) (length b) (length t) ≡ sealing_runs K.width (length (header_of T n)) (length b) (length t) =
      ap (λ (k : ℕ). sealing_runs K.width k (length b) (length t)) (sym (header_long T n)) in
      omega (arith, ran, reported, headed, close_adds K.width T part n b t sound)

  adds_up : (cs : List Call) (part : Part) (n b t : List ℕ) → AddsUp cs (so_far K.width part (header_of T n) b t) (here part n b t)
  adds_up [] part n b t u looked = closed_here part n b t u looked
  adds_up (piece q ∷ cs) part n b t u looked =
      let s : K.Session = here part n b t in
      let k : Part = q.label.part in
      let w : Width = K.width in
      let before : ℕ = so_far w part (header_of T n) b t in
      ⊎_elim
      (λ (h : is_accepted K s q ≡ true).
      let a = accepted_held K L key nonce T part n b t q h in
      let next : after_piece K s q ≡ and_piece K L key nonce T part n b t q = one_accepted K L key nonce T part n b t q h in
      let ran : cond (is_accepted K s q) (taken_runs w (K.place s) k (length q.bytes)) 0 ≡ taken_runs w (place_in T part n b t) k (length q.bytes) =
      cond_true _ (taken_runs w (K.place s) k (length q.bytes)) 0 h ∙ ap (λ (p : Place). taken_runs w p k (length q.bytes)) (place_held K L key nonce T part n b t) in
      let adds = piece_adds w T part n b t k q.bytes a.sound a.onward in
      let rest : AddsUp cs (before + taken_runs w (place_in T part n b t) k (length q.bytes)) (after_piece K s q) =
      subst (λ (v : K.Session). AddsUp cs (before + taken_runs w (place_in T part n b t) k (length q.bytes)) v) (sym next)
      (subst (λ (m : ℕ). AddsUp cs m (and_piece K L key nonce T part n b t q)) (sym adds)
      (adds_up cs k (n ++ only Note k q.bytes) (b ++ only Body k q.bytes) (t ++ only Trailer k q.bytes))) in
      omega (arith, ran, rest u looked))
      (λ (h : is_accepted K s q ≡ false).
      let rest : AddsUp cs before (after_piece K s q) = subst (λ (v : K.Session). AddsUp cs before v) (sym (refused_session K L s q h)) (adds_up cs part n b t) in
      omega (arith, cond_false _ (taken_runs w (K.place s) k (length q.bytes)) 0 h, rest u looked))
      (either (is_accepted K s q))
  adds_up (close d ∷ cs) part n b t u looked =
      let s : K.Session = here part n b t in
      let before : ℕ = so_far K.width part (header_of T n) b t in
      let as_it_was : after_call K s (close d) ≡ s = ((refusal_changes_nothing K L).closes s d.edition d.tag u.0 u.1).0 in
      let rest : AddsUp cs before (after_call K s (close d)) = subst (λ (v : K.Session). AddsUp cs before v) (sym as_it_was) (adds_up cs part n b t) in
      let none = cond_false _ (closed_runs K.width (K.place s)) 0 (looked_false (number_to K s (close d)) u.0 u.1) in
      omega (arith, none, rest u.2 looked)

pub reports_all_that_ran : (K : Kind) → Lawful K → ReportsAllThatRan K
unfolding started_runs
reports_all_that_ran K L key nonce T begins cs c own =
    let s0 : begun K key nonce T ≡ at K L key nonce T Note [] [] [] = started K L key nonce T begins ∙ fresh_held K L key nonce T in
    let all : AddsUp K L key nonce T c cs (1 + fed_runs (rate K.width) 0 (length (header_of T []))) (begun K key nonce T) =
    subst (λ (v : K.Session). AddsUp K L key nonce T c cs (1 + fed_runs (rate K.width) 0 (length (header_of T []))) v) (sym s0) (adds_up K L key nonce T c cs Note [] [] []) in
    let front : fed_runs (rate K.width) 0 (length (header_of T [])) ≡ fed_runs (rate K.width) 0 16 = ap (fed_runs (rate K.width) 0) (header_long T []) in
    let sum = all (still_unclosed K L cs (begun K key nonce T) own.0) (((promised K L).closes key nonce T begins cs c).1 own) in
    omega (arith, front, sum)
