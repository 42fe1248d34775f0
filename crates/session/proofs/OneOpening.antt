-- The close of a checking session says what one opening of the joined accepted pieces and the tag says.
-- Assumes nothing.
use mathlib.Core.Path.{◌≡◌, refl, sym, ap, ap₂, ◌∙◌}
use mathlib.Core.Bool.{Bool, true, false, cond}
use mathlib.Core.Logic.{◌⊎◌}
use mathlib.Core.List.{List, ◌++◌}
use mathlib.Core.Option.{none, some}
use Prim.Native.Nat.{ℕ, ◌-◌, ◌/◌, ◌≤◌}
use native.Mathlib.Omega.{arith}
use lib.ListN.{length, length-append}
use lib.Seq.{take_at, drop_at}
use Rattle.std.specs.Prelude.{Ok}
use Rattle.places.specs.declared.Part.{Part}
use Rattle.norx.specs.Norx.{row_bytes, message, same, body_part, tag_part, recovered, opened}
use Rattle.norx.specs.Runs.{counted_runs, sealing_runs}
use Rattle.norx.proofs.Bytes.{Bytes, bytes_append}
use Rattle.norx.proofs.Runs.{counts_sealing, length-recovered}
use Rattle.answers.specs.declared.Refusal.TheVariants.{TagDiffers}
use Rattle.answers.specs.Answers.{number_of, need_of}
use Rattle.answers.proofs.Runs.{reported_with}
use Rattle.rules.specs.Calls.{answer_of}
use Rattle.rules.specs.OneCall.{open_answer}
use Rattle.rules.specs.Runs.{open_runs}
use Rattle.rules.specs.Limits.{widths_length, OpenLimits}
use Rattle.rules.proofs.Lengths.{tag_fits}
use Rattle.rules.proofs.OneCall.{some_message, no_message, open_done}
use Rattle.places.specs.declared.terms.Terms.{Terms}
use Rattle.places.specs.declared.Part.TheVariants.{Note, Body, Trailer}
use Rattle.session.specs.Sessions.{Way, checking, verdict_of, Kind, closed_of, tag_length, own_tag, close_of, close_runs}
use Rattle.session.specs.Offered.{Piece, joined, header_of, held_by}
use Rattle.session.specs.Promises.{Started, AnswersOneOpening}
use Rattle.session.proofs.Refused.{Lawful, verdict_number}
use Rattle.session.proofs.Whole.{before_as_one, tag_as_one, brought_body, message_whole}
use Rattle.session.proofs.Begun.{bytes_joined, start_limits_of, after_start, accepted_from, note_of, body_of, trailer_of}
use Rattle.session.proofs.Closing.{tag_length_lem, own_tag_lem, close_is, own_runs}
use Rattle.session.proofs.Taking.{parts_within}

module _ (K : Kind) (L : Lawful K) (key nonce : List ℕ) (T : Terms) (begins : Started K key nonce T) (qs : List Piece) (checks : K.way ≡ checking) where
  abbrev n : List ℕ
  n = note_of K key nonce T qs

  abbrev b : List ℕ
  b = body_of K key nonce T qs

  abbrev t : List ℕ
  t = trailer_of K key nonce T qs

  bytes_of : (k : Part) → Bytes (joined k (accepted_from K key nonce T qs))
  bytes_of k = bytes_joined k (accepted_from K key nonce T qs)

  abbrev text : List ℕ → List ℕ
  text given = b ++ given

  cut : (given : List ℕ) → length given ≡ tag_length K → length (text given) - tag_length K ≡ length b
  cut given h = omega (arith, length-append b given)

  verdict_is : (x : Bool) (m : List ℕ) → need_of x TagDiffers (Ok tt) ≡ answer_of (cond x (some m) none)
  unfolding need_of
  verdict_is true m = refl
  verdict_is false m = refl

  -- the check answers as one opening of the joined ciphertext and that tag does
  opening-is : (given : List ℕ) → length given ≡ tag_length K
      → K.answer (close_of K (after_start K key nonce T qs) T.edition given) ≡ answer_of (opened K.width T.rounds K.tag_bits key nonce (header_of T n) (text given) t)
  unfolding opened recovered
  opening-is given h =
      let m : List ℕ = recovered K.width T.rounds K.tag_bits key nonce (header_of T n) (text given) in
      let body_is : body_part K.tag_bits (text given) ≡ b = take_at b given (length (text given) - tag_length K) (sym (cut given h)) in
      let tag_is : tag_part K.tag_bits (text given) ≡ given = drop_at b given (length (text given) - tag_length K) (sym (cut given h)) in
      let msg-is : brought_body K key nonce T K.way n b ≡ m =
      ap (λ (way : Way). brought_body K key nonce T way n b) checks
      ∙ message_whole K key nonce T n b t (bytes_of Note) (bytes_of Body) (bytes_of Trailer)
      ∙ ap (message K.width T.rounds (before_as_one K key nonce T n)) (sym body_is) in
      let own_is : own_tag K (held_by K key nonce T (accepted_from K key nonce T qs)) ≡ tag_as_one K key nonce T n m t = own_tag_lem K L key nonce T begins qs ∙ ap (λ (x : List ℕ). tag_as_one K key nonce T n x t) msg-is in
      ap (λ (x : K.Step). K.answer x) (close_is K L key nonce T begins qs given h) ∙ L.answered _ _
      ∙ ap₂ (λ (way : Way) (x : List ℕ). verdict_of way given x) checks own_is
      ∙ verdict_is (same given (tag_as_one K key nonce T n m t)) m
      ∙ ap (λ (x : List ℕ). answer_of (cond (same x (tag_as_one K key nonce T n m t)) (some m) none)) (sym tag_is)

  abbrev closing : List ℕ → ℕ
  closing given = number_of (K.answer (close_of K (after_start K key nonce T qs) T.edition given))

  open-within : (given out : List ℕ) → length given ≡ tag_length K → length out ≡ length b
      → OpenLimits K.width T.rounds (length key) (length nonce) (length (header_of T n)) (length (text given)) (length t) (length out)
  open-within given out h long =
      let wide : tag_length K ≡ widths_length K.width = tag_length_lem K L in
      let parts = parts_within K L key nonce T begins qs in
      let whole = length-append b given in
      record {
        begins = (start_limits_of K L key nonce T).0 begins;
        tagged = omega arith;
        parts = record { header_within = parts.header_within; body_within = omega (arith, parts.body_within); trailer_within = parts.trailer_within };
        exact = omega arith;
      }

  -- the number in the definition, by the lengths
  counted_recovered : (given : List ℕ) → length given ≡ tag_length K
      → counted_runs K.width T.rounds K.tag_bits key nonce (header_of T n) (recovered K.width T.rounds K.tag_bits key nonce (header_of T n) (text given)) t
      ≡ sealing_runs K.width (length (header_of T n)) (length b) (length t)
  counted_recovered given h =
      (counts_sealing K.width).by_formula T.rounds K.tag_bits key nonce (header_of T n) (recovered K.width T.rounds K.tag_bits key nonce (header_of T n) (text given)) t
      ∙ ap (λ (k : ℕ). sealing_runs K.width (length (header_of T n)) k (length t))
      (length-recovered K.width T.rounds K.tag_bits key nonce (header_of T n) (text given) ∙ cut given h)

  zero_or_ten : (given : List ℕ) → length given ≡ tag_length K → (closing given ≡ 0) ⊎ (closing given ≡ 10)
  zero_or_ten given h =
      rw (close_is K L key nonce T begins qs given h) (rw (L.answered (verdict_of K.way given (own_tag K (held_by K key nonce T (accepted_from K key nonce T qs)))) (closed_of K))
      (verdict_number K L K.way given (own_tag K (held_by K key nonce T (accepted_from K key nonce T qs)))))

  as_opening : (given : List ℕ) → length given ≡ tag_length K → (out : List ℕ)
      → (number_of (open_answer K.width T.rounds key nonce (header_of T n) (text given) t out) ≡ 0)
      ⊎ (number_of (open_answer K.width T.rounds key nonce (header_of T n) (text given) t out) ≡ 10)
      → open_runs K.width T.rounds key nonce (header_of T n) (text given) t out ≡ sealing_runs K.width (length (header_of T n)) (length b) (length t)
  unfolding open_runs
  as_opening given h out e =
      reported_with (open_answer K.width T.rounds key nonce (header_of T n) (text given) t out) _ e
      ∙ ap (λ (k : ℕ). sealing_runs K.width (length (header_of T n)) k (length t))
      (ap (λ (k : ℕ). length (text given) - k / 8) (sym L.tagged) ∙ cut given h)

  pub checking_is : (given : List ℕ) → Bytes given → length given ≡ tag_length K
      → AnswersOneOpening K key nonce T (header_of T (note_of K key nonce T qs)) (body_of K key nonce T qs) (trailer_of K key nonce T qs)
      (number_of (K.answer (close_of K (after_start K key nonce T qs) T.edition given))) (close_runs K (after_start K key nonce T qs) T.edition given) given
  checking_is given bytes h =
      let is : closing given ≡ number_of (answer_of (opened K.width T.rounds K.tag_bits key nonce (header_of T n) (text given) t)) = ap number_of (opening-is given h) in
      let fits : K.tag_bits / 8 ≤ row_bytes K.width = rw L.tagged (tag_fits K.width) in
      let text-bytes : Bytes (text given) = bytes_append b given (bytes_of Body) bytes in
      let one = some_message K.width T.rounds K.tag_bits fits key nonce (header_of T n) (text given) t text-bytes in
      let none_of = no_message K.width T.rounds K.tag_bits fits key nonce (header_of T n) (text given) t text-bytes in
      record {
        yes = (λ e. one.0 (sym is ∙ e), λ m. is ∙ one.1 m);
        no = (λ e. none_of.0 (sym is ∙ e), λ never. is ∙ none_of.1 never);
        counted = own_runs K L key nonce T begins qs given h ∙ sym (counted_recovered given h);
        as_one_call = λ out long.
            let done = open_done K.width T.rounds key nonce (header_of T n) (text given) t out (open-within given out h long) in
            let same_number : closing given ≡ number_of (open_answer K.width T.rounds key nonce (header_of T n) (text given) t out) =
            is ∙ ap (λ (x : ℕ). number_of (answer_of (opened K.width T.rounds x key nonce (header_of T n) (text given) t))) L.tagged ∙ sym (ap number_of done.0) in
            (same_number, own_runs K L key nonce T begins qs given h ∙ sym (as_opening given h out (rw (sym same_number) (zero_or_ten given h))));
      }
