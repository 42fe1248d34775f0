-- The ciphertext that a sealing session wrote and its tag are one sealing of the joined accepted pieces.
-- Assumes nothing.
use mathlib.Core.Path.{◌≡◌, sym, ap, ap₂, ◌∙◌}
use mathlib.Core.Bool.{cond}
use mathlib.Core.Logic.{inl}
use mathlib.Core.List.{List, [], ◌++◌}
use Prim.Native.Nat.{ℕ}
use lib.ListN.{length}
use Rattle.std.specs.Prelude.{Ok}
use Rattle.places.specs.declared.Part.{Part}
use Rattle.norx.proofs.Bytes.{Bytes}
use Rattle.norx.specs.Norx.{ciphertext, sealed}
use Rattle.norx.specs.Stream.{fed_text}
use Rattle.norx.specs.Runs.{sealing_runs}
use Rattle.norx.proofs.Runs.{counts_sealing}
use Rattle.answers.specs.Answers.{number_of, done_of}
use Rattle.answers.proofs.Tests.{cond_true}
use Rattle.answers.proofs.Runs.{reported_with}
use Rattle.rules.specs.OneCall.{seal_answer}
use Rattle.rules.specs.Runs.{seal_runs}
use Rattle.rules.proofs.OneCall.{seal_done}
use Rattle.places.specs.declared.terms.Terms.{Terms}
use Rattle.places.specs.declared.Part.TheVariants.{Note, Body, Trailer}
use Rattle.session.specs.Sessions.{Way, sealing, verdict_of, Kind, tag_length, own_tag, close_answer_of, close_of, close_runs, close_tag}
use Rattle.session.specs.Offered.{Piece, joined, header_of, held_by}
use Rattle.session.specs.Promises.{Started, begun, CompletesOneSealing}
use Rattle.session.proofs.Pieces.{wrote_all}
use Rattle.session.proofs.Refused.{Lawful}
use Rattle.session.proofs.Held.{fresh_held}
use Rattle.session.proofs.Wrote.{cipher, all_wrote}
use Rattle.session.proofs.Whole.{before_as_one, tag_as_one, brought_body, text_whole}
use Rattle.session.proofs.Begun.{bytes_joined, started, start_limits_of, after_start, accepted_from, note_of, body_of, trailer_of, accepted_fresh, session_is}
use Rattle.session.proofs.Closing.{own_closing, own_tag_lem, close_is, own_runs}
use Rattle.session.proofs.Taking.{parts_within}

module _ (K : Kind) (L : Lawful K) (key nonce : List ℕ) (T : Terms) (begins : Started K key nonce T) (qs : List Piece) (seals : K.way ≡ sealing) where
  abbrev n : List ℕ
  n = note_of K key nonce T qs

  abbrev b : List ℕ
  b = body_of K key nonce T qs

  abbrev t : List ℕ
  t = trailer_of K key nonce T qs

  bytes_of : (k : Part) → Bytes (joined k (accepted_from K key nonce T qs))
  bytes_of k = bytes_joined k (accepted_from K key nonce T qs)

  one_ciphertext : wrote_all K (begun K key nonce T) qs ≡ ciphertext K.width T.rounds (before_as_one K key nonce T n) b
  unfolding fed_text
  one_ciphertext =
      ap (λ (s : K.Session). wrote_all K s qs) (started K L key nonce T begins ∙ fresh_held K L key nonce T)
      ∙ all_wrote K seals key nonce T L qs Note [] [] []
      ∙ ap (λ (as' : List Piece). cipher K seals key nonce T (joined Note as') (joined Body as')) (sym (accepted_fresh K L key nonce T begins qs))
      ∙ text_whole K key nonce T n b t (bytes_of Note) (bytes_of Body) (bytes_of Trailer)

  one_tag : (given : List ℕ) → length given ≡ tag_length K → close_tag K (after_start K key nonce T qs) T.edition given ≡ tag_as_one K key nonce T n b t
  unfolding close_tag
  one_tag given h =
      ap (λ (s : K.Session). cond (done_of (close_answer_of K s T.edition given)) (own_tag K s) given) (session_is K L key nonce T begins qs)
      ∙ cond_true _ _ _ (ap done_of (own_closing K L key nonce T begins qs given h)) ∙ own_tag_lem K L key nonce T begins qs
      ∙ ap (λ (way : Way). tag_as_one K key nonce T n (brought_body K key nonce T way n b) t) seals

  one_answer : (given : List ℕ) → length given ≡ tag_length K → K.answer (close_of K (after_start K key nonce T qs) T.edition given) ≡ (Ok tt)
  one_answer given h =
      ap (λ (x : K.Step). K.answer x) (close_is K L key nonce T begins qs given h) ∙ L.answered _ _ ∙ ap (λ (way : Way). verdict_of way given (own_tag K (held_by K key nonce T (accepted_from K key nonce T qs)))) seals

  -- the ciphertext written, joined, and the tag at the close
  one_text : (given : List ℕ) → length given ≡ tag_length K
      → wrote_all K (begun K key nonce T) qs ++ close_tag K (after_start K key nonce T qs) T.edition given ≡ sealed K.width T.rounds K.tag_bits key nonce (header_of T n) b t
  unfolding sealed
  one_text given h = ap₂ (λ (x y : List ℕ). x ++ y) one_ciphertext (one_tag given h)

  as_sealing : (out : List ℕ) → number_of (seal_answer K.width T.rounds key nonce (header_of T n) b t out) ≡ 0
      → seal_runs K.width T.rounds key nonce (header_of T n) b t out ≡ sealing_runs K.width (length (header_of T n)) (length b) (length t)
  unfolding seal_runs
  as_sealing out e = reported_with (seal_answer K.width T.rounds key nonce (header_of T n) b t out) _ (inl e)

  pub sealing_is : (given : List ℕ) → length given ≡ tag_length K
      → CompletesOneSealing K key nonce T (header_of T (note_of K key nonce T qs)) (body_of K key nonce T qs) (trailer_of K key nonce T qs)
      (number_of (K.answer (close_of K (after_start K key nonce T qs) T.edition given))) (close_runs K (after_start K key nonce T qs) T.edition given) (wrote_all K (begun K key nonce T) qs ++ close_tag K (after_start K key nonce T qs) T.edition given)
  sealing_is given h = record {
    answered = ap number_of (one_answer given h);
    as_defined = one_text given h;
    counted = own_runs K L key nonce T begins qs given h ∙ sym ((counts_sealing K.width).by_formula T.rounds K.tag_bits key nonce (header_of T n) b t);
    as_one_call = λ out long.
        let done = seal_done K.width T.rounds key nonce (header_of T n) b t out (record { begins = (start_limits_of K L key nonce T).0 begins; parts = parts_within K L key nonce T begins qs; exact = long }) in (
          done.0,
          (done.1 ∙ ap (λ (x : ℕ). sealed K.width T.rounds x key nonce (header_of T n) b t) (sym L.tagged) ∙ sym (one_text given h), as_sealing out done.0 ∙ sym (own_runs K L key nonce T begins qs given h)),
        );
  }
