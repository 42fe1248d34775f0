-- The promises of a session, once over its kind: of any list of calls behind a start, by what its pieces alone do where the session is still open.
-- Assumes nothing.
use mathlib.Core.Path.{◌≡◌, sym, ap, ◌∙◌}
use mathlib.Core.Bool.{true, false≢true}
use mathlib.Core.Logic.{◌⊎◌, ⊎_elim}
use mathlib.Core.List.{List}
use Prim.Native.Nat.{ℕ}
use native.Mathlib.Omega.{arith}
use lib.ListN.{length}
use Rattle.answers.specs.Answers.{done_of}
use Rattle.answers.proofs.Tests.{either}
use Rattle.places.specs.declared.terms.Terms.{Terms}
use Rattle.places.specs.declared.Part.{Part}
use Rattle.places.specs.declared.Standing.{Standing}
use Rattle.places.specs.declared.Standing.TheVariants.{Closed, Open}
use Rattle.places.proofs.Accepts.{closable_own, closed_unsound}
use Rattle.session.specs.Sessions.{sealing, checking, Kind, tag_length, close_answer_of}
use Rattle.session.specs.Offered.{Close, Call, close, number_to, joined, held_by}
use Rattle.session.specs.Promises.{StillOpen, begun, session_after, OwnClose, TakesPieces, ClosesUnderItsOwn, OpenUntilClosed, StartsWithinLimits, OneSession, Alike, WithinOneCall, OneSealing, OneOpening, Promised}
use Rattle.session.proofs.Pieces.{after_all}
use Rattle.session.proofs.Refused.{Lawful, close_to, no_verdict, refuses_unsound, refuses_other_jobs, refusal_changes_nothing, no_piece_answers_10, close_ends, closed_refuses}
use Rattle.session.proofs.Calls.{pieces_of, AsPieces, as_pieces, still_unclosed, without_refused}
use Rattle.session.proofs.Begun.{not_started, start_limits_of, session_is, stands, alike_is}
use Rattle.session.proofs.Reports.{reports_closes}
use Rattle.session.proofs.Closing.{tag_length_lem, close_own, own_closes}
use Rattle.session.proofs.Taking.{parts_within, takes_piece}
use Rattle.session.proofs.OneSealing.{sealing_is}
use Rattle.session.proofs.OneOpening.{checking_is}

abbrev openness : Standing → ℕ
openness Closed = 0
openness (Open part) = 1

open-not-closed : (part : Part) → Open part ≡ Closed → ⊥
open-not-closed part e = let z : ◌≡◌ {A = ℕ} 1 0 = ap openness e in omega arith

-- ---- the promises, of any list of calls

module _ (K : Kind) (L : Lawful K) where
  abbrev Still : List ℕ → List ℕ → Terms → List Call → Type 0
  Still key nonce T cs = StillOpen K (session_after K key nonce T cs)

  as_its_pieces : (key nonce : List ℕ) (T : Terms) (cs : List Call) → Still key nonce T cs → AsPieces K (begun K key nonce T) cs
  as_its_pieces key nonce T cs still = as_pieces K L cs (begun K key nonce T) (still_unclosed K L cs (begun K key nonce T) still)

  starts : StartsWithinLimits K
  starts key nonce T = (start_limits_of K L key nonce T, not_started K L key nonce T)

  one_session : OneSession K
  one_session key nonce T h cs still =
      let same-as = as_its_pieces key nonce T cs still in
      same-as.session ∙ session_is K L key nonce T h (pieces_of cs) ∙ ap (held_by K key nonce T) (sym same-as.pieces)

  pub is_open : (part : Part) (s : Standing) → s ≡ Open part → s ≡ Closed → ⊥
  is_open part s e f = open-not-closed part (sym e ∙ f)

  -- a session is open from its start until it is closed
  open_until_closed : OpenUntilClosed K
  open_until_closed key nonce T h cs = (
    still_unclosed K L cs (begun K key nonce T),
    λ unclosed.
        let same-as = as_pieces K L cs (begun K key nonce T) unclosed in
        is_open _ _ (ap (λ (s : K.Session). (K.place s).standing) same-as.session ∙ stands K L key nonce T h (pieces_of cs)),
  )

  alike : Alike K
  alike key nonce T h cs cs' part e e' joins =
      let one = as_its_pieces key nonce T cs (is_open part _ e) in
      let two = as_its_pieces key nonce T cs' (is_open part _ e') in
      let standing-of : K.Session → Standing = λ s. (K.place s).standing in
      let stands : standing-of (after_all K (begun K key nonce T) (pieces_of cs)) ≡ standing-of (after_all K (begun K key nonce T) (pieces_of cs')) =
      ap standing-of (sym one.session) ∙ e ∙ sym e' ∙ ap standing-of two.session in
      one.session
      ∙ alike_is K L key nonce T h (pieces_of cs) (pieces_of cs') stands (λ k. ap (joined k) (sym one.pieces) ∙ joins k ∙ ap (joined k) two.pieces)
      ∙ sym two.session

  within : WithinOneCall K
  within key nonce T h cs still =
      let same-as = as_its_pieces key nonce T cs still in
      rw same-as.pieces (parts_within K L key nonce T h (pieces_of cs))

  takes : TakesPieces K
  takes key nonce T h cs still q =
      let same-as = as_its_pieces key nonce T cs still in
      rw (same-as.pieces, same-as.session) (takes_piece K L key nonce T h (pieces_of cs) q)

  -- a session whose close is not refused is open
  open-still : (s : K.Session) (c : Close) → done_of (close_to K L s c) ≡ true → StillOpen K s
  unfolding close_answer_of
  open-still s c h z =
      let sound = (closable_own (K.place s) c.edition (tag_length K) (length c.tag) h).0 in
      false≢true (sym (closed_unsound (K.place s) z) ∙ sound)

  not_refused : (s : K.Session) (c : Close) → (number_to K s (close c) ≡ 0) ⊎ (number_to K s (close c) ≡ 10) → done_of (close_to K L s c) ≡ true
  not_refused s c e = ⊎_elim (λ y. y) (λ y. absurd (no_verdict K L s c.edition c.tag y e)) (either (done_of (close_to K L s c)))

  closes_own : ClosesUnderItsOwn K
  closes_own key nonce T h cs c = (from, to)
    where
      from : (number_to K (session_after K key nonce T cs) (close c) ≡ 0) ⊎ (number_to K (session_after K key nonce T cs) (close c) ≡ 10) → OwnClose K key nonce T cs c
      from e =
          let done : done_of (close_to K L (session_after K key nonce T cs) c) ≡ true = not_refused (session_after K key nonce T cs) c e in
          let still : StillOpen K (session_after K key nonce T cs) = open-still (session_after K key nonce T cs) c done in
          let same-as = as_its_pieces key nonce T cs still in
          let own = close_own K L key nonce T h (pieces_of cs) c (sym (ap (λ (s : K.Session). done_of (close_to K L s c)) same-as.session) ∙ done) in
          (still, own.0, own.1 ∙ tag_length_lem K L)

      to : OwnClose K key nonce T cs c → (number_to K (session_after K key nonce T cs) (close c) ≡ 0) ⊎ (number_to K (session_after K key nonce T cs) (close c) ≡ 10)
      to own = rw (as_its_pieces key nonce T cs own.0).session (own_closes K L key nonce T h (pieces_of cs) c own.1 (own.2 ∙ sym (tag_length_lem K L)))

  pub promised : Promised K
  promised = record {
    starts = starts;
    unsound = refuses_unsound K L;
    other_jobs = refuses_other_jobs K L;
    refusals = refusal_changes_nothing K L;
    no_piece_10 = no_piece_answers_10 K L;
    close_ends = close_ends K L;
    reports = reports_closes K L;
    closed_refuses = closed_refuses K L;
    open_until_closed = open_until_closed;
    one_session = one_session;
    alike = alike;
    takes = takes;
    within = within;
    closes = closes_own;
    without_refused = without_refused K L;
  }

  pub one_sealing : K.way ≡ sealing → OneSealing K
  one_sealing seals key nonce T h cs c own =
      let same-as = as_its_pieces key nonce T cs own.0 in
      let long : length c.tag ≡ tag_length K = own.2 ∙ sym (tag_length_lem K L) in
      rw (same-as.pieces, same-as.session, same-as.written, own.1)
      (sealing_is K L key nonce T h (pieces_of cs) seals c.tag long)

  pub one_opening : K.way ≡ checking → OneOpening K
  one_opening checks key nonce T h cs c own =
      let same-as = as_its_pieces key nonce T cs own.0 in
      let long : length c.tag ≡ tag_length K = own.2 ∙ sym (tag_length_lem K L) in
      rw (same-as.pieces, same-as.session, own.1)
      (checking_is K L key nonce T h (pieces_of cs) checks c.tag c.are_bytes long)
