-- The lengths are exact where the checks of a call give no refusal; and a tag is no longer than a row.
-- Assumes nothing.
use mathlib.Core.Path.{◌≡◌}
use mathlib.Core.Bool.{true}
use Prim.Native.Nat.{ℕ, ◌+◌, ◌-◌, ◌≤◌}
use native.Mathlib.Omega.{arith}
use borrow.Author.Tests.{eqb-true, leb-true}
use lib.Dec.{leb, eqb, lit≤}
use Rattle.std.specs.Prelude.{Ok}
use Rattle.norx.specs.Norx.{Width, word32, word64, row_bytes}
use Rattle.answers.specs.declared.Refusal.TheVariants.{KeyLength, RoundsNumber, TagLength, OverLimit, OutputLength}
use Rattle.answers.specs.Answers.{done_of}
use Rattle.answers.proofs.Chain.{passed, both}
use Rattle.rules.specs.Rules.{within, rounds_ok, lengths_ok, tag_bytes}
use Rattle.rules.specs.Calls.{seal_checks, open_checks, Exact}

module _ (row tag l key nonce header text trailer out : ℕ) where
  pub seal_exact : done_of (seal_checks row tag l key nonce header text trailer out) ≡ true → Exact row tag key nonce text out
  unfolding seal_checks
  seal_exact e =
      let a = passed (rounds_ok l) RoundsNumber _ e in
      let b = passed (lengths_ok row key nonce) KeyLength _ a.1 in
      let c = passed (within header text trailer) OverLimit _ b.1 in
      let d = passed (eqb out (text + tag)) OutputLength (Ok tt) c.1 in
      let k = both (eqb key row) (eqb nonce row) b.0 in
      record { key_long = eqb-true key row k.0; nonce_long = eqb-true nonce row k.1; text_long = eqb-true out (text + tag) d.0 }

  pub open_exact : done_of (open_checks row tag l key nonce header text trailer out) ≡ true → Exact row tag key nonce out text
  unfolding open_checks
  open_exact e =
      let a = passed (rounds_ok l) RoundsNumber _ e in
      let b = passed (lengths_ok row key nonce) KeyLength _ a.1 in
      let c = passed (leb tag text) TagLength _ b.1 in
      let d = passed (within header (text - tag) trailer) OverLimit _ c.1 in
      let f = passed (eqb out (text - tag)) OutputLength (Ok tt) d.1 in
      let k = both (eqb key row) (eqb nonce row) b.0 in
      let le = leb-true tag text c.0 in
      let eq = eqb-true out (text - tag) f.0 in
      record { key_long = eqb-true key row k.0; nonce_long = eqb-true nonce row k.1; text_long = omega arith }

pub tag_fits : (w : Width) → tag_bytes w ≤ row_bytes w
tag_fits word32 = lit≤ tt
tag_fits word64 = lit≤ tt
