-- `spelled::write_bytes`: `-` for none, pairs for others, where there is room.
use mathlib.Core.Path.{sym, ap, ◌∙◌}
use mathlib.Core.List.{List, ◌++◌}
use Prim.Native.Nat.{ℕ}
use native.Mathlib.Omega.{arith}
use borrow.Author.Tests.{eqb-true, eqb-false}
use lib.ListN.{length, drop}
use Rattle.spelled.specs.Spelled.{hex_text, put_length, put_front}
use Rattle.spelled.proofs.Hex.{length_hex}
use Rattle.spelled.proofs.Writing.{put_room, put_none, plain_none, plain_some}
use Rattle.spelled.proofs.write_bytes.Goals as goal

pub returns-then-is_empty : goal.returns-then-is_empty
returns-then-is_empty c =
    let x = c.args in
    let e = sym (plain_none x.bytes.now (eqb-true (length x.bytes.now) 0 (sym c.if-is_empty.ensures))) in
    record { length = c.write_none.ensures.length ∙ ap (λ (w : List ℕ). put_length w x.out.now) e; word = c.write_none.ensures.word ∙ ap (λ (w : List ℕ). put_front w x.out.now) e }

pub returns-then-out-bytes : goal.returns-then-out-bytes
returns-then-out-bytes c =
    let x = c.args in
    let bytes = x.bytes.now in
    let e = sym (plain_some bytes (eqb-false (length bytes) 0 (sym c.if-is_empty.ensures))) in
    let none = put_none (hex_text bytes) x.out.now (omega (arith, length_hex bytes)) in
    record { length = sym none.0 ∙ ap (λ (w : List ℕ). put_length w x.out.now) e; word = sym none.1 ∙ ap (λ (w : List ℕ). put_front w x.out.now) e }

pub returns : goal.returns
returns c =
    let x = c.args in
    let bytes = x.bytes.now in
    let e = sym (plain_some bytes (eqb-false (length bytes) 0 (sym c.if-is_empty.ensures))) in
    let room = put_room (hex_text bytes) x.out.now (omega (arith, length_hex bytes)) in record {
      length = sym (length_hex bytes) ∙ sym room.0 ∙ ap (λ (w : List ℕ). put_length w x.out.now) e;
      word = c.write_pairs.ensures ∙ ap (λ (k : ℕ). hex_text bytes ++ drop k x.out.now) (sym (length_hex bytes)) ∙ sym room.1
          ∙ ap (λ (w : List ℕ). put_front w x.out.now) e;
    }
