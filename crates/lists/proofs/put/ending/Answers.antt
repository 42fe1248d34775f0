-- `lists::put::ending`: six bytes copied, or a part as any other.
use mathlib.Core.Path.{ap, ◌∙◌}
use mathlib.Core.List.{List, [], ◌∷◌}
use Prim.Native.Nat.{ℕ, ◌+◌}
use native.Mathlib.Omega.{arith}
use lib.ListN.{length, length-append}
use Rattle.decimal.specs.Decimal.{num_text}
use Rattle.decimal.specs.Laid.{laid}
use Rattle.fields.specs.Fields.{newline}
use Rattle.lists.proofs.Writing.{full_ending}
use Rattle.lists.proofs.put.ending.Goals as goal

pub text-requires : goal.text-requires
text-requires c =
    omega (arith, c.requires, ap length (full_ending c.args.body c.if-body.true), length-append (num_text c.args.body) (newline ∷ []))

pub returns-then-body : goal.returns-then-body
returns-then-body c =
    let x = c.args in
    let e = full_ending x.body c.if-body.true in
    let t = c.text.ensures in
    record { place = t.place ∙ ap (λ (y : List ℕ). x.at + length y) e; text = t.text ∙ ap (laid x.out.now x.at) e }
