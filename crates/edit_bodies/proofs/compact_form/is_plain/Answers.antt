use Rattle.std.proofs.Common.{◌≡◌, ◌==◌, ◌&&◌, Bool, true, false, not, refl, arith, tests}
use Rattle.std.proofs.lemmas.Bool.{leb-true}
use Rattle.std.specs.Bool.{OnTrue}
use Rattle.json.proofs.Printed.Strings.{escape_byte_plain}
use Rattle.edit_bodies.proofs.compact_form.is_plain.Goals as goal

on_all : (a b c : Bool) {P : Type 0} → (a ≡ true → b ≡ true → c ≡ true → P) → OnTrue ((a && b) && c) P
on_all true true true h = h refl refl refl
on_all true true false h = tt
on_all true false c h = tt
on_all false b c h = tt

pub returns : goal.returns
returns c =
    let byte = c.args.byte in
    on_all (not (byte == 34)) (not (byte == 92)) _ (λ quote slash control. escape_byte_plain byte (λ q. grind (arith, tests, quote, q)) (λ q. grind (arith, tests, slash, q)) (leb-true _ _ control))
