use Rattle.std.proofs.Common.{◌≡◌, Bool, List, Decides, sym, ap, subst, ◌∙◌}
use Rattle.edits.specs.declared.content.What.TheVariants.{PutReadings}
use Rattle.fixed_units.specs.declared.readings.Reading.{Reading}
use Rattle.readings.proofs.EqualityLemmas.{lists_decide}
use Rattle.edits.proofs.equality.is_put.Goals as goal

put_is : (xs ys : List Reading) → PutReadings xs ≡ PutReadings ys → xs ≡ ys
put_is xs ys e = cc

pub returns-in-PutReadings-clause-equal : goal.returns-in-PutReadings-clause-equal
returns-in-PutReadings-clause-equal c =
    let own = c.as_slice.ensures in
    let decided : Decides c.are_same.result (c.args.readings.now ≡ c.as_slice.result.now) =
    subst (λ (told : Bool). Decides told (c.args.readings.now ≡ c.as_slice.result.now)) (sym c.are_same.ensures) (lists_decide c.args.readings.now c.as_slice.result.now) in
    rw c.in-PutReadings.is
    (λ e. ap PutReadings (sym own ∙ sym (decided.0 e)), λ e. decided.1 (sym (put_is c.in-PutReadings.own c.args.readings.now e) ∙ sym own))
