-- Day after day is asked, from the calendar's first to its last.
use Rattle.std.specs.Prelude.{◌≡◌, ℤ, pos, ◌+ℤ◌, ◌≤ℤ◌}
use Rattle.std.proofs.Common.{◌∙◌, arith, to_z, of_z, w32}
use Rattle.std.proofs.lemmas.Int.{ints}
use Rattle.fixed_units.specs.Quantities.{first_day, last_day}
use Rattle.office_inputs.specs.Kept.{in_force}
use Rattle.depend.proofs.ReachLemmas.{found_after, found_last, asked_days, differs}
use Rattle.depend.proofs.from_scratch.changed_days.Goals as goal

pub loop-number-preserved : goal.loop-number-preserved
loop-number-preserved c =
    let number : ℤ = to_z w32 c.loop-number.number-bits in
    let least = c.loop-number.invariant.low in
    let within : number ≤ℤ last_day = omega (arith, ints, c.loop-number-test.true) in
    let next : to_z w32 (of_z w32 (number +ℤ pos 1)) ≡ number +ℤ pos 1 = omega (arith, ints) in
    found_after (differs (in_force c.args.before.now) (in_force c.args.after.now) c.args.edit.now.site) first_day last_day number _ c.loop-number.days.items
    c.add_different.new.days.items within next c.in_ok-add_different.ensures c.loop-number.invariant

pub returns : goal.returns
returns c =
    let number : ℤ = to_z w32 c.loop-number.number-bits in
    asked_days (in_force c.args.before.now) (in_force c.args.after.now) c.args.edit.now c.from_vec.result c.requires
    (c.from_vec.ensures
    ∙ found_last (differs (in_force c.args.before.now) (in_force c.args.after.now) c.args.edit.now.site) first_day last_day number c.loop-number.days.items
    (omega (arith, ints, c.loop-number-test.false)) c.loop-number.invariant)
