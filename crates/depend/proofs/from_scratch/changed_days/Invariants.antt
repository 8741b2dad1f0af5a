use Rattle.std.specs.Prelude.{not}
use Rattle.day_inputs.specs.Equality.{same_inputs}
use Rattle.fixed_units.specs.Quantities.{first_day, last_day}
use Rattle.office_inputs.specs.Kept.{in_force}
use Rattle.office_inputs.specs.Stations.{inputs_of_day}
use Rattle.depend.proofs.ReachLemmas.{AreFound}
use Rattle.depend.proofs.from_scratch.changed_days.Given as goal

abbrev pub invariant-loop-number : goal.invariant-loop-number
invariant-loop-number l =
    AreFound (λ day. not (same_inputs (inputs_of_day (in_force l.before) l.edit.site day) (inputs_of_day (in_force l.after) l.edit.site day)))
    first_day last_day l.number l.days.items
