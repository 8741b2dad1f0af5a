-- By the kind of the edit.
use Rattle.std.proofs.Common.{refl, ap, sym, ◌∙◌}
use Rattle.std.specs.Prelude.{List, option_map}
use Rattle.edits.specs.declared.content.What.TheVariants.{PutReadings}
use Rattle.fixed_units.specs.declared.readings.Reading.{Reading}
use Rattle.office_inputs.specs.Kept.{in_force}
use Rattle.office_inputs.specs.Refusals.{limit_of}
use Rattle.station_inputs.specs.Counts.{passed_count}
use Rattle.station_inputs.specs.Stations.{station_after}
use Rattle.office_inputs.proofs.ApplyLemmas.{states_rise}
use Rattle.office_inputs.proofs.KeepLemmas.{adds_not}
use Rattle.office_inputs.proofs.RefusingLemmas.{own_site, refused_other, refused_readings}
use Rattle.office_inputs.proofs.inputs.Inputs.refusal_with.Goals as goal

pub reading_limit-requires-clause-found : goal.reading_limit-requires-clause-found
reading_limit-requires-clause-found c = own_site (in_force c.args.self.now) c.args.edit.now.site c.args.station.now.station c.requires.found

pub returns-in-PutReadings : goal.returns-in-PutReadings
returns-in-PutReadings c =
    c.reading_limit.ensures
    ∙ refused_readings c.args.self.now.limits (in_force c.args.self.now) c.args.edit.now c.args.station.now.station c.as_slice.result.now c.requires.found
    (c.in-PutReadings.is ∙ ap (λ (rs : List Reading). PutReadings rs) (sym c.as_slice.ensures))

pub returns-in_default : goal.returns-in_default
returns-in_default c =
    let s = c.args.station.now.station in
    c.refusal_by_station.ensures
    ∙ refused_other c.args.self.now.limits (in_force c.args.self.now) c.args.edit.now s
    (option_map limit_of (passed_count s (station_after c.args.edit.now.what s)))
    (states_rise c.args.self.now.kept c.stations_keep_to_their_ranges.ensures.rising) c.requires.found
    (adds_not c.args.edit.now.what c.in_default.not-AddStation) c.in_default.not-PutReadings refl
