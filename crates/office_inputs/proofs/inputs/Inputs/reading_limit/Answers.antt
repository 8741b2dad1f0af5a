-- The limit of all stations' readings, or else that of a local day's.
use Rattle.std.proofs.Common.{refl, ap, sym, true, false, ◌∙◌}
use Rattle.office_inputs.specs.Kept.{InForce, in_force}
use Rattle.readings.specs.Readings.{put_all}
use Rattle.station_inputs.specs.Counts.{passes_a_day}
use Rattle.station_inputs.specs.Stations.{with_readings}
use Rattle.office_inputs.proofs.ApplyLemmas.{states_rise}
use Rattle.office_inputs.proofs.RefusingLemmas.{readings_told}
use Rattle.office_inputs.proofs.inputs.Inputs.reading_limit.Goals as goal

pub returns-then-passes_readings : goal.returns-then-passes_readings
returns-then-passes_readings c =
    let s = c.args.station.now.station in
    readings_told c.args.self.now.limits (in_force c.args.self.now) s c.args.readings.now true
    (passes_a_day c.args.self.now.limits.day_readings s (with_readings (put_all c.args.readings.now) s))
    (states_rise c.args.self.now.kept c.stations_keep_to_their_ranges.ensures.rising) c.requires.found
    (sym c.if-passes_readings.true ∙ c.passes_readings.ensures) refl

pub returns-then-passes_a_day : goal.returns-then-passes_a_day
returns-then-passes_a_day c =
    let s = c.args.station.now.station in
    readings_told c.args.self.now.limits (in_force c.args.self.now) s c.args.readings.now false true
    (states_rise c.args.self.now.kept c.stations_keep_to_their_ranges.ensures.rising) c.requires.found
    (sym c.if-passes_readings.false ∙ c.passes_readings.ensures)
    (sym c.if-passes_a_day.true ∙ c.passes_a_day.ensures
    ∙ ap (λ (i : InForce). passes_a_day i.limits.day_readings s (with_readings (put_all c.args.readings.now) s)) c.self.view_is)

pub returns : goal.returns
returns c =
    let s = c.args.station.now.station in
    readings_told c.args.self.now.limits (in_force c.args.self.now) s c.args.readings.now false false
    (states_rise c.args.self.now.kept c.stations_keep_to_their_ranges.ensures.rising) c.requires.found
    (sym c.if-passes_readings.false ∙ c.passes_readings.ensures)
    (sym c.if-passes_a_day.false ∙ c.passes_a_day.ensures
    ∙ ap (λ (i : InForce). passes_a_day i.limits.day_readings s (with_readings (put_all c.args.readings.now) s)) c.self.view_is)
