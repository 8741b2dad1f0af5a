-- What is left of the series keeps to what it must.
use Rattle.std.proofs.Common.{ap, subst, ◌∙◌}
use Rattle.curves.specs.Corrections.{entries_of}
use Rattle.curves.specs.Entries.{without}
use Rattle.curves.specs.Series.{Contents}
use Rattle.station_inputs.specs.Series.{IsOfStation}
use Rattle.station_inputs.proofs.SeriesLemmas.{set_dropped, shift_dropped}
use Rattle.station_inputs.proofs.stations.Station.drop_entry.Goals as goal

pub invariant_of-self : goal.invariant_of-self
invariant_of-self c =
    set_dropped _ c.in-Correction.set c.args.at (entries_of c.drop_correction.new.corrections) c.self.invariant
    (subst IsOfStation c.in-Correction.is c.requires) c.drop_correction.ensures

pub invariant_of-self-in-Shift : goal.invariant_of-self-in-Shift
invariant_of-self-in-Shift c =
    shift_dropped _ c.args.at c.drop_from.new.series.entries c.self.invariant
    (c.drop_from.ensures ∙ ap (λ (x : Contents). without c.args.at x.entries) c.series_mut.ensures.series)

pub returns-in-Correction-clause-kept : goal.returns-in-Correction-clause-kept
returns-in-Correction-clause-kept c =
    set_dropped _ c.in-Correction.set c.args.at (entries_of c.drop_correction.new.corrections) c.self.invariant
    (subst IsOfStation c.in-Correction.is c.requires) c.drop_correction.ensures

pub returns-in-Shift-clause-kept : goal.returns-in-Shift-clause-kept
returns-in-Shift-clause-kept c =
    shift_dropped _ c.args.at c.drop_from.new.series.entries c.self.invariant
    (c.drop_from.ensures ∙ ap (λ (x : Contents). without c.args.at x.entries) c.series_mut.ensures.series)
