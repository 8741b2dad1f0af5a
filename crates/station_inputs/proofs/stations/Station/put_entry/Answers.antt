-- The series with the entry keeps to what it must.
use Rattle.std.proofs.Common.{ap, subst, ◌∙◌}
use Rattle.curves.specs.Corrections.{entries_of}
use Rattle.curves.specs.Entries.{put}
use Rattle.curves.specs.Series.{Contents}
use Rattle.station_inputs.specs.Series.{IsOfStation}
use Rattle.station_inputs.proofs.SeriesLemmas.{set_put, shift_put}
use Rattle.station_inputs.proofs.stations.Station.put_entry.Goals as goal

pub invariant_of-self : goal.invariant_of-self
invariant_of-self c =
    set_put _ c.in-Correction.set c.args.entry (entries_of c.put_correction.new.corrections) c.self.invariant
    (subst IsOfStation c.in-Correction.is c.requires.series) c.requires.lawful c.requires.stamp c.put_correction.ensures

pub invariant_of-self-in-Shift : goal.invariant_of-self-in-Shift
invariant_of-self-in-Shift c =
    shift_put _ c.args.entry c.put.new.self.entries c.self.invariant c.requires.lawful c.requires.stamp
    (c.put.ensures.entries ∙ ap (λ (x : Contents). put c.args.entry x.entries) c.series_mut.ensures.series)

pub returns-in-Correction-clause-kept : goal.returns-in-Correction-clause-kept
returns-in-Correction-clause-kept c =
    set_put _ c.in-Correction.set c.args.entry (entries_of c.put_correction.new.corrections) c.self.invariant
    (subst IsOfStation c.in-Correction.is c.requires.series) c.requires.lawful c.requires.stamp c.put_correction.ensures

pub returns-in-Shift-clause-kept : goal.returns-in-Shift-clause-kept
returns-in-Shift-clause-kept c =
    shift_put _ c.args.entry c.put.new.self.entries c.self.invariant c.requires.lawful c.requires.stamp
    (c.put.ensures.entries ∙ ap (λ (x : Contents). put c.args.entry x.entries) c.series_mut.ensures.series)
