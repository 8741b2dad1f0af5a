-- By kinds.
use Rattle.std.proofs.Common.{refl}
use Rattle.curves.specs.Entries.{entry_of}
use Rattle.station_inputs.proofs.CountLemmas.{none_raised}
use Rattle.station_inputs.proofs.stations.Station.passed_count.Goals as goal

pub returns-in-PutCorrection : goal.returns-in-PutCorrection
returns-in-PutCorrection c =
    rw c.in-PutCorrection.is (c.entry_limit.ensures (entry_of c.in-PutCorrection.at c.in-PutCorrection.curve c.in-PutCorrection.prorate) refl)

pub returns-in-PutShift : goal.returns-in-PutShift
returns-in-PutShift c =
    rw c.in-PutShift.is (c.entry_limit-in-PutShift.ensures (entry_of c.in-PutShift.at c.in-PutShift.curve c.in-PutShift.prorate) refl)

pub returns-in-AddStation-6 : goal.returns-in-AddStation-6
returns-in-AddStation-6 c = none_raised c.args.self.now.station c.args.what.now c.site-site.ensures.kept c.requires c.in-AddStation.is

pub returns-in-AddStation-7 : goal.returns-in-AddStation-7
returns-in-AddStation-7 c = none_raised c.args.self.now.station c.args.what.now c.site-site.ensures.kept c.requires c.in-AddStation.is

pub returns-in-AddStation-8 : goal.returns-in-AddStation-8
returns-in-AddStation-8 c = none_raised c.args.self.now.station c.args.what.now c.site-site.ensures.kept c.requires c.in-AddStation.is

pub returns-in-AddStation-11 : goal.returns-in-AddStation-11
returns-in-AddStation-11 c = none_raised c.args.self.now.station c.args.what.now c.site-site.ensures.kept c.requires c.in-AddStation.is
