-- By kinds.
use Rattle.std.proofs.Common.{ap, sym, ◌∙◌}
use Rattle.edits.specs.declared.content.What.{What}
use Rattle.station_inputs.specs.Changes.{keeps_station_day}
use Rattle.station_inputs.proofs.EstimateDays.{put_told, drop_told}
use Rattle.station_inputs.proofs.LawLemmas.{none_changed}
use Rattle.station_inputs.proofs.stations.Station.keeps_day.Goals as goal

pub returns-in-SetStation : goal.returns-in-SetStation
returns-in-SetStation c = rw c.in-SetStation.is (c.keeps_day_described.ensures c.in-SetStation.name)

pub returns-in-AddStation : goal.returns-in-AddStation
returns-in-AddStation c = none_changed c.args.self.now.station c.args.what.now c.args.day c.site-site.ensures.kept c.in-AddStation.is

pub returns-in-AddStation-2 : goal.returns-in-AddStation-2
returns-in-AddStation-2 c = none_changed c.args.self.now.station c.args.what.now c.args.day c.site-site.ensures.kept c.in-AddStation.is

pub returns-in-AddStation-3 : goal.returns-in-AddStation-3
returns-in-AddStation-3 c = none_changed c.args.self.now.station c.args.what.now c.args.day c.site-site.ensures.kept c.in-AddStation.is

pub returns-in-AddStation-4 : goal.returns-in-AddStation-4
returns-in-AddStation-4 c = none_changed c.args.self.now.station c.args.what.now c.args.day c.site-site.ensures.kept c.in-AddStation.is

pub returns-in-AddStation-5 : goal.returns-in-AddStation-5
returns-in-AddStation-5 c = none_changed c.args.self.now.station c.args.what.now c.args.day c.site-site.ensures.kept c.in-AddStation.is

pub returns-in-AddStation-6 : goal.returns-in-AddStation-6
returns-in-AddStation-6 c = none_changed c.args.self.now.station c.args.what.now c.args.day c.site-site.ensures.kept c.in-AddStation.is

pub returns-in-PutEstimate : goal.returns-in-PutEstimate
returns-in-PutEstimate c =
    c.keeps_day_estimated.ensures ∙ put_told c.args.self.now.station c.in-PutEstimate.estimate c.args.day
    ∙ ap (λ (w : What). keeps_station_day c.args.self.now.station w c.args.day) (sym c.in-PutEstimate.is)

pub returns-in-DropEstimate : goal.returns-in-DropEstimate
returns-in-DropEstimate c =
    c.keeps_day_estimated-in-DropEstimate.ensures ∙ drop_told c.args.self.now.station c.in-DropEstimate.own c.args.day
    ∙ ap (λ (w : What). keeps_station_day c.args.self.now.station w c.args.day) (sym c.in-DropEstimate.is)
