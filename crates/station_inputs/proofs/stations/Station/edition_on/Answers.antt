-- The edition of the day is in force, or else the last before it.
use Rattle.std.proofs.Common.{Bor, ap, ◌∙◌}
use Rattle.std.specs.Prelude.{option_map}
use Rattle.rising.specs.Ends.{last}
use Rattle.station_inputs.specs.KeptStation.{KeptStation}
use Rattle.station_inputs.specs.Stations.{edition_on}
use Rattle.station_inputs.specs.declared.station_editions.Edition.{Edition}
use Rattle.station_inputs.proofs.EditionLemmas.{found_in_force}
use Rattle.station_inputs.proofs.stations.Station.edition_on.Goals as goal

pub returns : goal.returns
returns c =
    ap (option_map (λ (e : Bor Edition). e.now)) c.or.ensures
    ∙ found_in_force (λ (e : Bor Edition). e.now) c.parts-parts.result.here c.last.result c.args.day c.self.inside.editions.list c.parts-parts.ensures.rising
    c.parts-parts.ensures.here (c.last.ensures.value ∙ ap last c.parts-parts.ensures.before)
    ∙ ap (λ (k : KeptStation). edition_on c.args.day k.station.editions) c.self.view_is
