-- The station at the place is that of its site.
use Rattle.std.proofs.Common.{sym, ◌∙◌}
use Rattle.office_inputs.proofs.PlaceLemmas.{stands, not_kept}
use Rattle.office_inputs.proofs.RoomLemmas.{stands_at}
use Rattle.office_inputs.proofs.places.station_there.Goals as goal

pub returns-in-Some : goal.returns-in-Some
returns-in-Some c =
    let h = stands c.args.stations.now c.args.place c.in-Some.index c.requires.rising c.requires.place (sym c.index.ensures ∙ c.in-Some.is) in
    sym (stands_at c.args.stations.now c.args.place.site c.in-Some.index c.index-stations-index.result h.within c.index-stations-index.is h.found)

pub returns-in-None : goal.returns-in-None
returns-in-None c = sym (not_kept c.args.stations.now c.args.place c.requires.place (sym c.index.ensures ∙ c.in-None.is))
