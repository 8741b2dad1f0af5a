-- What the search finds.
use Rattle.office_inputs.proofs.PlaceLemmas.{found_place}
use Rattle.office_inputs.proofs.places.find_place.Goals as goal

pub returns : goal.returns
returns c = found_place c.args.stations.now c.args.site c.place_in.result c.place_in.ensures.found c.place_in.ensures.within c.place_in.ensures.none
