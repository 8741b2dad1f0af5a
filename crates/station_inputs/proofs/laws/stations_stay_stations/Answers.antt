-- By kinds.
use Rattle.station_inputs.proofs.LawLemmas.{same_site, same_days, still_station}
use Rattle.station_inputs.proofs.laws.stations_stay_stations.Goals as goal

pub returns-clause-site : goal.returns-clause-site
returns-clause-site c = same_site

pub returns-clause-days : goal.returns-clause-days
returns-clause-days c = same_days

pub returns-clause-kept : goal.returns-clause-kept
returns-clause-kept c = still_station
