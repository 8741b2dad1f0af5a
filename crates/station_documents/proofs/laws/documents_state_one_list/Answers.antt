use Rattle.station_documents.proofs.OnceLemmas.{states_once}
use Rattle.station_documents.proofs.laws.documents_state_one_list.Goals as goal

pub returns : goal.returns
returns c = states_once
