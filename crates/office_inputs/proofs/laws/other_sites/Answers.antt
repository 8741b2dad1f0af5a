-- Kind by kind.
use Rattle.office_inputs.proofs.LawLemmas.{station_left, inputs_left}
use Rattle.office_inputs.proofs.laws.other_sites.Goals as goal

pub returns : goal.returns
returns c = record {
  station = station_left;
  inputs = inputs_left;
}
