-- The state of the site is that of the station found.
use Rattle.std.proofs.Common.{◌∙◌, ap}
use Rattle.station_inputs.specs.KeptStation.{KeptStation}
use Rattle.office_inputs.specs.Kept.{kept_at}
use Rattle.std.specs.Prelude.{List}
use Rattle.office_inputs.proofs.InputsLemmas.{found_state}
use Rattle.office_inputs.proofs.inputs.Inputs.station_at.Goals as goal

pub returns : goal.returns
returns c =
    found_state c.args.self.now _ c.self.view_is c.args.place.site c.station_there.result
    (c.station_there.ensures ∙ ap (λ (kept : List KeptStation). kept_at kept c.args.place.site) c.as_slice.ensures.value)
