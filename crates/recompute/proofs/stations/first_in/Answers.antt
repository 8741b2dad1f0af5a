use Rattle.std.specs.Prelude.{◌≡◌, true, find, slice_get, Some}
use Rattle.std.proofs.Common.{arith, ap, sym, ◌∙◌, get_or}
use Rattle.day_cells.proofs.CalendarLemmas.{first_is_found}
use Rattle.day_cells.specs.KeptDays.{KeptDays, waiting_of}
use Rattle.recompute.specs.Cells.{waiting}
use Rattle.recompute.proofs.StationLemmas.{found_in, none_in}
use Rattle.recompute.proofs.stations.first_in.Goals as goal

pub returns-in-Some : goal.returns-in-Some
returns-in-Some c =
    let stations = c.args.stations.now in
    let i = c.loop-station.station-index in
    let any : (s : KeptDays) → slice_get (waiting_of s) 0 ≡ find (λ _. true) (waiting_of s) = λ s. first_is_found (waiting_of s) in
    let here : find (λ _. true) (waiting_of (get_or stations i c.station-item.result)) ≡ Some c.in-Some.waiting =
    sym (any (get_or stations i c.station-item.result)) ∙ ap (λ s. slice_get (waiting_of s) 0) (sym c.station-item.is) ∙ sym c.first.ensures ∙ c.in-Some.is in
    sym (first_is_found (waiting stations)
    ∙ found_in (λ _. true) stations i c.station-item.result c.in-Some.waiting c.loop-station-test.true
    (λ k z l. sym (any (get_or stations k z)) ∙ c.loop-station.invariant k z (omega arith) l) here)

pub returns : goal.returns
returns c =
    let stations = c.args.stations.now in
    let past = c.loop-station-test.false in
    sym (first_is_found (waiting stations)
    ∙ none_in (λ _. true) stations
    (λ k z l. sym (first_is_found (waiting_of (get_or stations k z))) ∙ c.loop-station.invariant k z (omega arith) (omega arith)))
