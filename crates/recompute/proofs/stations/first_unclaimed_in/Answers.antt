use Rattle.std.specs.Prelude.{◌≡◌, not, find, Some}
use Rattle.std.proofs.Common.{arith, ap, sym, ◌∙◌, get_or}
use Rattle.day_cells.specs.KeptDays.{waiting_of}
use Rattle.recompute.proofs.StationLemmas.{found_in, none_in}
use Rattle.recompute.proofs.stations.first_unclaimed_in.Goals as goal

pub returns-in-Some : goal.returns-in-Some
returns-in-Some c =
    let stations = c.args.stations.now in
    let i = c.loop-station.station-index in
    let here : find (λ w. not w.out) (waiting_of (get_or stations i c.station-item.result)) ≡ Some c.in-Some.waiting =
    ap (λ s. find (λ w. not w.out) (waiting_of s)) (sym c.station-item.is) ∙ sym c.first_unclaimed.ensures ∙ c.in-Some.is in
    sym (found_in (λ w. not w.out) stations i c.station-item.result c.in-Some.waiting c.loop-station-test.true
    (λ k z l. c.loop-station.invariant k z (omega arith) l) here)

pub returns : goal.returns
returns c =
    let stations = c.args.stations.now in
    let past = c.loop-station-test.false in
    sym (none_in (λ w. not w.out) stations (λ k z l. c.loop-station.invariant k z (omega arith) (omega arith)))
