use Rattle.std.specs.Prelude.{◌≤ℤ◌, not}
use Rattle.fixed_units.specs.Quantities.{first_day}
use Rattle.station_inputs.specs.Changes.{keeps_station_day}
use Rattle.depend.proofs.ReachLemmas.{AreFound, AreCounted}
use Rattle.depend.proofs.reaching.changed_between.Given as goal

abbrev pub invariant-loop-number : goal.invariant-loop-number
invariant-loop-number g l = record {
  low : first_day ≤ℤ l.number;
  found : AreFound (λ day. not (keeps_station_day l.station.station l.what day)) l.fn.span.0 l.fn.span.1 l.number l.days.items;
  counted : AreCounted l.fn.span.0 l.fn.span.1 l.number l.fn.steps l.steps;
}
