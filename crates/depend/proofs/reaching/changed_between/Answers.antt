-- Day after day is asked, from the first of the span to its last.
use Rattle.std.specs.Prelude.{not, ℤ, Bool}
use Rattle.std.proofs.Common.{◌∙◌, arith}
use Rattle.std.proofs.lemmas.Int.{ints}
use Rattle.edits.specs.declared.content.What.{What}
use Rattle.fixed_units.specs.Quantities.{first_day}
use Rattle.station_inputs.specs.Changes.{keeps_station_day}
use Rattle.station_inputs.specs.Stations.{StationState}
use Rattle.depend.proofs.DayNumbers.{behind_the_way, on_the_way}
use Rattle.depend.proofs.ReachLemmas.{found_after, found_last, counted_after, steps_left}
use Rattle.depend.proofs.reaching.changed_between.Goals as goal

abbrev changed : StationState → What → ℤ → Bool
changed s what day = not (keeps_station_day s what day)

pub returns-in_err-add_changed-clause-steps : goal.returns-in_err-add_changed-clause-steps
returns-in_err-add_changed-clause-steps g c =
    let way = on_the_way first_day c.args.span.1 _ _ (omega (arith, ints)) c.loop-number.invariant.low c.get-number-end.ensures.range c.get-number-end.ensures.value c.loop-number-test.true in
    steps_left c.args.span.0 c.args.span.1 _ c.args.steps.now c.loop-number.steps c.add_changed.new.steps way.within c.add_changed.ensures.step
    c.loop-number.invariant.counted

pub loop-number-preserved : goal.loop-number-preserved
loop-number-preserved g c =
    let way = on_the_way first_day c.args.span.1 _ _ (omega (arith, ints)) c.loop-number.invariant.low c.get-number-end.ensures.range c.get-number-end.ensures.value c.loop-number-test.true in
    let least = c.loop-number.invariant.low in
    let next = way.next in
    record {
      low = omega (arith, ints, least, next);
      found =
          found_after (changed c.args.station.now.station c.args.what.now) c.args.span.0 c.args.span.1 _ _ c.loop-number.days.items c.add_changed.new.days.items way.within next
          c.in_ok-add_changed.ensures.days c.loop-number.invariant.found;
      counted =
          counted_after c.args.span.0 c.args.span.1 _ _ c.args.steps.now c.loop-number.steps c.add_changed.new.steps way.within next c.add_changed.ensures.step
          c.loop-number.invariant.counted;
    }

pub returns-clause-days : goal.returns-clause-days
returns-clause-days g c =
    c.from_vec.ensures
    ∙ found_last (changed c.args.station.now.station c.args.what.now) c.args.span.0 c.args.span.1 _ c.loop-number.days.items
    (behind_the_way c.args.span.1 _ _ c.get-number-end.ensures.range c.get-number-end.ensures.value c.loop-number-test.false) c.loop-number.invariant.found
