-- Each day of the readings is told by those of it.
use Rattle.station_inputs.proofs.DayWalk.{a_step, all_told, first_stamp, next, none_done, part_rises, part_within, passed, rest_each, rest_rises, shorter}
use Rattle.station_inputs.proofs.stations.Station.passes_a_day.Goals as goal

pub loop-first-init : goal.loop-first-init
loop-first-init c = none_done c.args.self.now.station c.args.limit c.args.readings.now

pub day_on-day-requires : goal.day_on-day-requires
day_on-day-requires c =
    first_stamp c.loop-first.rest.now c.in-Some.first.now c.in-Some.ensures.value
    (rest_each c.args.self.now.station c.args.limit c.args.readings.now c.loop-first.rest.now c.loop-first.invariant c.requires.each)

pub count_before-requires : goal.count_before-requires
count_before-requires c =
    rest_rises c.args.self.now.station c.args.limit c.args.readings.now c.loop-first.rest.now c.loop-first.invariant c.requires.rising

pub passes_on-requires-clause-rising : goal.passes_on-requires-clause-rising
passes_on-requires-clause-rising c =
    part_rises c.args.self.now.station c.args.limit c.args.readings.now c.loop-first.rest.now c.day_on-day.result c.in-Some.first.now c.split_at.result.0.now c.split_at.result.1.now
    (a_step c.args.self.now.station c.args.limit c.args.readings.now c.loop-first.rest.now c.day_on-day.result c.bounds-until.result.1 c.count_before.result
    c.in-Some.first.now c.split_at.result.0.now c.split_at.result.1.now c.loop-first.invariant c.site-site.ensures.kept.zone_is c.requires.rising c.in-Some.ensures.value
    c.day_on-day.ensures.day c.day_on-day.ensures.holds c.bounds-until.ensures.end c.split_at.ensures.front c.split_at.ensures.back
    c.count_before.ensures.front c.count_before.ensures.back)

pub passes_on-requires-clause-within : goal.passes_on-requires-clause-within
passes_on-requires-clause-within c =
    part_within c.args.self.now.station c.args.limit c.args.readings.now c.loop-first.rest.now c.day_on-day.result c.in-Some.first.now c.split_at.result.0.now c.split_at.result.1.now
    (a_step c.args.self.now.station c.args.limit c.args.readings.now c.loop-first.rest.now c.day_on-day.result c.bounds-until.result.1 c.count_before.result
    c.in-Some.first.now c.split_at.result.0.now c.split_at.result.1.now c.loop-first.invariant c.site-site.ensures.kept.zone_is c.requires.rising c.in-Some.ensures.value
    c.day_on-day.ensures.day c.day_on-day.ensures.holds c.bounds-until.ensures.end c.split_at.ensures.front c.split_at.ensures.back
    c.count_before.ensures.front c.count_before.ensures.back)

pub returns-then-passes_on : goal.returns-then-passes_on
returns-then-passes_on c =
    passed c.args.self.now.station c.args.limit c.args.readings.now c.loop-first.rest.now c.day_on-day.result c.in-Some.first.now c.split_at.result.0.now c.split_at.result.1.now c.passes_on.result
    (a_step c.args.self.now.station c.args.limit c.args.readings.now c.loop-first.rest.now c.day_on-day.result c.bounds-until.result.1 c.count_before.result
    c.in-Some.first.now c.split_at.result.0.now c.split_at.result.1.now c.loop-first.invariant c.site-site.ensures.kept.zone_is c.requires.rising c.in-Some.ensures.value
    c.day_on-day.ensures.day c.day_on-day.ensures.holds c.bounds-until.ensures.end c.split_at.ensures.front c.split_at.ensures.back
    c.count_before.ensures.front c.count_before.ensures.back)
    c.site-site.ensures.kept.readings_are.rising c.passes_on.ensures c.if-passes_on.true

pub loop-first-smaller : goal.loop-first-smaller
loop-first-smaller c =
    shorter c.args.self.now.station c.args.limit c.args.readings.now c.loop-first.rest.now c.day_on-day.result c.in-Some.first.now c.split_at.result.0.now c.split_at.result.1.now
    (a_step c.args.self.now.station c.args.limit c.args.readings.now c.loop-first.rest.now c.day_on-day.result c.bounds-until.result.1 c.count_before.result
    c.in-Some.first.now c.split_at.result.0.now c.split_at.result.1.now c.loop-first.invariant c.site-site.ensures.kept.zone_is c.requires.rising c.in-Some.ensures.value
    c.day_on-day.ensures.day c.day_on-day.ensures.holds c.bounds-until.ensures.end c.split_at.ensures.front c.split_at.ensures.back
    c.count_before.ensures.front c.count_before.ensures.back)

pub loop-first-preserved : goal.loop-first-preserved
loop-first-preserved c =
    next c.args.self.now.station c.args.limit c.args.readings.now c.loop-first.rest.now c.day_on-day.result c.in-Some.first.now c.split_at.result.0.now c.split_at.result.1.now c.passes_on.result
    (a_step c.args.self.now.station c.args.limit c.args.readings.now c.loop-first.rest.now c.day_on-day.result c.bounds-until.result.1 c.count_before.result
    c.in-Some.first.now c.split_at.result.0.now c.split_at.result.1.now c.loop-first.invariant c.site-site.ensures.kept.zone_is c.requires.rising c.in-Some.ensures.value
    c.day_on-day.ensures.day c.day_on-day.ensures.holds c.bounds-until.ensures.end c.split_at.ensures.front c.split_at.ensures.back
    c.count_before.ensures.front c.count_before.ensures.back)
    c.site-site.ensures.kept.readings_are.rising c.passes_on.ensures c.if-passes_on.false

pub returns : goal.returns
returns c = all_told c.args.self.now.station c.args.limit c.args.readings.now c.loop-first.rest.now c.site-site.ensures.kept.readings_are.rising c.in_default.ensures.value c.loop-first.invariant
