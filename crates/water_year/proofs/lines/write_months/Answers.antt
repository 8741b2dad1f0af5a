-- Month after month is added, in order.
use Rattle.std.proofs.Common.{◌≡◌, ◌<◌, length, rules, arith}
use Rattle.fixed_units.proofs.PublishedLemmas.{front-kept}
use Rattle.water_year.proofs.TextLemmas.{months_more, on_err}
use Rattle.water_year.proofs.lines.write_months.Goals as goal

pub returns-in_err-write_month-clause-err : goal.returns-in_err-write_month-clause-err
returns-in_err-write_month-clause-err c =
    on_err c.from_residual.result
    (front-kept c.args.out.now c.loop-place.out c.write_month.new.out _ c.loop-place.invariant c.in_err-write_month.ensures.err)

pub loop-place-preserved : goal.loop-place-preserved
loop-place-preserved c =
    let within : c.loop-place.place < 12 = search rules in
    let long : length c.args.months.now ≡ 12 = search rules in
    months_more c.args.array.now c.args.months.now c.loop-place.place c.args.out.now c.loop-place.out c.write_month.new.out c.month_name.result.now _
    within long c.month_name.ensures c.loop-place.invariant c.in_ok-write_month.ensures.ok
