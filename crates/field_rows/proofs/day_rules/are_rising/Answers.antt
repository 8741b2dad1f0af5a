use Rattle.std.proofs.Common.{◌<ℤ◌, arith}
use Rattle.std.proofs.lemmas.Int.{ints}
use Rattle.daily_values.proofs.RisingLemmas.{rising-from_behind}
use Rattle.field_rows.proofs.day_rules.are_rising.Goals as goal

pub loop-rest-preserved : goal.loop-rest-preserved
loop-rest-preserved c = λ rising. let less : c.left-item.result.at <ℤ c.right-item.result.at = omega (arith, ints) in
    c.loop-rest.invariant (rising-from_behind c.loop-rest.rest.now c.left-item.result c.right-item.result c.in-len2-up.len_at_least c.left-item.is c.right-item.is less rising)
