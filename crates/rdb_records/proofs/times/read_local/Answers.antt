-- A day and a clock are read.
use Rattle.std.proofs.Common.{◌≡◌, arith, w32, FitsSigned}
use Rattle.std.proofs.lemmas.Int.{ints, to_z-of_z}
use Rattle.civil_days.proofs.SpellingLemmas.{moment_is}
use Rattle.rdb_records.proofs.TimeLemmas.{local_from}
use Rattle.rdb_records.proofs.times.read_local.Goals as goal

pub returns-clause-value : goal.returns-clause-value
returns-clause-value c =
    let low = c.get.ensures.range.low in
    let high = c.get.ensures.range.high in
    let same = c.get.ensures.value in
    let fits : FitsSigned w32 c.in_ok-day.day = omega (arith, ints) in
    let day : c.from.result ≡ c.in_ok-day.day = rw (same, to_z-of_z w32 c.in_ok-day.day fits) at c.from.ensures in
    rw (day, c.from-2.ensures, moment_is c.in_ok-day.day c.in_ok-second.second (omega (arith, ints)) (omega (arith, ints)) c.in_ok-second.ensures.bound)
    (local_from c.args.text.now c.in_ok-day.day c.in_ok-second.second c.if-text-ne16.false c.in_ok-day.ensures c.in_ok-second.ensures.value)
