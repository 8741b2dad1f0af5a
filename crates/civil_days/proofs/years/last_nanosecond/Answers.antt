use Rattle.std.proofs.Common.{arith}
use Rattle.jiff_core.proofs.CalendarLemmas.{days_in_year_bounds}
use Rattle.jiff_core.proofs.SignedLemmas.{signed_casts}
use Rattle.civil_days.proofs.years.last_nanosecond.Goals as goal

pub returns-clause-bound : goal.returns-clause-bound
returns-clause-bound c =
    let low = c.args.year.is.low in
    let high = c.args.year.is.high in
    let next = c.args.year.is.next_is in
    let days = (days_in_year_bounds c.args.year.number).1 in
    (omega (arith, signed_casts, c.from.ensures), omega (arith, signed_casts, c.from.ensures))
