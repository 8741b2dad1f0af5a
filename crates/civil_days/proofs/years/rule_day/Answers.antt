use Rattle.std.proofs.Common.{rules}
use Rattle.jiff_tz.specs.PosixRule.{rule_day}
use Rattle.civil_days.proofs.years.rule_day.Goals as goal

pub returns-then-number-days_in_year : goal.returns-then-number-days_in_year
unfolding rule_day
returns-then-number-days_in_year c = search rules

pub returns-after-is_leap_year : goal.returns-after-is_leap_year
unfolding rule_day
returns-after-is_leap_year c =
    let first = c.args.year.is.first_is in
    let low = c.args.year.is.low in
    let high = c.args.year.is.high in
    search rules

pub returns-else-number-days_in_year : goal.returns-else-number-days_in_year
unfolding rule_day
returns-else-number-days_in_year c =
    let first = c.args.year.is.first_is in
    let low = c.args.year.is.low in
    let high = c.args.year.is.high in
    search rules

pub returns-in-WeekdayOfMonth : goal.returns-in-WeekdayOfMonth
unfolding rule_day
returns-in-WeekdayOfMonth c = search rules
