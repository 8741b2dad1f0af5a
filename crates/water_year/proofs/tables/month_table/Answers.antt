use Rattle.std.proofs.Common.{◌≡◌, refl, ap, ◌∙◌, ℕ, ℤ, pos, filter, take, List, to_z, w16, arith}
use Rattle.std.proofs.lemmas.Int.{ints}
use Rattle.std.proofs.lemmas.List.{take_all}
use Rattle.jiff_core.specs.Calendar.{days_from_civil, days_in_month}
use Rattle.water_year.specs.Rows.{is_from, is_in}
use Rattle.water_year.specs.Sums.{sums_of}
use Rattle.water_year.specs.Tables.{month_of}
use Rattle.water_year.specs.declared.rows.DailyRow.{DailyRow}
use Rattle.water_year.proofs.SumLemmas.{kept_has_room}
use Rattle.water_year.proofs.tables.month_table.Goals as goal

-- the rows from the first to the last day of a month are those of the month
of_month : (first last year : ℤ) (month : ℕ) (rows : List DailyRow) → first ≡ days_from_civil year month 1
    → last ≡ days_from_civil year month (days_in_month year month)
    → month_of (filter (is_from first last) rows) ≡ month_of (filter (is_in (year, month)) rows)
of_month first last year month rows begins ends = rw (begins, ends) refl

pub add_from-requires-clause-days : goal.add_from-requires-clause-days
add_from-requires-clause-days c =
    (kept_has_room (is_from c.day_number-first.result c.day_number-last.result) c.args.rows.now c.loop-row.row-index c.loop-row.sums c.loop-row.invariant c.requires.few c.requires.settled).days

pub add_from-requires-clause-missing : goal.add_from-requires-clause-missing
add_from-requires-clause-missing c =
    (kept_has_room (is_from c.day_number-first.result c.day_number-last.result) c.args.rows.now c.loop-row.row-index c.loop-row.sums c.loop-row.invariant c.requires.few c.requires.settled).missing

pub add_from-requires-clause-total : goal.add_from-requires-clause-total
add_from-requires-clause-total c =
    (kept_has_room (is_from c.day_number-first.result c.day_number-last.result) c.args.rows.now c.loop-row.row-index c.loop-row.sums c.loop-row.invariant c.requires.few c.requires.settled).total

pub returns : goal.returns
returns c =
    let first = c.day_number-first.result in
    let last = c.day_number-last.result in
    let all : take c.loop-row.row-index c.args.rows.now ≡ c.args.rows.now = take_all c.loop-row.row-index c.args.rows.now c.loop-row-test.false in
    let sums = c.loop-row.invariant ∙ ap (λ (rows : List DailyRow). sums_of (filter (is_from first last) rows)) all in
    let year : to_z w16 c.args.year ≡ pos c.args.year = omega (arith, ints, c.requires.last) in
    let long = c.days_in_month.ensures.value ∙ ap (λ (y : ℤ). days_in_month y c.args.month) year in
    c.month.ensures (filter (is_from first last) c.args.rows.now) sums
    ∙ of_month first last (pos c.args.year) c.args.month c.args.rows.now c.day_number-first.ensures
    (c.day_number-last.ensures ∙ ap (days_from_civil (pos c.args.year) c.args.month) long)
