-- The days of a water year and of its months, and what is told of them.
use Rattle.std.proofs.Common.{◌≡◌, refl, sym, ap, ◌∙◌, ℕ, ◌+◌, ◌-◌, ◌≤◌, Bool, true, false, cond, List, [], ◌∷◌, length, map, filter, find, All, Option, Some, None, ℤ, pos, neg_ℤ, ◌+ℤ◌, ◌-ℤ◌, ◌≤ℤ◌, unsigned_abs, arith}
use Rattle.std.specs.Option.{unwrap_or}
use Rattle.std.specs.List.{AllByRecursion}
use Rattle.std.proofs.lemmas.List.{length-map}
use Rattle.std.proofs.lemmas.List.Elements.{All-filter, All-from_recursion, All-head, All-map, All-same, All-tail, All-weaker}
use Rattle.jiff_core.specs.Calendar.{days_from_civil, days_in_month, days_in_year, days_of_months, day_count}
use Rattle.jiff_core.proofs.CalendarLemmas.{day_count-day_of_year, day_count-next_year, days_from_civil-day_count, days_in_month_bounds, days_in_year_bounds, days_of_months_all, days_of_months_mono, days_of_months_more, days_of_months_table}
use Rattle.jiff_core.proofs.DateLemmas.{days_from_civil-day}
use Rattle.jiff_core.proofs.MarchLemmas.{days_in_year-leap_day, leap_day}
use Rattle.jiff_core.proofs.SignedLemmas.{signed_arith}
use borrow.Author.Differences.{up, down}
use Rattle.fixed_units.specs.Calendar.{days_from}
use Rattle.fixed_units.specs.Quantities.{is_within, most_discharge}
use Rattle.fixed_units.specs.declared.published.Published.{Published}
use Rattle.fixed_units.proofs.CalendarLemmas.{length_from}
use Rattle.water_year.specs.Figures.{IsFigured}
use Rattle.water_year.specs.Rows.{AreRowsOf, IsCounted, IsSettled, IsWaterYear, days_of, first_of, is_in, last_of, millionths_of, months_of, values_of}
use Rattle.water_year.specs.Tables.{month_of, year_of}
use Rattle.water_year.specs.declared.rows.DailyRow.{DailyRow}
use Rattle.water_year.specs.declared.rows.RowState.{RowState}
use Rattle.water_year.specs.declared.rows.RowState.TheVariants as states
use Rattle.water_year.specs.declared.tables.Month.{Month}
use Rattle.water_year.proofs.DayLemmas.{days_kept, rows_kept}
use Rattle.water_year.proofs.SumLemmas.{total_within}

-- dates by their counts of days
by_counts : (f l : ℤ) (a b n : ℕ) → up f + 4_371_953 ≡ down f + a → up l + 4_371_953 ≡ down l + b → b + 1 ≡ a + n → l +ℤ pos 1 ≡ f +ℤ pos n
by_counts f l a b n first last count = omega (arith, signed_arith)

-- it has 365 days, and one more where its own calendar year is a leap year
counted : (b y : ℤ) → neg_ℤ (pos 10000) ≤ℤ b → y ≡ b +ℤ pos 1 → day_count y 9 30 + 1 ≡ day_count b 10 1 + days_in_year y
counted b y low next =
    let first : day_count b 10 1 + 1 ≡ day_count b 1 1 + (days_of_months b 9 + 1) = day_count-day_of_year b 10 1 (omega arith) in
    let last : day_count y 9 30 + 1 ≡ day_count y 1 1 + (days_of_months y 8 + 30) = day_count-day_of_year y 9 30 (omega arith) in
    let years : day_count y 1 1 ≡ day_count b 1 1 + days_in_year b = day_count-next_year b y low next in
    let october : days_of_months b 9 ≡ 273 + leap_day b = days_of_months_table b 9 (omega arith) in
    let september : days_of_months y 8 ≡ 243 + leap_day y = days_of_months_table y 8 (omega arith) in
    let own : days_in_year y ≡ 365 + leap_day y = days_in_year-leap_day y in
    let before : days_in_year b ≡ 365 + leap_day b = days_in_year-leap_day b in
    sums (day_count b 10 1) (day_count y 9 30) (day_count b 1 1) (day_count y 1 1) (days_of_months b 9) (days_of_months y 8) (days_in_year b) (days_in_year y) (leap_day b) (leap_day y)
    first last years october september own before
  where
    sums : (a z c d e f g h i j : ℕ) → a + 1 ≡ c + (e + 1) → z + 1 ≡ d + (f + 30) → d ≡ c + g → e ≡ 273 + i → f ≡ 243 + j → h ≡ 365 + j → g ≡ 365 + i
        → z + 1 ≡ a + h
    sums a z c d e f g h i j p q r s t u v = omega arith

pub year_long : (year : ℕ) → IsWaterYear year → last_of year +ℤ pos 1 ≡ first_of year +ℤ pos (days_in_year (pos year))
year_long year is =
    let from = is.first in
    by_counts _ _ _ _ _ (days_from_civil-day_count (pos year -ℤ pos 1) 10 1) (days_from_civil-day_count (pos year) 9 30)
    (counted (pos year -ℤ pos 1) (pos year) (omega (arith, signed_arith)) (omega (arith, signed_arith)))

-- its days in order
count_is : (f l : ℤ) (n : ℕ) → 1 ≤ n → l +ℤ pos 1 ≡ f +ℤ pos n → unsigned_abs (l -ℤ f) + 1 ≡ n
count_is f l n some e =
    let span : l -ℤ f ≡ pos (n - 1) = omega (arith, signed_arith) in
    let count : unsigned_abs (l -ℤ f) ≡ n - 1 = ap unsigned_abs span in
    omega (arith, count, some)

some_days : (y : ℤ) → 1 ≤ days_in_year y
some_days y = omega (arith, days_in_year_bounds y)

pub days_are : (year : ℕ) → IsWaterYear year → days_of year ≡ days_from (first_of year) (days_in_year (pos year))
days_are year is = ap (days_from (first_of year)) (count_is (first_of year) (last_of year) (days_in_year (pos year)) (some_days (pos year)) (year_long year is))

pub rows_long : (year : ℕ) (rows : List DailyRow) → IsWaterYear year → AreRowsOf year rows → length rows ≡ days_in_year (pos year)
rows_long year rows is h =
    sym (length-map rows (λ row. row.day)) ∙ ap length (h.days ∙ days_are year is) ∙ length_from (first_of year) (days_in_year (pos year))

pub rows_few : (year : ℕ) (rows : List DailyRow) → IsWaterYear year → AreRowsOf year rows → length rows ≤ 1000
rows_few year rows is h = omega (arith, rows_long year rows is h, days_in_year_bounds (pos year))

-- ---- its months

-- so many days of a water year come before a month, and so many behind it
pub record IsMonthIn (year : ℕ) (month : ℤ × ℕ) : Type 0 where
  pub before : ℕ
  pub behind : ℕ
  pub begins : days_from_civil month.0 month.1 1 ≡ first_of year +ℤ pos before
  pub ends : days_from_civil month.0 month.1 (days_in_month month.0 month.1) +ℤ pos 1 ≡ days_from_civil month.0 month.1 1 +ℤ pos (days_in_month month.0 month.1)
  pub whole : days_in_year (pos year) ≡ before + (days_in_month month.0 month.1 + behind)

-- by counts of days: of the first day of the water year and of the first of the month
placed : (f m : ℤ) (a b : ℕ) → up f + 4_371_953 ≡ down f + a → up m + 4_371_953 ≡ down m + b → a ≤ b → m ≡ f +ℤ pos (b - a)
placed f m a b first month order = omega (arith, signed_arith)

month_in : (year : ℕ) (y : ℤ) (m : ℕ) → let first = day_count (pos year -ℤ pos 1) 10 1 in first ≤ day_count y m 1
    → day_count y m 1 + days_in_month y m ≤ first + days_in_year (pos year) → IsMonthIn year (y, m)
month_in year y m after within = record {
  before = day_count y m 1 - day_count (pos year -ℤ pos 1) 10 1;
  behind = days_in_year (pos year) - (day_count y m 1 - day_count (pos year -ℤ pos 1) 10 1) - days_in_month y m;
  begins = placed _ _ _ _ (days_from_civil-day_count (pos year -ℤ pos 1) 10 1) (days_from_civil-day_count y m 1) after;
  ends = days_from_civil-day y m (days_in_month y m) 1 (some_in_month y m) (omega arith);
  whole = parts (days_in_year (pos year)) (day_count y m 1) (day_count (pos year -ℤ pos 1) 10 1) (days_in_month y m) after within;
}
  where
    some_in_month : (y : ℤ) (m : ℕ) → 1 ≤ days_in_month y m
    some_in_month y m = omega (arith, (days_in_month_bounds y m).1)

    parts : (n b a d : ℕ) → a ≤ b → b + d ≤ a + n → n ≡ b - a + (d + (n - (b - a) - d))
    parts n b a d h k = omega arith

-- the first of a month by the days of the months before it
first_count : (y : ℤ) (m : ℕ) → day_count y m 1 ≡ day_count y 1 1 + days_of_months y (m - 1)
first_count y m =
    let is : day_count y m 1 + 1 ≡ day_count y 1 1 + (days_of_months y (m - 1) + 1) = day_count-day_of_year y m 1 (omega arith) in
    omega (arith, is)

before_month : (year m : ℕ) → IsWaterYear year → 10 ≤ m → m ≤ 12 → IsMonthIn year (pos year -ℤ pos 1, m)
before_month year m is from until =
    let some = is.first in
    let b = pos year -ℤ pos 1 in
    let first : day_count b 10 1 ≡ day_count b 1 1 + days_of_months b 9 = first_count b 10 in
    let own = first_count b m in
    let order = days_of_months_mono b 9 (m - 1) (omega arith) in
    let more = days_of_months_more b m (omega arith) in
    let year_end : days_of_months b m ≤ days_in_year b = rw (days_of_months_all b) at (days_of_months_mono b m 12 until) in
    let next = day_count-next_year b (pos year) (omega (arith, signed_arith)) (omega (arith, signed_arith)) in
    let last : day_count (pos year) 9 30 + 1 ≡ day_count (pos year) 1 1 + (days_of_months (pos year) 8 + 30) = day_count-day_of_year (pos year) 9 30 (omega arith) in
    let long = counted b (pos year) (omega (arith, signed_arith)) (omega (arith, signed_arith)) in
    month_in year b m (omega (arith, first, own, order)) (omega (arith, own, more, year_end, next, last, long))

own_month : (year m : ℕ) → IsWaterYear year → 1 ≤ m → m ≤ 9 → IsMonthIn year (pos year, m)
own_month year m is from until =
    let some = is.first in
    let b = pos year -ℤ pos 1 in
    let first : day_count b 10 1 ≡ day_count b 1 1 + days_of_months b 9 = first_count b 10 in
    let own = first_count (pos year) m in
    let before : days_of_months b 9 ≤ days_in_year b = rw (days_of_months_all b) at (days_of_months_mono b 9 12 (omega arith)) in
    let more = days_of_months_more (pos year) m from in
    let order = days_of_months_mono (pos year) m 9 until in
    let september : days_of_months (pos year) 9 ≡ days_of_months (pos year) 8 + 30 = days_of_months_more (pos year) 9 (omega arith) in
    let next = day_count-next_year b (pos year) (omega (arith, signed_arith)) (omega (arith, signed_arith)) in
    let last : day_count (pos year) 9 30 + 1 ≡ day_count (pos year) 1 1 + (days_of_months (pos year) 8 + 30) = day_count-day_of_year (pos year) 9 30 (omega arith) in
    let long = counted b (pos year) (omega (arith, signed_arith)) (omega (arith, signed_arith)) in
    month_in year (pos year) m (omega (arith, first, own, before, next)) (omega (arith, own, more, order, september, last, long))

pub months_in : (year : ℕ) → IsWaterYear year → AllByRecursion (IsMonthIn year) (months_of year)
months_in year is = (
  before_month year 10 is (omega arith) (omega arith),
  (
    before_month year 11 is (omega arith) (omega arith),
    (
      before_month year 12 is (omega arith) (omega arith),
      (
        own_month year 1 is (omega arith) (omega arith),
        (
          own_month year 2 is (omega arith) (omega arith),
          (
            own_month year 3 is (omega arith) (omega arith),
            (
              own_month year 4 is (omega arith) (omega arith),
              (
                own_month year 5 is (omega arith) (omega arith),
                (
                  own_month year 6 is (omega arith) (omega arith),
                  (
                    own_month year 7 is (omega arith) (omega arith),
                    (
                      own_month year 8 is (omega arith) (omega arith),
                      (
                        own_month year 9 is (omega arith) (omega arith),
                        tt,
                      ),
                    ),
                  ),
                ),
              ),
            ),
          ),
        ),
      ),
    ),
  ),
)

-- the days of the rows of a month are those of the month
pub month_rows : (year : ℕ) (rows : List DailyRow) (month : ℤ × ℕ) → IsWaterYear year → AreRowsOf year rows → IsMonthIn year month
    → map (λ row. row.day) (filter (is_in month) rows) ≡ days_from (days_from_civil month.0 month.1 1) (days_in_month month.0 month.1)
month_rows year rows month is h part =
    let first = days_from_civil month.0 month.1 1 in
    let last = days_from_civil month.0 month.1 (days_in_month month.0 month.1) in
    let days : map (λ row. row.day) rows ≡ days_from (first_of year) (part.before + (days_in_month month.0 month.1 + part.behind)) =
    h.days ∙ days_are year is ∙ ap (days_from (first_of year)) part.whole in
    rows_kept (is_within first last) rows ∙ ap (filter (is_within first last)) days
    ∙ days_kept (first_of year) first last part.before (days_in_month month.0 month.1) part.behind part.begins part.ends

pub month_long : (year : ℕ) (rows : List DailyRow) (month : ℤ × ℕ) → IsWaterYear year → AreRowsOf year rows → IsMonthIn year month
    → length (filter (is_in month) rows) ≡ days_in_month month.0 month.1
month_long year rows month is h part =
    sym (length-map (filter (is_in month) rows) (λ row. row.day)) ∙ ap length (month_rows year rows month is h part)
    ∙ length_from (days_from_civil month.0 month.1 1) (days_in_month month.0 month.1)

-- ---- what is told of them

-- what is found among the values of settled rows is one of them, and 0 stands for none
found_within : (p : ℤ → Bool) (rows : List DailyRow) → All IsSettled rows → unsigned_abs (unwrap_or (find p (values_of rows)) (pos 0)) ≤ most_discharge
found_within p [] settled = omega arith
found_within p (row ∷ rows) settled =
    by row.state refl (All-head IsSettled row rows settled) (found_within p rows (All-tail IsSettled row rows settled))
  where
    tested : (v : Published) (b : Bool) → IsCounted v → unsigned_abs (unwrap_or (find p (values_of rows)) (pos 0)) ≤ most_discharge
        → unsigned_abs (unwrap_or (cond b (Some (millionths_of v)) (find p (values_of rows))) (pos 0)) ≤ most_discharge
    tested v true counted rest = counted.magnitude
    tested v false counted rest = rest

    by : (state : RowState) → row.state ≡ state → IsSettled row → unsigned_abs (unwrap_or (find p (values_of rows)) (pos 0)) ≤ most_discharge
        → unsigned_abs (unwrap_or (find p (values_of (row ∷ rows))) (pos 0)) ≤ most_discharge
    by (states.Pending edit) is here rest = absurd (rw is at here)
    by (states.Value v) is here rest = rw is (tested v (p (millionths_of v)) (rw is at here) rest)
    by states.Absent is here rest = rw is rest

pub figured : (rows : List DailyRow) → 1 ≤ length rows → length rows ≤ 1000 → All IsSettled rows → IsFigured (month_of rows)
figured rows some few settled = record {
  some = some;
  few = few;
  total = total_within rows settled;
  most = found_within _ rows settled;
  least = found_within _ rows settled;
}

month_figured : (year : ℕ) (rows : List DailyRow) → IsWaterYear year → AreRowsOf year rows → (month : ℤ × ℕ) → IsMonthIn year month
    → IsFigured (month_of (filter (is_in month) rows))
month_figured year rows is h month part =
    let long = month_long year rows month is h part in
    let bounds = days_in_month_bounds month.0 month.1 in
    figured (filter (is_in month) rows) (omega (arith, long, bounds.1)) (omega (arith, long, bounds.0)) (All-filter (is_in month) IsSettled rows h.settled)

pub months_figured : (year : ℕ) (rows : List DailyRow) (months : List Month) → IsWaterYear year → AreRowsOf year rows → months ≡ (year_of year rows).months
    → All IsFigured months
months_figured year rows months is h same =
    All-same IsFigured months (map (λ month. month_of (filter (is_in month) rows)) (months_of year)) same
    (All-map IsFigured (λ month. month_of (filter (is_in month) rows)) (months_of year)
    (All-weaker (IsMonthIn year) (λ month. IsFigured (month_of (filter (is_in month) rows))) (month_figured year rows is h) (months_of year)
    (All-from_recursion (IsMonthIn year) (months_of year) (months_in year is))))

pub whole_figured : (year : ℕ) (rows : List DailyRow) (whole : Month) → IsWaterYear year → AreRowsOf year rows → whole ≡ month_of rows → IsFigured whole
whole_figured year rows whole is h same =
    let long = rows_long year rows is h in
    rw same (figured rows (omega (arith, long, some_days (pos year))) (rows_few year rows is h) h.settled)
