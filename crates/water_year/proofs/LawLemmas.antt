-- The days of the months, and their totals.
use Rattle.std.proofs.Common.{◌≡◌, refl, sym, ap, ◌∙◌, ℕ, zero, suc, ◌+◌, ◌-◌, ◌≤◌, Bool, true, false, cond, List, [], ◌∷◌, length, map, filter, count_by, All, ℤ, pos, neg_ℤ, ◌+ℤ◌, ◌-ℤ◌, ◌≤ℤ◌, arith}
use Rattle.std.specs.List.{AllByRecursion}
use Rattle.std.proofs.lemmas.Int.{by_lt_z, ints}
use Rattle.std.proofs.lemmas.List.Elements.{All-head, All-tail}
use Rattle.std.proofs.lemmas.List.Sums.{sum_by-cons}
use Rattle.fixed_units.specs.Calendar.{days_from}
use Rattle.fixed_units.specs.Quantities.{is_within}
use Rattle.fixed_units.specs.declared.published.Published.{Published}
use Rattle.jiff_core.specs.Calendar.{days_from_civil, days_in_month, days_in_year}
use Rattle.jiff_core.proofs.CalendarLemmas.{days_in_month_bounds}
use Rattle.jiff_core.proofs.DateLemmas.{days_from_civil-day, days_from_civil-next_month, days_from_civil-next_year}
use Rattle.water_year.specs.Rows.{AreRowsOf, IsSettled, IsWaterYear, days_of, first_of, is_from, is_in, is_missing, last_of, millionths_of, months_of, values_of}
use Rattle.water_year.specs.Tables.{month_of, sum_of, year_of}
use Rattle.water_year.specs.declared.rows.DailyRow.{DailyRow}
use Rattle.water_year.specs.declared.rows.RowState.{RowState}
use Rattle.water_year.specs.declared.rows.RowState.TheVariants as states
use Rattle.water_year.specs.declared.tables.Month.{Month}
use Rattle.water_year.proofs.DayLemmas.{within_early, within_late, within_yes}
use Rattle.water_year.proofs.YearLemmas.{IsMonthIn, days_are, month_long, months_in, year_long}

-- ---- the days

lengths : (year : ℕ) (rows : List DailyRow) (months : List (ℤ × ℕ)) → IsWaterYear year → AreRowsOf year rows → AllByRecursion (IsMonthIn year) months
    → map (λ (m : Month). m.days) (map (λ month. month_of (filter (is_in month) rows)) months) ≡ map (λ month. days_in_month month.0 month.1) months
lengths year rows [] is h parts = refl
lengths year rows (month ∷ months) is h parts = rw (month_long year rows month is h parts.0, lengths year rows months is h parts.1) refl

pub months_long : (year : ℕ) (rows : List DailyRow) → IsWaterYear year → AreRowsOf year rows
    → map (λ (m : Month). m.days) (year_of year rows).months ≡ map (λ month. days_in_month month.0 month.1) (months_of year)
months_long year rows is h = lengths year rows (months_of year) is h (months_in year is)

pub values_or_missing : (rows : List DailyRow) → All IsSettled rows → length (values_of rows) + count_by is_missing rows ≡ length rows
values_or_missing [] settled = refl
values_or_missing (row ∷ rows) settled =
    by row.state refl (All-head IsSettled row rows settled) (values_or_missing rows (All-tail IsSettled row rows settled))
    (sum_by-cons (λ r. cond (is_missing r) 1 0) row rows)
  where
    by : (state : RowState) → row.state ≡ state → IsSettled row → length (values_of rows) + count_by is_missing rows ≡ length rows
        → count_by is_missing (row ∷ rows) ≡ cond (is_missing row) 1 0 + count_by is_missing rows
        → length (values_of (row ∷ rows)) + count_by is_missing (row ∷ rows) ≡ length (row ∷ rows)
    by (states.Pending edit) is here rest step = absurd (rw is at here)
    by (states.Value v) is here rest step =
        let none : ◌≡◌ {A = ℕ} (cond (is_missing row) 1 0) 0 = rw is refl in
        let more : count_by is_missing (row ∷ rows) ≡ count_by is_missing rows = omega (arith, step, none) in
        rw (more, is) (omega (arith, rest))
    by states.Absent is here rest step =
        let one : ◌≡◌ {A = ℕ} (cond (is_missing row) 1 0) 1 = rw is refl in
        let more : count_by is_missing (row ∷ rows) ≡ 1 + count_by is_missing rows = omega (arith, step, one) in
        rw (more, is) (omega (arith, rest))

-- ---- the totals

-- the total of the rows from one day to another
abbrev total_from : ℤ → ℤ → List DailyRow → ℤ
total_from first last rows = sum_of (values_of (filter (is_from first last) rows))

-- what a row adds to a total
abbrev added_in : RowState → ℤ
added_in (states.Pending edit) = pos 0
added_in (states.Value v) = millionths_of v
added_in states.Absent = pos 0

one_more : (row : DailyRow) (rows : List DailyRow) (b : Bool)
    → sum_of (values_of (cond b (row ∷ rows) rows)) ≡ cond b (added_in row.state) (pos 0) +ℤ sum_of (values_of rows)
one_more row rows false = omega (arith, ints)
one_more row rows true = by row.state refl
  where
    by : (state : RowState) → row.state ≡ state → sum_of (values_of (row ∷ rows)) ≡ added_in row.state +ℤ sum_of (values_of rows)
    by (states.Pending edit) is = rw is (omega (arith, ints))
    by (states.Value v) is = rw is refl
    by states.Absent is = rw is (omega (arith, ints))

-- a day is on one side of another
one_side : (f m l d c : ℤ) → f ≤ℤ (m +ℤ pos 1) → m ≤ℤ l
    → cond (is_within f m d) c (pos 0) +ℤ cond (is_within (m +ℤ pos 1) l d) c (pos 0) ≡ cond (is_within f l d) c (pos 0)
one_side f m l d c h k =
    by_lt_z d f
    (λ early. rw (within_early f m d early, within_early (m +ℤ pos 1) l d (omega (arith, ints, early, h)), within_early f l d early) refl)
    (λ from. by_lt_z m d
    (λ behind. by_lt_z l d
    (λ late. rw (within_late f m d behind, within_late (m +ℤ pos 1) l d late, within_late f l d late) refl)
    (λ until. rw (within_late f m d behind, within_yes (m +ℤ pos 1) l d (omega (arith, ints, behind)) until, within_yes f l d from until) (omega (arith, ints))))
    (λ until. rw (within_yes f m d from until, within_early (m +ℤ pos 1) l d (omega (arith, ints, until)), within_yes f l d from (omega (arith, ints, until, k))) (omega (arith, ints))))

both_sides : (f m l : ℤ) (rows : List DailyRow) → f ≤ℤ (m +ℤ pos 1) → m ≤ℤ l
    → total_from f m rows +ℤ total_from (m +ℤ pos 1) l rows ≡ total_from f l rows
both_sides f m l [] h k = refl
both_sides f m l (row ∷ rows) h k =
    let c = added_in row.state in
    joined (total_from f m (row ∷ rows)) (total_from (m +ℤ pos 1) l (row ∷ rows)) (total_from f l (row ∷ rows))
    (cond (is_within f m row.day) c (pos 0)) (cond (is_within (m +ℤ pos 1) l row.day) c (pos 0)) (cond (is_within f l row.day) c (pos 0))
    (total_from f m rows) (total_from (m +ℤ pos 1) l rows) (total_from f l rows)
    (one_more row (filter (is_from f m) rows) (is_within f m row.day))
    (one_more row (filter (is_from (m +ℤ pos 1) l) rows) (is_within (m +ℤ pos 1) l row.day))
    (one_more row (filter (is_from f l) rows) (is_within f l row.day))
    (one_side f m l row.day (added_in row.state) h k) (both_sides f m l rows h k)
  where
    joined : (x y z a b c p q r : ℤ) → x ≡ a +ℤ p → y ≡ b +ℤ q → z ≡ c +ℤ r → a +ℤ b ≡ c → p +ℤ q ≡ r → x +ℤ y ≡ z
    joined x y z a b c p q r hx hy hz hc hr = omega (arith, ints, hx, hy, hz, hc, hr)

none_from : (l : ℤ) (rows : List DailyRow) → total_from (l +ℤ pos 1) l rows ≡ pos 0
none_from l [] = refl
none_from l (row ∷ rows) = rw (outside row.day) (none_from l rows)
  where
    outside : (d : ℤ) → is_within (l +ℤ pos 1) l d ≡ false
    outside d = by_lt_z l d (λ late. within_late (l +ℤ pos 1) l d late) (λ early. within_early (l +ℤ pos 1) l d (omega (arith, ints, early)))

-- months one behind another from one day to another
abbrev first_in : ℤ × ℕ → ℤ
first_in month = days_from_civil month.0 month.1 1

abbrev last_in : ℤ × ℕ → ℤ
last_in month = days_from_civil month.0 month.1 (days_in_month month.0 month.1)

abbrev AreBehind : ℤ → List (ℤ × ℕ) → ℤ → Type 0
AreBehind first [] last = first ≡ last +ℤ pos 1
AreBehind first (month ∷ months) last = (first_in month ≡ first) × AreBehind (last_in month +ℤ pos 1) months last

in_order : (months : List (ℤ × ℕ)) (first last : ℤ) → AreBehind first months last → first ≤ℤ (last +ℤ pos 1)
in_order [] first last behind = omega (arith, ints, behind)
in_order (month ∷ months) first last behind =
    let rest = in_order months (last_in month +ℤ pos 1) last behind.1 in
    let long = days_from_civil-day month.0 month.1 (days_in_month month.0 month.1) 1 (omega (arith, (days_in_month_bounds month.0 month.1).1)) (omega arith) in
    omega (arith, ints, rest, long, behind.0)

totals : (rows : List DailyRow) (months : List (ℤ × ℕ)) (first last : ℤ) → AreBehind first months last
    → sum_of (map (λ (m : Month). m.total) (map (λ month. month_of (filter (is_in month) rows)) months)) ≡ total_from first last rows
totals rows [] first last behind = rw behind (sym (none_from last rows))
totals rows (month ∷ months) first last behind =
    let rest = totals rows months (last_in month +ℤ pos 1) last behind.1 in
    let order = in_order months (last_in month +ℤ pos 1) last behind.1 in
    let long = days_from_civil-day month.0 month.1 (days_in_month month.0 month.1) 1 (omega (arith, (days_in_month_bounds month.0 month.1).1)) (omega arith) in
    let own : first ≤ℤ (last_in month +ℤ pos 1) = omega (arith, ints, long, behind.0) in
    ap (λ (n : ℤ). total_from (first_in month) (last_in month) rows +ℤ n) rest
    ∙ ap (λ (d : ℤ). total_from d (last_in month) rows +ℤ total_from (last_in month +ℤ pos 1) last rows) behind.0
    ∙ both_sides first (last_in month) last rows own (omega (arith, ints, order))

-- the months of a water year are
next_month : (y : ℤ) (m : ℕ) → 1 ≤ m → days_from_civil y (m + 1) 1 ≡ days_from_civil y m (days_in_month y m) +ℤ pos 1
next_month y m some = days_from_civil-next_month y m (days_in_month y m) some refl

months_behind : (year : ℕ) → IsWaterYear year → AreBehind (first_of year) (months_of year) (last_of year)
months_behind year is = (
  refl,
  (
    next_month (pos year -ℤ pos 1) 10 (omega arith),
    (
      next_month (pos year -ℤ pos 1) 11 (omega arith),
      (
        january,
        (
          next_month (pos year) 1 (omega arith),
          (
            next_month (pos year) 2 (omega arith),
            (
              next_month (pos year) 3 (omega arith),
              (
                next_month (pos year) 4 (omega arith),
                (
                  next_month (pos year) 5 (omega arith),
                  (
                    next_month (pos year) 6 (omega arith),
                    (
                      next_month (pos year) 7 (omega arith),
                      (
                        next_month (pos year) 8 (omega arith),
                        refl,
                      ),
                    ),
                  ),
                ),
              ),
            ),
          ),
        ),
      ),
    ),
  ),
)
  where
    january : days_from_civil (pos year) 1 1 ≡ days_from_civil (pos year -ℤ pos 1) 12 31 +ℤ pos 1
    january =
        let some = is.first in
        let low : neg_ℤ (pos 10000) ≤ℤ (pos year -ℤ pos 1) = omega (arith, ints) in
        let next : pos year ≡ (pos year -ℤ pos 1) +ℤ pos 1 = omega (arith, ints) in
        days_from_civil-next_year (pos year -ℤ pos 1) (pos year) low next

-- all rows of a water year
all_from : (f l : ℤ) (rows : List DailyRow) (d : ℤ) (n : ℕ) → map (λ (row : DailyRow). row.day) rows ≡ days_from d n → f ≤ℤ d → (d +ℤ pos n) ≤ℤ (l +ℤ pos 1)
    → filter (is_from f l) rows ≡ rows
unfolding days_from
all_from f l [] d n e h k = refl
all_from f l (row ∷ rows) d zero e h k = absurd (cc)
all_from f l (row ∷ rows) d (suc n) e h k =
    let day : row.day ≡ d = cc in
    let rest : map (λ (r : DailyRow). r.day) rows ≡ days_from (d +ℤ pos 1) n = cc in
    let inside : is_within f l row.day ≡ true = within_yes f l row.day (omega (arith, ints, day, h)) (omega (arith, ints, day, k)) in
    rw inside (ap (λ (l : List DailyRow). row ∷ l) (all_from f l rows (d +ℤ pos 1) n rest (omega (arith, ints, h)) (omega (arith, ints, k))))

pub year_total : (year : ℕ) (rows : List DailyRow) → IsWaterYear year → AreRowsOf year rows
    → sum_of (map (λ (m : Month). m.total) (year_of year rows).months) ≡ (year_of year rows).whole.total
year_total year rows is h =
    let long = year_long year is in
    totals rows (months_of year) (first_of year) (last_of year) (months_behind year is)
    ∙ ap (λ (l : List DailyRow). sum_of (values_of l))
    (all_from (first_of year) (last_of year) rows (first_of year) (days_in_year (pos year)) (h.days ∙ days_are year is) (omega (arith, ints)) (omega (arith, ints, long)))
