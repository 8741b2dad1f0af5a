-- The rows of a water year of which no day is pending.
use Rattle.std.proofs.Common.{◌≡◌, refl, ℕ, List, [], ◌∷◌, All, None, pos, ◌≤ℤ◌, arith}
use Rattle.std.proofs.lemmas.Int.{ints}
use Rattle.std.proofs.lemmas.List.Elements.{All-cons, All-head, All-nil, All-tail}
use Rattle.jiff_core.proofs.CalendarLemmas.{days_in_year_bounds}
use Rattle.table_writing.specs.Counted.{IsCountedOrNone}
use Rattle.table_writing.specs.Texts.{first_pending}
use Rattle.water_year.specs.Rows.{IsSettled, IsWaterYear, first_of, last_of}
use Rattle.water_year.specs.declared.rows.DailyRow.{DailyRow}
use Rattle.water_year.specs.declared.rows.RowState.{RowState}
use Rattle.water_year.specs.declared.rows.RowState.TheVariants as states
use Rattle.water_year.proofs.YearLemmas.{year_long}

pub settled_rows : (rows : List DailyRow) → None ≡ first_pending rows → All IsCountedOrNone rows → All IsSettled rows
settled_rows [] none counted = All-nil IsSettled
settled_rows (row ∷ rows) none counted =
    by row.state refl none (All-head IsCountedOrNone row rows counted) (λ rest. settled_rows rows rest (All-tail IsCountedOrNone row rows counted))
  where
    by : (state : RowState) → row.state ≡ state → None ≡ first_pending (row ∷ rows) → IsCountedOrNone row → (None ≡ first_pending rows → All IsSettled rows)
        → All IsSettled (row ∷ rows)
    by (states.Pending edit) is none here rest = let told = rw is at none in absurd (cc)
    by (states.Value discharge) is none here rest = All-cons IsSettled row rows (rw is (rw is at here)) (rest (rw is at none))
    by states.Absent is none here rest = All-cons IsSettled row rows (rw is tt) (rest (rw is at none))

-- a water year begins before it ends
pub begins_first : (year : ℕ) → IsWaterYear year → first_of year ≤ℤ last_of year
begins_first year is =
    let long = year_long year is in
    let some = (days_in_year_bounds (pos year)).1 in
    omega (arith, ints, long, some)
