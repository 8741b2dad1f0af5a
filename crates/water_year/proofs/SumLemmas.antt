-- The sums of rows with one more behind them, and how far they go.
use Rattle.std.proofs.Common.{◌≡◌, refl, sym, ap, ◌∙◌, ℕ, ◌+◌, ◌*◌, ◌^◌, ◌≤◌, ◌<◌, cond, Bool, List, [], ◌∷◌, ◌++◌, length, length-take, take, filter, count_by, Option, Some, None, ℤ, pos, ◌+ℤ◌, unsigned_abs, w64, to_z, of_z, arith, append-nil, length-append, All}
use Rattle.std.proofs.lemmas.Int.{ints}
use Rattle.std.proofs.lemmas.List.Elements.{All-filter, All-head, All-tail, All-take, filter_map-append}
use Rattle.std.proofs.lemmas.List.Sums.{count_by-le-length, length-filter, sum_by-append}
use Rattle.fixed_units.specs.Quantities.{most_discharge}
use Rattle.fixed_units.specs.declared.published.Published.{Published}
use Rattle.water_year.specs.Rows.{IsSettled, is_missing, millionths_of, value_of, values_of}
use Rattle.water_year.specs.Sums.{sums_of}
use Rattle.water_year.specs.Tables.{greatest, least, sum_of}
use Rattle.water_year.specs.declared.rows.DailyRow.{DailyRow}
use Rattle.water_year.specs.declared.rows.RowState.{RowState}
use Rattle.water_year.specs.declared.rows.RowState.TheVariants as states
use Rattle.water_year.specs.declared.sums.Sums.{Sums}

-- one number more
pub sum_push : (ns : List ℤ) (v : ℤ) → sum_of (ns ++ v ∷ []) ≡ sum_of ns +ℤ v
sum_push [] v = omega (arith, ints)
sum_push (n ∷ ns) v = let rest = sum_push ns v in omega (arith, ints, rest)

-- the sum without its bits
pub total_bits : (t v : ℤ) → unsigned_abs t ≤ 10 ^ 18 → unsigned_abs v ≤ most_discharge
    → to_z w64 (of_z w64 (to_z w64 (of_z w64 t) +ℤ to_z w64 (of_z w64 v))) ≡ t +ℤ v
total_bits t v h k = omega (arith, ints, h, k)

-- one row more
values_with : (rows : List DailyRow) (row : DailyRow) (v : Published) → row.state ≡ states.Value v
    → values_of (rows ++ row ∷ []) ≡ values_of rows ++ millionths_of v ∷ []
values_with rows row v is = filter_map-append value_of rows (row ∷ []) ∙ rw is refl

values_without : (rows : List DailyRow) (row : DailyRow) → row.state ≡ states.Absent → values_of (rows ++ row ∷ []) ≡ values_of rows
values_without rows row is = filter_map-append value_of rows (row ∷ []) ∙ rw is (append-nil (values_of rows))

missing_with : (rows : List DailyRow) (row : DailyRow) → count_by is_missing (rows ++ row ∷ []) ≡ count_by is_missing rows + count_by is_missing (row ∷ [])
missing_with rows row = sum_by-append (λ r. cond (is_missing r) 1 0) rows (row ∷ [])

pub sums_with : (rows : List DailyRow) (row : DailyRow) (v : Published) → row.state ≡ states.Value v → sums_of (rows ++ row ∷ []) ≡ record {
  days = length rows + 1;
  missing = count_by is_missing rows;
  total = sum_of (values_of rows ++ millionths_of v ∷ []);
  most = greatest (values_of rows ++ millionths_of v ∷ []);
  least = least (values_of rows ++ millionths_of v ∷ []);
}
sums_with rows row v is =
    let here : count_by is_missing (row ∷ []) ≡ 0 = rw is refl in
    let missing : count_by is_missing (rows ++ row ∷ []) ≡ count_by is_missing rows = omega (arith, missing_with rows row, here) in
    rw (values_with rows row v is, missing, length-append rows (row ∷ [])) refl

pub sums_without : (rows : List DailyRow) (row : DailyRow) → row.state ≡ states.Absent → sums_of (rows ++ row ∷ []) ≡ record {
  days = length rows + 1;
  missing = count_by is_missing rows + 1;
  total = sum_of (values_of rows);
  most = greatest (values_of rows);
  least = least (values_of rows);
}
sums_without rows row is =
    let here : count_by is_missing (row ∷ []) ≡ 1 = rw is refl in
    let missing : count_by is_missing (rows ++ row ∷ []) ≡ count_by is_missing rows + 1 = omega (arith, missing_with rows row, here) in
    rw (values_without rows row is, missing, length-append rows (row ∷ [])) refl

-- settled rows have values of at most 10,000,000 cubic feet per second either way
pub total_within : (rows : List DailyRow) → All IsSettled rows → unsigned_abs (sum_of (values_of rows)) ≤ length rows * most_discharge
total_within [] settled = omega arith
total_within (row ∷ rows) settled =
    by row.state refl (All-head IsSettled row rows settled) (total_within rows (All-tail IsSettled row rows settled))
  where
    by : (state : RowState) → row.state ≡ state → IsSettled row → unsigned_abs (sum_of (values_of rows)) ≤ length rows * most_discharge
        → unsigned_abs (sum_of (values_of (row ∷ rows))) ≤ length (row ∷ rows) * most_discharge
    by (states.Pending edit) is here rest = absurd (rw is at here)
    by (states.Value v) is here rest =
        let counted = rw is at here in
        let bound = counted.magnitude in
        rw is (omega (arith, ints, bound, rest))
    by states.Absent is here rest = rw is (omega (arith, rest))

-- no more days are missing than there are
pub missing_within : (rows : List DailyRow) → count_by is_missing rows ≤ length rows
missing_within rows = count_by-le-length is_missing rows

-- the sums of a part of at most a thousand settled rows leave room for more
pub record HasRoom (sums : Sums) : Type 0 where
  pub days : sums.days < 2 ^ 31
  pub missing : sums.missing ≤ sums.days
  pub total : unsigned_abs sums.total ≤ 10 ^ 18

pub sums_have_room : (rows : List DailyRow) (sums : Sums) → sums ≡ sums_of rows → length rows ≤ 1000 → All IsSettled rows → HasRoom sums
sums_have_room rows sums is few settled =
    let total = total_within rows settled in
    let missing = missing_within rows in
    rw is (record { days = omega (arith, few); missing = missing; total = omega (arith, few, total) })

pub part_has_room : (rows : List DailyRow) (i : ℕ) (sums : Sums) → sums ≡ sums_of (take i rows) → length rows ≤ 1000 → All IsSettled rows → HasRoom sums
part_has_room rows i sums is few settled =
    sums_have_room (take i rows) sums is (omega (arith, few, length-take i rows)) (All-take IsSettled i rows settled)

pub kept_has_room : (p : DailyRow → Bool) (rows : List DailyRow) (i : ℕ) (sums : Sums) → sums ≡ sums_of (filter p (take i rows)) → length rows ≤ 1000
    → All IsSettled rows → HasRoom sums
kept_has_room p rows i sums is few settled =
    let less : length (filter p (take i rows)) ≤ length (take i rows) = omega (arith, length-filter p (take i rows), count_by-le-length p (take i rows)) in
    sums_have_room (filter p (take i rows)) sums is (omega (arith, few, less, length-take i rows))
    (All-filter p IsSettled (take i rows) (All-take IsSettled i rows settled))
