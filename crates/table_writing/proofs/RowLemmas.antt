-- The rows of days, one after another, and what holds of them.
use Rattle.std.proofs.Common.{◌≡◌, refl, sym, ap, ◌∙◌, ℕ, ◌+◌, true, List, [], ◌∷◌, ◌++◌, map, Option, Some, None, is_some, ℤ, pos, ◌+ℤ◌, ◌-ℤ◌, ◌≤ℤ◌, ◌<ℤ◌, unsigned_abs, append-nil, append_assoc, arith}
use Rattle.std.specs.List.{flat_map}
use Rattle.std.proofs.lemmas.Int.{ints}
use Rattle.std.proofs.lemmas.List.{map-append}
use Rattle.depend.proofs.CalendarLemmas.{within_cons, within_none}
use Rattle.depend.specs.Compared.{count_of, days_within}
use Rattle.fixed_units.specs.Calendar.{days_from}
use Rattle.fixed_units.specs.Quantities.{IsDay, SiteNumber, first_day}
use Rattle.history.specs.Accepted.{stations_at}
use Rattle.history.specs.Awaited.{answer_by, awaited, value_at}
use Rattle.history.specs.Events.{Event}
use Rattle.history.specs.Statuses.{status_at}
use Rattle.office_inputs.specs.Stations.{station_of}
use Rattle.table_writing.specs.Answers.{row_at, row_by}
use Rattle.water_year.specs.Rows.{days_of, first_of, last_of}
use Rattle.water_year.specs.declared.rows.DailyRow.{DailyRow}

-- the rows that were gathered are those of the days before the next one
pub record AreGathered (rows_on : ℤ → List DailyRow) (first last next : ℤ) (rows : List DailyRow) : Type 0 where
  pub low : first_day ≤ℤ next
  pub rest : rows ++ flat_map rows_on (days_within next last) ≡ flat_map rows_on (days_within first last)

pub gathered_first : (rows_on : ℤ → List DailyRow) (first last next : ℤ) (rows : List DailyRow) → IsDay first → next ≡ first → rows ≡ []
    → AreGathered rows_on first last next rows
gathered_first rows_on first last next rows h e none =
    rw e (record { low = h.low; rest = ap (λ (x : List DailyRow). x ++ flat_map rows_on (days_within first last)) none })

pub gathered_next : (rows_on : ℤ → List DailyRow) (first last number next : ℤ) (rows more : List DailyRow) → number ≤ℤ last → next ≡ number +ℤ pos 1
    → more ≡ rows ++ rows_on number → AreGathered rows_on first last number rows → AreGathered rows_on first last next more
gathered_next rows_on first last number next rows more l e m h =
    let rest = flat_map rows_on (days_within (number +ℤ pos 1) last) in
    rw e (record {
      low = (let a = h.low in omega (arith, ints));
      rest =
          ap (λ (x : List DailyRow). x ++ rest) m
          ∙ append_assoc rows (rows_on number) rest
          ∙ ap (λ (days : List ℤ). rows ++ flat_map rows_on days) (sym (within_cons number last l))
          ∙ h.rest;
    })

pub gathered_last : (rows_on : ℤ → List DailyRow) (first last next : ℤ) (rows : List DailyRow) → last <ℤ next → AreGathered rows_on first last next rows
    → rows ≡ flat_map rows_on (days_within first last)
gathered_last rows_on first last next rows l h =
    sym (append-nil rows) ∙ ap (λ (days : List ℤ). rows ++ flat_map rows_on days) (sym (within_none next last l)) ∙ h.rest

-- ---- the days of the rows of a site that is kept

one_row : (events : List Event) (site : SiteNumber) (day : ℤ) → is_some (station_of (stations_at events) site) ≡ true
    → map (λ (row : DailyRow). row.day) (row_at events site day) ≡ day ∷ []
one_row events site day kept = rw kept (by (awaited events site day))
  where
    by : (edit : Option ℕ) → map (λ (row : DailyRow). row.day) (row_by day (status_at events site day) (answer_by edit (value_at events site day))) ≡ day ∷ []
    by None = refl
    by (Some edit) = refl

pub rows_days : (events : List Event) (site : SiteNumber) (days : List ℤ) → is_some (station_of (stations_at events) site) ≡ true
    → map (λ (row : DailyRow). row.day) (flat_map (row_at events site) days) ≡ days
rows_days events site [] kept = refl
rows_days events site (day ∷ days) kept =
    map-append (λ (row : DailyRow). row.day) (row_at events site day) (flat_map (row_at events site) days)
    ∙ rw (one_row events site day kept, rows_days events site days kept) refl

-- the days of a water year
pub year_days : (year : ℕ) → first_of year ≤ℤ last_of year → days_within (first_of year) (last_of year) ≡ days_of year
year_days year order = ap (days_from (first_of year)) (count (first_of year) (last_of year) order)
  where
    spans : (z : ℤ) (n : ℕ) → z ≡ pos n → count_of z ≡ n
    spans z n e = rw e refl

    count : (f l : ℤ) → f ≤ℤ l → count_of (l +ℤ pos 1 -ℤ f) ≡ unsigned_abs (l -ℤ f) + 1
    count f l h = spans (l +ℤ pos 1 -ℤ f) (unsigned_abs (l -ℤ f) + 1) (omega (arith, ints, h))
