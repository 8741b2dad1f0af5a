-- What holds of the figures of a month that has days.
use Rattle.std.specs.Prelude.{ℕ, ◌*◌, ◌≤◌, unsigned_abs}
use Rattle.fixed_units.specs.Quantities.{most_discharge}
use Rattle.water_year.specs.declared.tables.Month.{Month}

-- a month of at least one day, with a total and extremes of discharges of at most 10,000,000 cubic feet per second either way
pub record IsFigured (month : Month) : Type 0 where
  pub some : 1 ≤ month.days
  pub few : month.days ≤ 1000
  pub total : unsigned_abs month.total ≤ month.days * most_discharge
  pub most : unsigned_abs month.most ≤ most_discharge
  pub least : unsigned_abs month.least ≤ most_discharge
