-- The text that is shown as the sheet of a day.
use Rattle.std.specs.Prelude.{◌≡◌, ◌⊎◌, ℕ, false, List, Option, Some, None, ℤ}
use Rattle.daily_values.specs.declared.day_values.DayValue.{DayValue}
use Rattle.fixed_units.specs.Quantities.{SiteNumber}
use Rattle.sheets.specs.Sheets.{sheet}

-- it is the text that is kept of an approved day, or where none is kept the sheet of this value, which is not approved
abbrev pub IsKeptOrMade : SiteNumber → ℤ → Option (List ℕ) → DayValue → List ℕ → Type 0
IsKeptOrMade site day stored value text = (stored ≡ Some text) ⊎ ((stored ≡ None) × (text ≡ sheet site day value false))
