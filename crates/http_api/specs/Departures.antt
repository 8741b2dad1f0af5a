-- The body for a field measurement: compact JSON, members in rising order of their names.
use Rattle.std.specs.Prelude.{ℕ, List, ◌++◌, codes, Option, Some, None, ℤ}
use Rattle.edits.specs.declared.measurements.Grade.{Grade}
use Rattle.edits.specs.declared.measurements.Grade.TheVariants.{Excellent, Good, Fair, Poor}
use Rattle.fixed_units.specs.PublishedText.{hundredths_text}
use Rattle.http_api.specs.JsonTexts.{micro_or_null}
use Rattle.measurements.specs.declared.departures.Departure.{Departure}

-- a number of hundredths with two decimals in quotes, or null
abbrev pub hundredths_or_null : Option ℤ → List ℕ
hundredths_or_null None = codes "null"
hundredths_or_null (Some hundredths) = codes "\"" ++ hundredths_text hundredths ++ codes "\""

-- the name of a grade, as in bodies of edits
abbrev pub grade_text : Grade → List ℕ
grade_text Excellent = codes "excellent"
grade_text Good = codes "good"
grade_text Fair = codes "fair"
grade_text Poor = codes "poor"

-- the departure in percent, and the grade
abbrev pub grade_members : Option ℤ → Grade → List ℕ
grade_members hundredths grade =
    codes "{\"departure\":" ++ hundredths_or_null hundredths ++ codes ",\"grade\":\"" ++ grade_text grade

-- the indicated shift and the rated discharge
abbrev pub rated_members : Option ℤ → Option ℤ → List ℕ
rated_members indicated rated =
    codes "\",\"indicated_shift\":" ++ micro_or_null indicated ++ codes ",\"rated\":" ++ micro_or_null rated ++ codes "}"

-- the body for a measurement
abbrev pub departure_text : Departure → List ℕ
departure_text departure = grade_members departure.hundredths departure.grade ++ rated_members departure.indicated departure.rated
