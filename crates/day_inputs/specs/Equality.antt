-- When the inputs of two days are equal: member by member.
use Rattle.std.specs.Prelude.{Bool, true, false, ◌&&◌, ◌==◌, bytes_eq, List, Option, Some, None, ℕ, ℤ}
use Rattle.std.specs.Ordering.{int_eq}
use Rattle.editions.specs.Covers.{same_least}
use Rattle.readings.specs.Equality.{same_readings}
use Rattle.curves.specs.declared.entries.Entry.{Entry}
use Rattle.curves.specs.Corrections.{Corrections}
use Rattle.curves.specs.Equality.{same_entries}
use Rattle.ratings.specs.Numbered.{StationRatings}
use Rattle.ratings.specs.PartEquality.{same_parts}
use Rattle.day_inputs.specs.DayInputs.{bearing_on, least_on, parts_on, window_ends}
use Rattle.day_inputs.specs.declared.day_inputs.DayInputs.{DayInputs}
use Rattle.day_inputs.specs.declared.day_inputs.DayInputs.TheVariants.{Empty, Day}
use Rattle.day_inputs.specs.declared.day_inputs.DayParts.{DayParts}

-- the estimates are one, or there is none
abbrev pub same_estimate : Option ℤ → Option ℤ → Bool
same_estimate None None = true
same_estimate (Some q) (Some r) = int_eq q r
same_estimate _ _ = false

-- the windows, the entries, the rating periods, the estimates and the least covers are the same
abbrev pub same_contents : DayParts → DayParts → Bool
same_contents p q =
    same_readings p.window q.window && (same_entries p.first q.first && (same_entries p.second q.second
    && (same_entries p.third q.third && (same_entries p.shifts q.shifts && (same_parts p.periods q.periods
    && (same_estimate p.estimate q.estimate && same_least p.least q.least))))))

-- each member is the same
abbrev pub same_members : DayParts → DayParts → Bool
same_members p q =
    p.gap == q.gap && (bytes_eq p.stage_array q.stage_array && (bytes_eq p.discharge_array q.discharge_array
    && (int_eq p.from q.from && (int_eq p.until q.until && same_contents p q))))

-- both days have no inputs, or both have some and their parts are the same
abbrev pub same_inputs : DayInputs → DayInputs → Bool
same_inputs Empty Empty = true
same_inputs Empty (Day q) = false
same_inputs (Day p) Empty = false
same_inputs (Day p) (Day q) = same_members p q

-- the entries of a day are those of the series that bear on the time between two instants, its rating periods are those of the station
-- that meet it, cut to it, and its least cover is that in force; without that time there are none
abbrev pub has_rules_on : Corrections → List Entry → StationRatings → Option ℕ → DayParts → Option (ℤ × ℤ) → Bool
has_rules_on corrections shifts ratings least p span =
    same_entries p.first (bearing_on span corrections.first) && (same_entries p.second (bearing_on span corrections.second)
    && (same_entries p.third (bearing_on span corrections.third) && (same_entries p.shifts (bearing_on span shifts)
    && (same_parts p.periods (parts_on span ratings) && same_least p.least (least_on span least)))))

-- the entries, the rating periods and the least cover of a day are those that count for its window
abbrev pub has_rules : Corrections → List Entry → StationRatings → Option ℕ → DayParts → Bool
has_rules corrections shifts ratings least p = has_rules_on corrections shifts ratings least p (window_ends p.window)
