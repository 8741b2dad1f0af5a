-- What an edit touches of a station's days.
use Rattle.rising.specs.Ends.{first, last}
use Rattle.std.specs.Prelude.{◌≡◌, Bool, true, false, if◌then◌else◌, List, find, is_some, Option, Some, None, ℤ, pos, ◌+ℤ◌, ◌-ℤ◌, ◌≤ℤ◌}
use Rattle.std.specs.Int.{int_max, int_min}
use Rattle.fixed_units.specs.Quantities.{IsDay, last_stamp}
use Rattle.fixed_units.specs.declared.readings.Reading.{Reading}
use Rattle.curves.specs.declared.entries.Entry.{Entry}
use Rattle.curves.specs.Entries.{entry_after, entry_before}
use Rattle.day_inputs.specs.declared.day_inputs.DayInputs.{DayInputs}
use Rattle.day_inputs.specs.declared.day_inputs.DayInputs.TheVariants.{Empty, Day}
use Rattle.edits.specs.declared.content.What.{What}
use Rattle.edits.specs.declared.content.What.TheVariants.{SetStation, PutReadings, DropReadings, FlagReadings, PutCorrection, DropCorrection, PutShift, DropShift, PutPeriod, DropPeriod, PutEstimate, DropEstimate, SetEdition}
use Rattle.ratings.specs.Numbered.{period_from}
use Rattle.readings.specs.Readings.{in_span, is_used}
use Rattle.readings.specs.Window.{of_day}
use Rattle.ratings.specs.Spans.{Span}
use Rattle.station_inputs.specs.Stations.{StationState, day_start, edition_after, series_of}
use Rattle.station_inputs.specs.declared.station_editions.Edition.{Edition}
use Rattle.station_inputs.specs.declared.series.StationSeries.TheVariants.{Correction, Shift}
use Rattle.station_inputs.specs.declared.touched.Touched.{Touched}
use Rattle.station_inputs.specs.declared.touched.Touched.TheVariants.{Nothing, One, Between, Cells}

-- the day has inputs
abbrev pub has_inputs : DayInputs → Bool
has_inputs Empty = false
has_inputs (Day parts) = true

-- the first and the last day of those that are filled, or none where no day is
abbrev pub IsSpanOf : (ℤ → Bool) → Option (ℤ × ℤ) → Type 0
IsSpanOf filled None = (day : ℤ) → IsDay day → filled day ≡ false
IsSpanOf filled (Some span) =
    (filled span.0 ≡ true) × (filled span.1 ≡ true) × ((day : ℤ) → IsDay day → filled day ≡ true → (span.0 ≤ℤ day) × (day ≤ℤ span.1))

-- a reading of the day is used
abbrev pub has_used_reading : StationState → ℤ → Bool
has_used_reading s day = is_some (find is_used (of_day (day_start s day) (day_start s (day +ℤ pos 1)) s.readings))

-- the first and the last day of two spans
abbrev pub joined_spans : Option (ℤ × ℤ) → Option (ℤ × ℤ) → Option (ℤ × ℤ)
joined_spans None other = other
joined_spans (Some span) None = Some span
joined_spans (Some span) (Some other) = Some (int_min span.0 other.0, int_max span.1 other.1)

-- the time between the first and the last of some readings
abbrev pub between_readings : Option Reading → Option Reading → Touched
between_readings None last = Nothing
between_readings (Some first) None = Nothing
between_readings (Some first) (Some last) = Between first.at last.at false

-- the time between the first and the last reading of a span, erroneous ones among them
abbrev pub about_span : ℤ → ℤ → List Reading → Touched
about_span from to readings = between_readings (first (in_span from to readings)) (last (in_span from to readings))

-- the instants between which the entry at an instant has a say: from the one before it on where that one prorates, else from its
-- own on, up to the next one, or to the last stamp
abbrev pub says_from : ℤ → Option Entry → ℤ
says_from at None = at
says_from at (Some before) = if before.prorate then before.at else at

abbrev pub says_until : Option Entry → ℤ
says_until None = last_stamp
says_until (Some next) = next.at

-- the time in which the entry at an instant of a series has a say: only days that have inputs can change
abbrev pub about_entry : ℤ → List Entry → Touched
about_entry at entries =
    Between (says_from at (entry_before at entries)) (says_until (entry_after at entries)) true

-- the end of a period, or the last stamp where it has none, and the later of its end and that of the period in whose place it is put
abbrev pub end_or_last : Option ℤ → ℤ
end_or_last None = last_stamp
end_or_last (Some until) = until

abbrev pub period_end : Span → ℤ
period_end p = end_or_last p.until

abbrev pub later_end : Span → Option Span → ℤ
later_end p None = period_end p
later_end p (Some kept) = int_max (period_end p) (period_end kept)

-- the time from a period's start until an end: only days that have inputs can change
abbrev pub about_period : ℤ → ℤ → Touched
about_period from until = Between from until true

abbrev pub about_dropped_period : Option Span → Touched
about_dropped_period None = Nothing
about_dropped_period (Some kept) = about_period kept.from (period_end kept)

-- the last second before the day of the next edition, or the last stamp where there is none
abbrev pub edition_end : StationState → Option Edition → ℤ
edition_end s None = last_stamp
edition_end s (Some next) = day_start s next.day -ℤ pos 1

-- the time in which an edition of a day is in force: only days that have inputs can change
abbrev pub about_edition : StationState → ℤ → Touched
about_edition s day = Between (day_start s day) (edition_end s (edition_after day s.editions)) true

-- what an edit touches of the station as it was before
abbrev pub touched_at : StationState → What → Touched
touched_at s (SetStation name gap stage_array discharge_array) = Cells
touched_at s (PutReadings readings) = between_readings (first readings) (last readings)
touched_at s (DropReadings from to) = about_span from to s.readings
touched_at s (FlagReadings from to flag) = about_span from to s.readings
touched_at s (PutCorrection set at curve prorate) = about_entry at (series_of (Correction set) s)
touched_at s (DropCorrection set at) = about_entry at (series_of (Correction set) s)
touched_at s (PutShift at curve prorate) = about_entry at (series_of Shift s)
touched_at s (DropShift at) = about_entry at (series_of Shift s)
touched_at s (PutPeriod period) = about_period period.from (later_end period (period_from period.from s.ratings.periods))
touched_at s (DropPeriod from) = about_dropped_period (period_from from s.ratings.periods)
touched_at s (PutEstimate estimate) = One estimate.day
touched_at s (DropEstimate day) = One day
touched_at s (SetEdition day least) = about_edition s day
touched_at s _ = Nothing
