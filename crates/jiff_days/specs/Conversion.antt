-- What jiff's conversion says of the midnights of days.
use Rattle.std.specs.Prelude.{◌≡◌, ℤ, ◌≤ℤ◌, Result, IsOk, IfOk}
use Rattle.fixed_units.specs.Quantities.{first_day}
use Rattle.civil_days.specs.Starts.{calendar_end}
use Rattle.jiff_core.specs.Date.{epoch_day}
use Rattle.jiff_core.specs.Time.{time_nanos}
use Rattle.jiff_core.specs.Timestamp.{nanos_of_seconds}
use Rattle.jiff_core.specs.declared.Timestamp.{Timestamp}
use Rattle.jiff_core.specs.declared.civil.datetime.DateTime.{DateTime}
use Rattle.jiff_core.specs.declared.error.Error.{Error}
use Rattle.jiff_tz.specs.Ambiguous.{IsInstantAt, compatible_offset}
use Rattle.jiff_tz.specs.Zone.{ambiguous_at}
use Rattle.jiff_tz.specs.declared.timezone.TimeZone.{TimeZone}

-- a day of the calendar, or the day after its last
pub record IsCalendarDay (day : ℤ) : Type 0 where
  pub low : first_day ≤ℤ day
  pub high : day ≤ℤ calendar_end

-- the civil datetime is the midnight with which the day begins
pub record IsMidnight (day : ℤ) (datetime : DateTime) : Type 0 where
  pub date : epoch_day datetime.date ≡ day
  pub time : time_nanos datetime.time ≡ 0

-- what jiff's compatible conversion answers, by its contract: the instant of the datetime by the zone's offset there, where it is
-- skipped by the one before the gap, where it comes twice by that of the earlier time
abbrev pub IsConverted : TimeZone → DateTime → Result Timestamp Error → Type 0
IsConverted zone datetime answer = IsInstantAt datetime (compatible_offset (ambiguous_at zone datetime)) answer

-- the answer is an instant, and that of this second with no fraction
pub record IsSecondOf (second : ℤ) (answer : Result Timestamp Error) : Type 0 where
  pub given : IsOk answer
  pub instant : IfOk answer (λ t. t.nanosecond ≡ nanos_of_seconds second)
