-- The years of the calendar, and moments on the wall clock in and about them, in nanoseconds.
use Rattle.std.specs.Prelude.{◌≡◌, ℤ, pos, neg_ℤ, ◌+ℤ◌, ◌≤ℤ◌, int_le, int_lt}
use Rattle.jiff_core.specs.Calendar.{IsYear, IsBetween, days_from_civil, days_in_year}
use Rattle.jiff_core.specs.Timestamp.{IsOffsetSeconds}
use Rattle.jiff_tz.specs.PosixRule.{saturating_add, saturating_sub}
use Rattle.civil_days.specs.Rule.{shift}

-- a year of the calendar, its first day and the first day of the next year
pub record IsCalendarYear (number first next : ℤ) : Type 0 where
  pub number_in : IsYear number
  pub first_is : first ≡ days_from_civil number 1 1
  pub next_is : next ≡ first +ℤ pos (days_in_year number)
  pub low : neg_ℤ (pos 26_000) ≤ℤ first
  pub high : next ≤ℤ pos 48_000

-- a moment of such a year
abbrev pub IsYearNanos : ℤ → Type 0
IsYearNanos n = IsBetween (neg_ℤ (pos 2_246_400_000_000_000_000)) (pos 4_147_200_000_000_000_000) n

-- the same, moved by the distance of two offsets
abbrev pub IsMovedNanos : ℤ → Type 0
IsMovedNanos n = IsBetween (neg_ℤ (pos 2_247_000_000_000_000_000)) (pos 4_148_000_000_000_000_000) n

-- two offsets, and the moments at which daylight saving time begins and ends by the clock before the change and by the clock
-- after it
pub record IsWindow (std dst start start_after end end_after : ℤ) : Type 0 where
  pub std_in : IsOffsetSeconds std
  pub dst_in : IsOffsetSeconds dst
  pub start_in : IsYearNanos start
  pub end_in : IsYearNanos end
  pub start_moved : start_after ≡ saturating_add start (shift std dst)
  pub end_moved : end_after ≡ saturating_sub end (shift std dst)
  pub start_after_in : IsMovedNanos start_after
  pub end_after_in : IsMovedNanos end_after

-- two moments lie on one side of a change; a moment at the change itself lies behind it
pub record IsOneSide (change at later : ℤ) : Type 0 where
  pub begun : int_le change later ≡ int_le change at
  pub ahead : int_lt later change ≡ int_lt at change
