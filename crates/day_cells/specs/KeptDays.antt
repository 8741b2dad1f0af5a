-- The cells of a station: which edit each of its days awaits, whether its claim is out, and the value that was published last.
use Rattle.std.specs.Prelude.{◌≡◌, ℕ, ◌<◌, ◌≤◌, Bool, false, ◌&&◌, not, ◌==◌, nat_lt, slice_index_or, slice_index, if◌then◌else◌, List, length, map, filter, All, count_by, Option, Some, None, IfSome, ℤ, pos, ◌+ℤ◌, ◌≤ℤ◌, ◌<ℤ◌}
use Rattle.fixed_units.specs.Quantities.{SiteNumber, first_day, last_day}
use Rattle.fixed_units.specs.Calendar.{calendar}
use Rattle.daily_values.specs.declared.day_values.DayValue.{DayValue}
use Rattle.daily_values.specs.declared.day_values.DayValue.TheVariants.{Empty}
use Rattle.day_cells.specs.Days.{on_day}
use Rattle.day_cells.specs.Spans.{IsSpan}
use Rattle.day_cells.specs.declared.spans.Span.{Span}
use Rattle.day_cells.specs.declared.waiting.Waiting.{Waiting}

-- the cells of a station, in columns from the day `start` on: the awaited edits (0 where a day awaits none), the claims that are
-- out and the values. The span has the days from the first to the last that was ever changed; the columns may have room beyond it.
pub record KeptDays : Type 0 where
  pub site : SiteNumber
  pub start : ℤ
  pub awaits : List ℕ
  pub claims : List Bool
  pub values : List DayValue
  pub span : Option Span

-- what the cells say of a day
abbrev pub edit_on : KeptDays → ℤ → ℕ
edit_on cells day = on_day cells.start cells.awaits 0 day

abbrev pub is_out_on : KeptDays → ℤ → Bool
is_out_on cells day = on_day cells.start cells.claims false day

abbrev pub value_on : KeptDays → ℤ → DayValue
value_on cells day = on_day cells.start cells.values Empty day

-- the edit of a number, where 0 is none
abbrev pub edit_of : ℕ → Option ℕ
edit_of number = if number == 0 then None else Some number

-- the edit that a day awaits
abbrev pub awaited_on : KeptDays → ℤ → Option ℕ
awaited_on cells day = edit_of (edit_on cells day)

abbrev pub is_pending_on : KeptDays → ℤ → Bool
is_pending_on cells day = nat_lt 0 (edit_on cells day)

-- a pending day with what it awaits
abbrev pub waiting_on : KeptDays → ℤ → Waiting
waiting_on cells day = record { site = cells.site; day = day; awaits = edit_on cells day; out = is_out_on cells day }

-- the pending days, in order
abbrev pub waiting_of : KeptDays → List Waiting
waiting_of cells = map (waiting_on cells) (filter (is_pending_on cells) calendar)

-- there is a cell for the day, for each of the days
pub record HasCell (cells : KeptDays) (day : ℤ) : Type 0 where
  pub low : cells.start ≤ℤ day
  pub high : day <ℤ (cells.start +ℤ pos (length cells.awaits))

abbrev pub HasRoom : KeptDays → List ℤ → Type 0
HasRoom cells days = All (HasCell cells) days

-- the cells say the same; room is not spoken of
pub record SaysTheSame (old new : KeptDays) : Type 0 where
  pub site : new.site ≡ old.site
  pub edits : (day : ℤ) → edit_on new day ≡ edit_on old day
  pub claims : (day : ℤ) → is_out_on new day ≡ is_out_on old day
  pub values : (day : ℤ) → value_on new day ≡ value_on old day
  pub span : new.span ≡ old.span

-- the days that pass the test await the edit and their claims are no longer out; every other day and every value is as before
pub record Marks (old new : KeptDays) (test : ℤ → Bool) (edit : ℕ) : Type 0 where
  pub site : new.site ≡ old.site
  pub edits : (day : ℤ) → edit_on new day ≡ (if test day then edit else edit_on old day)
  pub claims : (day : ℤ) → is_out_on new day ≡ (if test day then false else is_out_on old day)
  pub values : (day : ℤ) → value_on new day ≡ value_on old day

-- the claims of the days that pass the test are out, and all else is as before
pub record TakesOut (old new : KeptDays) (test : ℤ → Bool) (out : Bool) : Type 0 where
  pub site : new.site ≡ old.site
  pub edits : (day : ℤ) → edit_on new day ≡ edit_on old day
  pub claims : (day : ℤ) → is_out_on new day ≡ (if test day then out else is_out_on old day)
  pub values : (day : ℤ) → value_on new day ≡ value_on old day
  pub span : new.span ≡ old.span

-- the days that pass the test await nothing, their claims are no longer out and their value is this one; all else is as before
pub record Publishes (old new : KeptDays) (test : ℤ → Bool) (value : DayValue) : Type 0 where
  pub site : new.site ≡ old.site
  pub edits : (day : ℤ) → edit_on new day ≡ (if test day then 0 else edit_on old day)
  pub claims : (day : ℤ) → is_out_on new day ≡ (if test day then false else is_out_on old day)
  pub values : (day : ℤ) → value_on new day ≡ (if test day then value else value_on old day)
  pub span : new.span ≡ old.span

-- the columns are of one length and of days of the calendar
pub record AreColumns (cells : KeptDays) : Type 0 where
  pub claims : length cells.claims ≡ length cells.awaits
  pub values : length cells.values ≡ length cells.awaits
  pub low : first_day ≤ℤ cells.start
  pub high : (cells.start +ℤ pos (length cells.awaits)) ≤ℤ (last_day +ℤ pos 1)
  pub span : IfSome cells.span IsSpan

-- an edit is awaited
abbrev pub is_edit : ℕ → Bool
is_edit number = nat_lt 0 number

-- no cell from a place to another awaits an edit
abbrev pub NonePendingWithin : List ℕ → ℕ → ℕ → Type 0
NonePendingWithin awaits low high = (k : ℕ) → low ≤ k → k < high → is_edit (slice_index awaits k) ≡ false

-- no cell before the place awaits an edit and has its claim not out
abbrev pub NoneUnclaimedBefore : List ℕ → List Bool → ℕ → Type 0
NoneUnclaimedBefore awaits claims place =
    (k : ℕ) → k < place → (is_edit (slice_index awaits k) && not (slice_index_or claims k false)) ≡ false

-- beside the columns stand how many days are pending, and the places before which none is, or none that is unclaimed
pub record KeepsPlaces (cells : KeptDays) (pending first first_unclaimed : ℕ) : Type 0 where
  pub columns : AreColumns cells
  pub counted : pending ≡ count_by is_edit cells.awaits
  pub within : first ≤ length cells.awaits
  pub before : NonePendingWithin cells.awaits 0 first
  pub unclaimed_within : first_unclaimed ≤ length cells.awaits
  pub unclaimed_before : NoneUnclaimedBefore cells.awaits cells.claims first_unclaimed
