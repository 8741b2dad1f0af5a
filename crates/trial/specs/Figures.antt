-- What a trial comes to: six figures, each a line of text.
use Rattle.std.specs.Prelude.{◌≡◌, ℕ, ◌+◌, ◌*◌, ◌%◌, Bool, if◌then◌else◌, List, [], ◌∷◌, ◌++◌, length, nat_le, codes, decimal, is_some, ℤ, pos, unsigned_abs}
use Rattle.std.specs.List.{sum_by}
use Rattle.approval.specs.Statuses.{approved_days}
use Rattle.daily_values.specs.Figures.{DayFigures, needed}
use Rattle.daily_values.specs.declared.day_values.DayValue.{DayValue}
use Rattle.daily_values.specs.declared.day_values.DayValue.TheVariants as values
use Rattle.depend.specs.Compared.{days_within}
use Rattle.fixed_units.specs.Quantities.{SiteNumber}
use Rattle.fixed_units.specs.Rounding.{round}
use Rattle.history.specs.Accepted.{accepted, stations_at}
use Rattle.history.specs.Awaited.{value_at}
use Rattle.history.specs.Events.{Event, Accepted, Published, Faulted}
use Rattle.history.specs.Statuses.{status_at}
use Rattle.office_inputs.specs.Stations.{station_of}
use Rattle.trial.specs.Trials.{Trial, FollowsAll, beginning}
use Rattle.trial_orders.specs.Orders.{orders, stations}
use Rattle.trial_orders.specs.Questions.{site_of}

-- 1 where a test holds, and else 0
abbrev pub one_if : Bool → ℕ
one_if test = if test then 1 else 0

-- the sum over the stations of a trial of what their sites have
abbrev pub over_stations : (SiteNumber → ℕ) → ℕ
over_stations count = sum_by (λ station. count (site_of station)) stations

-- how many of the stations are kept
abbrev pub kept_one : List Event → SiteNumber → ℕ
kept_one events site = one_if (is_some (station_of (stations_at events) site))

unfoldable pub kept : Trial → ℕ
kept t = over_stations (kept_one t.history.events)

-- how many values were published
abbrev pub publications : List Event → ℕ
publications [] = 0
publications (Accepted piece ∷ events) = publications events
publications (Published site day ∷ events) = 1 + publications events
publications (Faulted doubt ∷ events) = publications events

-- how many days of the calendar are approved, of a site and of all stations
abbrev pub approved_of : List Event → SiteNumber → ℕ
approved_of events site = approved_days (status_at events site)

unfoldable pub approved : Trial → ℕ
approved t = over_stations (approved_of t.history.events)

-- the mean discharge of a day in whole millionths, half away from zero, where its discharges cover what a mean needs, none of which is
-- below 0; else 0
unfoldable pub mean_of : DayFigures → ℕ
mean_of figures =
    let sum = figures.discharge in
    if nat_le (needed figures) sum.covered then unsigned_abs (round sum.twice (pos (2 * sum.covered))) else 0

abbrev pub mean_of_value : DayValue → ℕ
mean_of_value values.Empty = 0
mean_of_value (values.Day figures) = mean_of figures

-- that of a day of a site, computed from scratch
abbrev pub mean_on : List Event → SiteNumber → ℤ → ℕ
mean_on events site day = mean_of_value (value_at events site day)

-- from 2023-01-05 to 2024-02-05 they are summed
abbrev pub first_summed : ℤ
first_summed = pos 19_362

abbrev pub last_summed : ℤ
last_summed = pos 19_758

abbrev pub means_of : List Event → SiteNumber → ℕ
means_of events site = sum_by (mean_on events site) (days_within first_summed last_summed)

unfoldable pub total : Trial → ℕ
total t = over_stations (means_of t.history.events)

-- the line of a figure, and those of the six
abbrev pub figure_line : List ℕ → ℕ → List ℕ
figure_line name figure = name ++ 32 ∷ (decimal figure ++ 10 ∷ [])

abbrev pub text_of : Trial → List ℕ
text_of t =
    figure_line (codes "stations") (kept t)
    ++ (figure_line (codes "edits") (length (accepted t.history.events))
    ++ (figure_line (codes "locked") t.locked
    ++ (figure_line (codes "published") (publications t.history.events)
    ++ (figure_line (codes "approved") (approved t)
    ++ figure_line (codes "total") (total t % 1_000_000_000)))))

-- A text is that of the trial of a number: its orders are followed from the beginning, and the text is that of its figures then.
pub record IsTrialText (number : ℕ) (text : List ℕ) : Type 0 where
  pub after : Trial
  pub follows : FollowsAll beginning (orders number) after
  pub figures : text ≡ text_of after
