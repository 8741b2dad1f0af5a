-- The figures of a day: its length, its counts, the sums for its stage and its discharge, its extremes, its estimate, its least cover,
-- and what is published of them.
use Rattle.std.specs.Prelude.{ℕ, ℤ, List, ◌+◌, ◌*◌, ◌≤◌, nat_le, if◌then◌else◌, Option, Some, None, IfSome, pos, neg_ℤ}
use Rattle.editions.specs.Covers.{IsLeastCover, need}
use Rattle.unit_discharge.specs.Unit.{most_corrected}
use Rattle.fixed_units.specs.Published.{published}
use Rattle.fixed_units.specs.Quantities.{IsDischarge, IsWithin, most_discharge}
use Rattle.fixed_units.specs.declared.published.Published.{Published}
use Rattle.daily_values.specs.declared.counts.Counts.{Counts}
use Rattle.daily_values.specs.declared.extremes.Extremes.{Extremes}
use Rattle.daily_values.specs.declared.sums.Sum.{Sum}
use Rattle.fixed_units.specs.Calendar.{shortest_day, longest_day}

-- the figures of a day, as contracts see them
pub record DayFigures : Type 0 where
  pub length : ℕ
  pub counts : Counts
  pub stage : Sum
  pub discharge : Sum
  pub extremes : Extremes
  pub estimate : Option ℤ
  pub stage_array : List ℕ
  pub discharge_array : List ℕ
  pub least : Option ℕ

-- a value, where there is one, is at most so far below 0 and at most so far above it
abbrev pub IsValueWithin : ℕ → ℕ → Option ℤ → Type 0
IsValueWithin below above value = IfSome value (λ n. IsWithin (neg_ℤ (pos below)) (pos above) n)

-- twice an area over so many seconds is that of such values, and so is a sum with the seconds that it covers
abbrev pub IsAreaWithin : ℕ → ℕ → ℕ → ℤ → Type 0
IsAreaWithin below above seconds twice = IsWithin (neg_ℤ (pos (2 * below * seconds))) (pos (2 * above * seconds)) twice

abbrev pub IsSumWithin : ℕ → ℕ → Sum → Type 0
IsSumWithin below above sum = IsAreaWithin below above sum.covered sum.twice

-- the counts of so many seconds: at most a reading a second, and each reading without a discharge counts for one reason
pub record AreCounts (seconds : ℕ) (counts : Counts) : Type 0 where
  pub readings : counts.readings ≤ seconds
  pub missing : counts.affected + counts.no_rating + counts.below + counts.above ≤ counts.readings

-- what every day's figures keep to: a day of 20 to 28 hours, no more readings than it has seconds, no more covered than it is long,
-- a sum of corrected stages, and one of discharges, an estimate that is a discharge, and a least cover of 1 to 1,440 minutes
pub record AreFigures (figures : DayFigures) : Type 0 where
  pub shortest : shortest_day ≤ figures.length
  pub longest : figures.length ≤ longest_day
  pub counts : AreCounts figures.length figures.counts
  pub stage_covered : figures.stage.covered ≤ figures.length
  pub discharge_covered : figures.discharge.covered ≤ figures.length
  pub stage : IsSumWithin most_corrected most_corrected figures.stage
  pub discharge : IsSumWithin 0 most_discharge figures.discharge
  pub estimate : IfSome figures.estimate IsDischarge
  pub least : IfSome figures.least IsLeastCover

-- a mean, published by a rounding array, which is there exactly where its cover is at least the need: the area over the cover
abbrev pub mean : List ℕ → Sum → ℕ → Option Published
mean array sum needed = if nat_le needed sum.covered then Some (published array sum.twice (pos (2 * sum.covered))) else None

-- how many seconds each mean of a day needs
abbrev pub needed : DayFigures → ℕ
needed figures = need figures.length figures.least

abbrev pub mean_stage : DayFigures → Option Published
mean_stage figures = mean figures.stage_array figures.stage (needed figures)

abbrev pub mean_discharge : DayFigures → Option Published
mean_discharge figures = mean figures.discharge_array figures.discharge (needed figures)

-- the published discharge: the estimate where one stands, else the mean
abbrev pub discharge_by : List ℕ → Option ℤ → Option Published → Option Published
discharge_by array None mean = mean
discharge_by array (Some estimate) mean = Some (published array estimate (pos 1))

abbrev pub published_discharge : DayFigures → Option Published
published_discharge figures = discharge_by figures.discharge_array figures.estimate (mean_discharge figures)
