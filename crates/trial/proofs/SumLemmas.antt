-- Sums over the stations of a trial and over days in order, term by term.
use Rattle.std.proofs.Common.{◌≡◌, ℕ, suc, ◌+◌, ◌-◌, ◌≤◌, ◌<◌, map, ap, sym, ◌∙◌, arith}
use Rattle.std.specs.Prelude.{ℤ, pos, ◌+ℤ◌}
use Rattle.std.specs.List.{range_with_len, sum_by}
use Rattle.std.proofs.lemmas.Int.{ints}
use Rattle.std.proofs.lemmas.List.{map-id}
use Rattle.std.proofs.lemmas.List.FromFn.{sum_by-map-range_with_len_more}
use Rattle.std.proofs.lemmas.List.Sums.{sum_by-cons}
use Rattle.fixed_units.specs.Calendar.{days_from}
use Rattle.fixed_units.specs.Quantities.{SiteNumber}
use Rattle.trial.specs.Figures.{over_stations}
use Rattle.trial_orders.specs.Questions.{site_of}

-- the sum of what the sites of the stations before one have
abbrev pub sum_before : (SiteNumber → ℕ) → ℕ → ℕ
sum_before f station = sum_by (λ s. f (site_of s)) (range_with_len 1 (station - 1))

same_numbers : (f : ℕ → ℕ) (a n : ℕ) → sum_by f (map (λ (x : ℕ). x) (range_with_len a n)) ≡ sum_by f (range_with_len a n)
same_numbers f a n = ap (sum_by f) (map-id (range_with_len a n))

-- with one station more
pub station_more : (f : SiteNumber → ℕ) (station count found : ℕ) → 1 ≤ station → count ≡ sum_before f station → found ≡ f (site_of station)
    → count + found ≡ sum_before f (station + 1)
station_more f station count found some before is =
    let g : ℕ → ℕ = λ s. f (site_of s) in
    let more = sum_by-map-range_with_len_more g (λ (x : ℕ). x) 1 (station - 1) station (omega arith) in
    let longer = same_numbers g 1 (station - 1 + 1) in
    let shorter = same_numbers g 1 (station - 1) in
    let places : station - 1 + 1 ≡ station + 1 - 1 = omega arith in
    let whole : sum_by g (range_with_len 1 (station - 1 + 1)) ≡ sum_before f (station + 1) = ap (λ n. sum_by g (range_with_len 1 n)) places in
    omega (arith, more, longer, shorter, whole, before, is)

-- with all four
pub stations_all : (f : SiteNumber → ℕ) (station count : ℕ) → station ≡ 5 → count ≡ sum_before f station → count ≡ over_stations f
stations_all f station count last before = before ∙ ap (sum_before f) last

module _ (f : ℤ → ℕ) (first : ℤ) (days : ℕ) where
  -- the sum over the days from one of that place on
  abbrev pub sum_from : ℕ → ℕ
  sum_from place = sum_by f (days_from (first +ℤ pos place) (days - place))

  pub days_none : 0 + sum_from 0 ≡ sum_by f (days_from first days)
  days_none =
      let same : first +ℤ pos 0 ≡ first = omega (arith, ints) in
      let count : days - 0 ≡ days = omega arith in
      let here : sum_from 0 ≡ sum_by f (days_from first days) =
      ap (λ (d : ℤ). sum_by f (days_from d (days - 0))) same ∙ ap (λ (n : ℕ). sum_by f (days_from first n)) count in
      omega (arith, here)

  step : (day next : ℤ) (n : ℕ) → next ≡ day +ℤ pos 1 → sum_by f (days_from day (n + 1)) ≡ f day + sum_by f (days_from next n)
  unfolding days_from
  step day next n e =
      let count : n + 1 ≡ suc n = omega arith in
      ap (λ (k : ℕ). sum_by f (days_from day k)) count ∙ sum_by-cons f day (days_from (day +ℤ pos 1) n)
      ∙ ap (λ (d : ℤ). f day + sum_by f (days_from d n)) (sym e)

  -- with one day more
  pub day_more : (place count found : ℕ) (all : ℕ) → place < days → count + sum_from place ≡ all → found ≡ f (first +ℤ pos place)
      → (count + found) + sum_from (place + 1) ≡ all
  day_more place count found all some before is =
      let next : first +ℤ pos (place + 1) ≡ (first +ℤ pos place) +ℤ pos 1 = omega (arith, ints) in
      let one = step (first +ℤ pos place) (first +ℤ pos (place + 1)) (days - (place + 1)) next in
      let places : days - place ≡ days - (place + 1) + 1 = omega arith in
      let whole : sum_from place ≡ sum_by f (days_from (first +ℤ pos place) (days - (place + 1) + 1)) =
      ap (λ (n : ℕ). sum_by f (days_from (first +ℤ pos place) n)) places in
      omega (arith, one, whole, before, is)

  -- with all
  pub days_all : (place count : ℕ) (all : ℕ) → place ≡ days → count + sum_from place ≡ all → count ≡ all
  unfolding days_from
  days_all place count all last before =
      let none : days - place ≡ 0 = omega arith in
      let empty : sum_from place ≡ 0 = ap (λ (n : ℕ). sum_by f (days_from (first +ℤ pos place) n)) none in
      omega (arith, empty, before)
