-- Where no day is pending, each day is answered by its value.
use Rattle.std.proofs.Common.{◌≡◌, ℕ, ◌≤◌, ◌<◌, Bool, true, false, cond, ◌||◌, List, [], ◌∷◌, length, filter, Option, Some, None, is_some, refl, ap, arith}
use Rattle.std.specs.Prelude.{ℤ, if◌then◌else◌}
use Rattle.std.specs.List.{list_any, sum_by}
use Rattle.std.specs.Ordering.{int_eq}
use Rattle.std.proofs.lemmas.List.Sums.{sum_by-cons}
use Rattle.daily_values.specs.DayValue.{day_value}
use Rattle.fixed_units.specs.Calendar.{calendar}
use Rattle.fixed_units.specs.Quantities.{SiteNumber, IsDay, site_place}
use Rattle.fixed_units.proofs.CalendarLemmas.{calendar_any}
use Rattle.history.specs.Accepted.{stations_at}
use Rattle.history.specs.Awaited.{DayAnswer, NoStation, Pending, Computed, answer_at, answer_by, awaited, is_pending, pending_days}
use Rattle.history.specs.Events.{Event}
use Rattle.history.proofs.PendingLemmas.{pending_at, pending_by, pending_has_station, pending_sum}
use Rattle.history.proofs.StationLemmas.{found_place}
use Rattle.office_inputs.specs.Stations.{day_of_station, place_of, station_of}
use Rattle.rising.specs.Lists.{at}
use Rattle.station_inputs.specs.Stations.{StationState}
use Rattle.trial.specs.Figures.{mean_of_value, mean_on}

-- a station that is found is among those that are summed
found_step : (f : StationState → ℕ) (x s : StationState) (xs : List StationState) (n : ℤ) (b : Bool) → cond b (Some x) (at place_of n xs) ≡ Some s
    → (at place_of n xs ≡ Some s → f s ≤ sum_by f xs) → f s ≤ sum_by f (x ∷ xs)
found_step f x s xs n true h rest = let same : f x ≡ f s = ap f (cc) in omega (arith, same, sum_by-cons f x xs)
found_step f x s xs n false h rest = omega (arith, rest h, sum_by-cons f x xs)

found_summed : (f : StationState → ℕ) (stations : List StationState) (n : ℤ) (s : StationState) → at place_of n stations ≡ Some s → f s ≤ sum_by f stations
found_summed f [] n s h = absurd (cc)
found_summed f (x ∷ xs) n s h = found_step f x s xs n (int_eq (place_of x) n) h (found_summed f xs n s)

-- a day that passes a test is counted
any_step : (b : Bool) (day : ℤ) (passing : List ℤ) (rest : Bool) → (rest ≡ true → 0 < length passing) → (b || rest) ≡ true → 0 < length (cond b (day ∷ passing) passing)
any_step true day passing rest later h = omega arith
any_step false day passing rest later h = later h

any_counted : (p : ℤ → Bool) (days : List ℤ) → list_any p days ≡ true → 0 < length (filter p days)
any_counted p [] h = absurd (cc)
any_counted p (d ∷ days) h = any_step (p d) d (filter p days) (list_any p days) (any_counted p days) h

-- the mean of what is answered for a day
abbrev pub mean_told : DayAnswer → ℕ
mean_told NoStation = 0
mean_told (Pending edit) = 0
mean_told (Computed value) = mean_of_value value

answered : (day : ℤ) (answer : DayAnswer) (found : Option StationState) (awaits : Option ℕ) → (is_some awaits ≡ true → ⊥)
    → answer ≡ (if is_some found then answer_by awaits (day_value (day_of_station found day)) else NoStation)
    → mean_told answer ≡ mean_of_value (day_value (day_of_station found day))
answered day answer None awaits none is = ap mean_told is
answered day answer (Some s) None none is = ap mean_told is
answered day answer (Some s) (Some edit) none is = absurd (none refl)

module _ (events : List Event) (settled : pending_days events ≡ []) where
  found_none : (site : SiteNumber) (found : Option StationState) → station_of (stations_at events) site ≡ found → is_some found ≡ true → pending_at events site ≡ 0
  found_none site None e h = absurd (cc)
  found_none site (Some s) e h =
      let few = found_summed (λ (t : StationState). pending_at events t.site) (stations_at events) (site_place site) s e in
      let all = pending_sum events in
      let none = ap length settled in
      let same = pending_by events s.site site (found_place (stations_at events) site s e) in
      omega (arith, few, all, none, same)

  not_pending : (site : SiteNumber) (day : ℤ) → IsDay day → is_pending events site day ≡ true → ⊥
  not_pending site day is h =
      let none = found_none site (station_of (stations_at events) site) refl (pending_has_station events site day h) in
      let some = any_counted (is_pending events site) calendar (calendar_any (is_pending events site) day is h) in
      omega (arith, none, some)

  -- the mean of a day that awaits no edit is that of what is answered for it
  pub mean_answered : (site : SiteNumber) (day : ℤ) (answer : DayAnswer) → IsDay day → answer ≡ answer_at events site day → mean_told answer ≡ mean_on events site day
  mean_answered site day answer is told =
      answered day answer (station_of (stations_at events) site) (awaited events site day) (not_pending site day is) told
