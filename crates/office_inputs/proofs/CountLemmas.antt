-- How an edit raises the counts that have limits.
use Rattle.std.specs.Prelude.{◌≡◌, ℕ, ◌+◌, ◌≤◌, Bool, false, cond, nat_le, List, ◌∷◌, ◌++◌, length, option_map, option_to_list, Option, Some, None, ℤ}
use Rattle.std.proofs.Common.{arith, refl, ap, ◌∙◌}
use Rattle.std.proofs.lemmas.List.Sums.{sum_by-append, sum_by-cons}
use Rattle.fixed_units.specs.Quantities.{SiteNumber, site_place}
use Rattle.fixed_units.proofs.CalendarLemmas.{calendar_any_none}
use Rattle.rising.specs.Lists as lists
use Rattle.rising.proofs.Splitting.{whole}
use Rattle.office_inputs.specs.Refusals.{limit_of, passed_alone, passed_limit, passes_a_day_of, reading_count}
use Rattle.office_inputs.specs.Stations.{station_of, place_of}
use Rattle.office_inputs.specs.declared.limits.Limits.{Limits}
use Rattle.office_inputs.specs.declared.refusals.Which.{Which}
use Rattle.office_inputs.specs.declared.refusals.Which.TheVariants as counts
use Rattle.station_inputs.specs.Counts.{day_count, passed_count, passes, passes_a_day}
use Rattle.station_inputs.specs.Stations.{StationState}
use Rattle.station_inputs.proofs.LengthLemmas.{length_put_new, length_put_same}
use Rattle.office_inputs.proofs.KeepLemmas.{at_place, put_there}

-- a count that is not raised passes no limit, and one raised by one passes where it is at its limit
pub not_more : (limit n m : ℕ) → m ≤ n → passes limit n m ≡ false
not_more limit n m h = grind (arith, h)

pub next_passes : (limit n m : ℕ) → m ≡ n + 1 → passes limit n m ≡ nat_le limit n
next_passes limit n m e = grind (arith, e)

-- how many readings there are with one station in place of another
pub count_put_same : (s t : StationState) (stations : List StationState) → lists.IsRising place_of stations → lists.at place_of (place_of s) stations ≡ Some t
    → reading_count (lists.put place_of s stations) + length t.readings ≡ reading_count stations + length s.readings
count_put_same s t stations h n =
    let bs = lists.before place_of (place_of s) stations in
    let cs = lists.after place_of (place_of s) stations in
    let f : StationState → ℕ = λ s. length s.readings in
    let w : reading_count stations ≡ reading_count (bs ++ t ∷ cs) =
    ap reading_count (whole place_of (place_of s) stations h ∙ ap (λ (o : Option StationState). bs ++ (option_to_list o ++ cs)) n) in
    let a : reading_count (bs ++ t ∷ cs) ≡ reading_count bs + (length t.readings + reading_count cs) =
    sum_by-append f bs (t ∷ cs) ∙ ap (λ (n : ℕ). reading_count bs + n) (sum_by-cons f t cs) in
    let b : reading_count (lists.put place_of s stations) ≡ reading_count bs + (length s.readings + reading_count cs) =
    sum_by-append f bs (s ∷ cs) ∙ ap (λ (n : ℕ). reading_count bs + n) (sum_by-cons f s cs) in
    omega (arith, w, a, b)

-- the first limit that is passed, by the three tests and what the station alone passes
abbrev in_order : Bool → Bool → Bool → Option Which → Option Which
in_order a b c w = cond a (Some counts.Stations) (cond b (Some counts.Readings) (cond c (Some counts.DayReadings) w))

order_same : (a b c a' b' c' : Bool) (w w' : Option Which) → a ≡ a' → b ≡ b' → c ≡ c' → w ≡ w' → in_order a b c w ≡ in_order a' b' c' w'
order_same a b c a' b' c' w w' e f g h = rw (e, f, g, h) refl

by_tests : (limits : Limits) (site : SiteNumber) (before after : List StationState) (a b c : Bool) (w : Option Which)
    → passes limits.stations (length before) (length after) ≡ a → passes limits.readings (reading_count before) (reading_count after) ≡ b
    → passes_a_day_of limits.day_readings (station_of before site) (station_of after site) ≡ c
    → passed_alone (station_of before site) (station_of after site) ≡ w
    → passed_limit limits site before after ≡ in_order a b c w
by_tests limits site before after a b c w e f g h =
    order_same (passes limits.stations (length before) (length after)) (passes limits.readings (reading_count before) (reading_count after))
    (passes_a_day_of limits.day_readings (station_of before site) (station_of after site)) a b c
    (passed_alone (station_of before site) (station_of after site)) w e f g h

-- a new station raises the number of stations alone
pub added_limit : (limits : Limits) (site : SiteNumber) (stations : List StationState) (n : StationState) → lists.IsRising place_of stations
    → station_of stations site ≡ None → place_of n ≡ site_place site → reading_count (lists.put place_of n stations) ≡ reading_count stations
    → passed_limit limits site stations (lists.put place_of n stations) ≡ cond (nat_le limits.stations (length stations)) (Some counts.Stations) None
added_limit limits site stations n h e p k =
    let after = lists.put place_of n stations in
    let gone : lists.at place_of (place_of n) stations ≡ None = ap (λ (m : ℤ). lists.at place_of m stations) p ∙ e in
    by_tests limits site stations after (nat_le limits.stations (length stations)) false false None
    (next_passes limits.stations (length stations) (length after) (length_put_new place_of n stations h gone))
    (not_more limits.readings (reading_count stations) (reading_count after) (omega (arith, k)))
    (ap (λ (o : Option StationState). passes_a_day_of limits.day_readings o (station_of after site)) e)
    (ap (λ (o : Option StationState). passed_alone o (station_of after site)) e)

-- the stations with one in place of another of its site
abbrev pub Replaces : SiteNumber → List StationState → StationState → StationState → Type 0
Replaces site stations s t = (station_of stations site ≡ Some s) × (place_of t ≡ place_of s)

pub replaced_at : (site : SiteNumber) (stations : List StationState) (s t : StationState) → Replaces site stations s t → lists.at place_of (place_of t) stations ≡ Some s
replaced_at site stations s t h =
    ap (λ (m : ℤ). lists.at place_of m stations) (h.1 ∙ at_place place_of (site_place site) stations s h.0) ∙ h.0

replaced_there : (site : SiteNumber) (stations : List StationState) (s t : StationState) → Replaces site stations s t
    → station_of (lists.put place_of t stations) site ≡ Some t
replaced_there site stations s t h = put_there stations site t (h.1 ∙ at_place place_of (site_place site) stations s h.0)

-- so the two tests of all stations' readings and of the station's days are told, and then what the station alone passes
pub replaced_limit : (limits : Limits) (site : SiteNumber) (stations : List StationState) (s t : StationState) (b c : Bool) → lists.IsRising place_of stations
    → Replaces site stations s t → passes limits.readings (reading_count stations) (reading_count (lists.put place_of t stations)) ≡ b
    → passes_a_day limits.day_readings s t ≡ c
    → passed_limit limits site stations (lists.put place_of t stations) ≡ in_order false b c (option_map limit_of (passed_count s t))
replaced_limit limits site stations s t b c h r e f =
    let after = lists.put place_of t stations in
    let there = replaced_there site stations s t r in
    let l = length_put_same place_of t s stations h (replaced_at site stations s t r) in
    by_tests limits site stations after false b c (option_map limit_of (passed_count s t))
    (not_more limits.stations (length stations) (length after) (omega (arith, l))) e
    (ap (λ (o : Option StationState). passes_a_day_of limits.day_readings o (station_of after site)) r.0
    ∙ ap (λ (o : Option StationState). passes_a_day_of limits.day_readings (Some s) o) there ∙ f)
    (ap (λ (o : Option StationState). passed_alone o (station_of after site)) r.0 ∙ ap (λ (o : Option StationState). passed_alone (Some s) o) there)

-- with no more readings, on no day either, no count is raised but those of the station alone
pub record IsFewer (s t : StationState) : Type 0 where
  pub all : length t.readings ≤ length s.readings
  pub days : (day : ℤ) → day_count t day ≤ day_count s day

pub fewer_limit : (limits : Limits) (site : SiteNumber) (stations : List StationState) (s t : StationState) → lists.IsRising place_of stations
    → Replaces site stations s t → IsFewer s t
    → passed_limit limits site stations (lists.put place_of t stations) ≡ option_map limit_of (passed_count s t)
fewer_limit limits site stations s t h r f =
    let count = count_put_same t s stations h (replaced_at site stations s t r) in
    let all = f.all in
    replaced_limit limits site stations s t false false h r
    (not_more limits.readings (reading_count stations) (reading_count (lists.put place_of t stations)) (omega (arith, count, all)))
    (calendar_any_none (λ day. passes limits.day_readings (day_count s day) (day_count t day)) (λ day i. not_more limits.day_readings (day_count s day) (day_count t day) (f.days day)))
