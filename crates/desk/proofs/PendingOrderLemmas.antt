-- The pending days stand in order, by site, then day.
use Rattle.std.proofs.Common.{◌≡◌, ℕ, zero, suc, Bool, true, false, ◌||◌, ◌&&◌, cond, List, [], ◌∷◌, map, filter, refl, ap, arith, ℤ}
use Rattle.std.specs.Prelude.{All, AllPairs, pos, ◌+ℤ◌, ◌<ℤ◌, int_lt}
use Rattle.std.specs.List.{flat_map}
use Rattle.std.proofs.Math.Bool.{or-true}
use Rattle.std.proofs.lemmas.Int.{ints}
use Rattle.std.proofs.lemmas.Bool.Decides.{Decides-int_eq}
use Rattle.std.proofs.lemmas.List.Elements.{All-nil, All-cons, All-append, All-map, All-filter, All-weaker, All-head, All-tail, filter_passes}
use Rattle.std.proofs.lemmas.List.Kept.{AllPairs-cons}
use Rattle.fixed_units.specs.Calendar.{calendar, days_from, days_of_calendar}
use Rattle.fixed_units.specs.Quantities.{SiteNumber, first_day, same_site, site_place}
use Rattle.history.specs.Accepted.{stations_at}
use Rattle.history.specs.Awaited.{SiteDay, is_pending, pending_days, pending_of}
use Rattle.history.specs.Events.{Event}
use Rattle.office_inputs.specs.Stations.{place_of}
use Rattle.register.specs.Asked.{comes_after}
use Rattle.register.proofs.LimitLemmas.{stations_rise}
use Rattle.rising.proofs.Parting.{lt_yes}
use Rattle.rising.proofs.Selecting.{AllPairs-append, AllPairs-head, AllPairs-tail}
use Rattle.rising.specs.Lists.{IsRising}
use Rattle.station_inputs.specs.Stations.{StationState}

-- one day comes after another
abbrev pub Comes : SiteDay → SiteDay → Type 0
Comes d e = comes_after d.site d.day e ≡ true

abbrev day_at : SiteNumber → ℤ → SiteDay
day_at site day = record { site = site; day = day }

none_in_order : AllPairs Comes []
none_in_order = λ i j d u v. absurd (omega arith)

-- of one site
same_place : (site : SiteNumber) → same_site site site ≡ true
same_place site = (Decides-int_eq (site_place site) (site_place site)).1 refl

later_day : (site : SiteNumber) (first next : ℤ) → int_lt first next ≡ true → Comes (day_at site first) (day_at site next)
later_day site first next later = rw (same_place site, later) (or-true (int_lt (site_place site) (site_place site)))

later_days : (first day : ℤ) (n : ℕ) → first <ℤ day → All (λ (d : ℤ). int_lt first d ≡ true) (days_from day n)
unfolding days_from
later_days first day zero low = All-nil (λ (d : ℤ). int_lt first d ≡ true)
later_days first day (suc n) low =
    All-cons (λ (d : ℤ). int_lt first d ≡ true) day (days_from (day +ℤ pos 1) n) (lt_yes first day low)
    (later_days first (day +ℤ pos 1) n (omega (arith, ints, low)))

one_more : (site : SiteNumber) (day : ℤ) (days : List ℤ) (b : Bool) → All (λ (d : ℤ). int_lt day d ≡ true) days → AllPairs Comes (map (day_at site) days)
    → AllPairs Comes (map (day_at site) (cond b (day ∷ days) days))
one_more site day days true later rest =
    AllPairs-cons Comes (day_at site day) (map (day_at site) days)
    (All-map (Comes (day_at site day)) (day_at site) days
    (All-weaker (λ (d : ℤ). int_lt day d ≡ true) (λ (d : ℤ). Comes (day_at site day) (day_at site d)) (λ d h. later_day site day d h) days later)) rest
one_more site day days false later rest = rest

site_in_order : (site : SiteNumber) (p : ℤ → Bool) (day : ℤ) (n : ℕ) → AllPairs Comes (map (day_at site) (filter p (days_from day n)))
unfolding days_from
site_in_order site p day zero = none_in_order
site_in_order site p day (suc n) =
    one_more site day (filter p (days_from (day +ℤ pos 1) n)) (p day)
    (All-filter p (λ (d : ℤ). int_lt day d ≡ true) (days_from (day +ℤ pos 1) n) (later_days day (day +ℤ pos 1) n (omega (arith, ints))))
    (site_in_order site p (day +ℤ pos 1) n)

-- of the sites behind
abbrev StandsBehind : StationState → SiteDay → Type 0
StandsBehind s d = int_lt (place_of s) (site_place d.site) ≡ true

each_of : (P : SiteDay → Type 0) (events : List Event) (t : StationState) → ((day : ℤ) → P (day_at t.site day)) → All P (pending_of events t)
each_of P events t all =
    All-map P (day_at t.site) (filter (is_pending events t.site) calendar)
    (All-weaker (λ (d : ℤ). is_pending events t.site d ≡ true) (λ (d : ℤ). P (day_at t.site d)) (λ d h. all d) (filter (is_pending events t.site) calendar)
    (filter_passes (is_pending events t.site) calendar))

stand_behind : (events : List Event) (s : StationState) (stations : List StationState) → All (λ (t : StationState). place_of s <ℤ place_of t) stations
    → All (StandsBehind s) (flat_map (pending_of events) stations)
stand_behind events s [] h = All-nil (StandsBehind s)
stand_behind events s (t ∷ stations) h =
    All-append (StandsBehind s) (pending_of events t) (flat_map (pending_of events) stations)
    (each_of (StandsBehind s) events t (λ day. lt_yes (place_of s) (place_of t) (All-head (λ (u : StationState). place_of s <ℤ place_of u) t stations h)))
    (stand_behind events s stations (All-tail (λ (u : StationState). place_of s <ℤ place_of u) t stations h))

comes_behind : (s : StationState) (day : ℤ) (d : SiteDay) → StandsBehind s d → Comes (day_at s.site day) d
comes_behind s day d behind = ap (λ b. b || (same_site s.site d.site && int_lt day d.day)) behind

stations_in_order : (events : List Event) (stations : List StationState) → IsRising place_of stations → AllPairs Comes (flat_map (pending_of events) stations)
unfolding calendar
stations_in_order events [] h = none_in_order
stations_in_order events (s ∷ stations) h =
    let behind = stand_behind events s stations (AllPairs-head (λ x y. place_of x <ℤ place_of y) s stations h) in
    AllPairs-append Comes (pending_of events s) (flat_map (pending_of events) stations)
    (site_in_order s.site (is_pending events s.site) first_day days_of_calendar)
    (stations_in_order events stations (AllPairs-tail (λ x y. place_of x <ℤ place_of y) s stations h))
    (each_of (λ (x : SiteDay). All (Comes x) (flat_map (pending_of events) stations)) events s
    (λ day. All-weaker (StandsBehind s) (Comes (day_at s.site day)) (λ d k. comes_behind s day d k) (flat_map (pending_of events) stations) behind))

pub in_order : (events : List Event) → AllPairs Comes (pending_days events)
in_order events = stations_in_order events (stations_at events) (stations_rise events)
