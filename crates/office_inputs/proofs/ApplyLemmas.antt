-- What an edit makes of the stations that are kept, of their states and of how many readings they have.
use Rattle.std.specs.Prelude.{◌≡◌, ℕ, zero, suc, ◌+◌, ◌<◌, ◌≤◌, Bool, true, false, cond, List, [], ◌∷◌, ◌++◌, filter, length, slice_set, slice_index_or, option_to_list, option_map, Option, Some, None, ℤ, ◌<ℤ◌, int_lt, All}
use Rattle.std.proofs.Common.{arith, refl, ap, sym, subst, ◌∙◌}
use Rattle.std.proofs.lemmas.List.Sums.{sum_by-append, sum_by-cons}
use Rattle.std.proofs.lemmas.List.Elements.{All-head, All-tail, All-cons, All-nil, All-append, All-filter}
use Rattle.std.proofs.lemmas.List.Kept.{AllPairs-cons}
use Rattle.rising.proofs.Selecting.{AllPairs-head, AllPairs-tail}
use Rattle.fixed_units.specs.Quantities.{SiteNumber, site_place}
use Rattle.fixed_units.specs.declared.readings.Reading.{Reading}
use Rattle.rising.specs.Lists as lists
use Rattle.rising.proofs.Splitting.{whole}
use Rattle.rising.proofs.Placing.{put_rises as put_rises_by}
use Rattle.station_inputs.specs.KeptStation.{KeptStation, IsStation}
use Rattle.office_inputs.specs.Stations.{station_of, place_of, with_changed, changed_at}
use Rattle.station_inputs.specs.Stations.{StationState}
use Rattle.edits.specs.declared.content.What.{What}
use Rattle.station_inputs.specs.Obstacles.{obstacle}
use Rattle.office_inputs.specs.Refusals.{obstacle_of, reading_count}
use Rattle.office_inputs.specs.Kept.{states_of, kept_at, place_of_kept, AreStations}
use Rattle.office_inputs.proofs.InputsLemmas.{state_at}
use Rattle.office_inputs.proofs.KeepLemmas.{at_place}
use Rattle.office_inputs.proofs.RoomLemmas.{StandsAt, stands_at}

-- states of the stations that pass
filter_step : (k : KeptStation) (kept : List KeptStation) (states : List StationState) (b : Bool) → states ≡ states_of kept
    → cond b (k.station ∷ states) states ≡ states_of (cond b (k ∷ kept) kept)
filter_step k kept states true e = ap (λ (states : List StationState). k.station ∷ states) e
filter_step k kept states false e = e

states_filter : (p : StationState → Bool) (kept : List KeptStation) → filter p (states_of kept) ≡ states_of (filter (λ k. p k.station) kept)
states_filter p [] = refl
states_filter p (k ∷ kept) = filter_step k (filter (λ k. p k.station) kept) (filter p (states_of kept)) (p k.station) (states_filter p kept)

states_append : (xs ys : List KeptStation) → states_of (xs ++ ys) ≡ states_of xs ++ states_of ys
states_append [] ys = refl
states_append (x ∷ xs) ys = ap (λ (states : List StationState). x.station ∷ states) (states_append xs ys)

-- the states with a station put
pub states_put : (k : KeptStation) (kept : List KeptStation) → states_of (lists.put place_of_kept k kept) ≡ lists.put place_of k.station (states_of kept)
states_put k kept =
    let n = place_of_kept k in
    let before = states_filter (λ s. int_lt (place_of s) n) kept in
    let after = states_filter (λ s. int_lt n (place_of s)) kept in
    states_append (lists.before place_of_kept n kept) (k ∷ lists.after place_of_kept n kept) ∙ rw (before, after) refl

states_all : (n : ℤ) (kept : List KeptStation) → All (λ k. n <ℤ place_of_kept k) kept → All (λ s. n <ℤ place_of s) (states_of kept)
states_all n [] h = All-nil (λ s. n <ℤ place_of s)
states_all n (k ∷ kept) h =
    All-cons (λ s. n <ℤ place_of s) k.station (states_of kept) (All-head (λ k. n <ℤ place_of_kept k) k kept h)
    (states_all n kept (All-tail (λ k. n <ℤ place_of_kept k) k kept h))

pub states_rise : (kept : List KeptStation) → lists.IsRising place_of_kept kept → lists.IsRising place_of (states_of kept)
states_rise [] h = λ i j d l m. absurd (omega arith)
states_rise (k ∷ kept) h =
    AllPairs-cons (λ a b. place_of a <ℤ place_of b) k.station (states_of kept)
    (states_all (place_of_kept k) kept (AllPairs-head (λ a b. place_of_kept a <ℤ place_of_kept b) k kept h))
    (states_rise kept (AllPairs-tail (λ a b. place_of_kept a <ℤ place_of_kept b) k kept h))

-- how many readings there are, with a station put where none stands
count_parts : (xs ys : List StationState) (s : StationState) → reading_count (xs ++ s ∷ ys) ≡ reading_count (xs ++ ys) + length s.readings
count_parts xs ys s =
    let a : reading_count (xs ++ s ∷ ys) ≡ reading_count xs + (length s.readings + reading_count ys) =
    sum_by-append (λ (s : StationState). length s.readings) xs (s ∷ ys) ∙ ap (λ (n : ℕ). reading_count xs + n) (sum_by-cons (λ (s : StationState). length s.readings) s ys) in
    let b : reading_count (xs ++ ys) ≡ reading_count xs + reading_count ys = sum_by-append (λ (s : StationState). length s.readings) xs ys in
    omega (arith, a, b)

pub count_put_new : (s : StationState) (stations : List StationState) → lists.IsRising place_of stations → lists.at place_of (place_of s) stations ≡ None → s.readings ≡ []
    → reading_count (lists.put place_of s stations) ≡ reading_count stations
count_put_new s stations r n e =
    let xs = lists.before place_of (place_of s) stations in
    let ys = lists.after place_of (place_of s) stations in
    let w : stations ≡ xs ++ ys = whole place_of (place_of s) stations r ∙ ap (λ (o : Option StationState). xs ++ (option_to_list o ++ ys)) n in
    let c = count_parts xs ys s in
    let l = ap (λ (rs : List Reading). length rs) e in
    let m = ap reading_count w in
    omega (arith, c, l, m)

-- how many there are with one station written over
pub count_set : (kept : List KeptStation) (i : ℕ) (x y : KeptStation) → i < length kept → x ≡ slice_index_or kept i x
    → reading_count (states_of (slice_set kept i y)) + length x.station.readings ≡ reading_count (states_of kept) + length y.station.readings
count_set [] i x y l e = absurd (omega arith)
count_set (k ∷ kept) zero x y l e =
    let f : length x.station.readings ≡ length k.station.readings = ap (λ (k : KeptStation). length k.station.readings) e in
    let a : reading_count (states_of (slice_set (k ∷ kept) zero y)) ≡ length y.station.readings + reading_count (states_of kept) =
    sum_by-cons (λ (s : StationState). length s.readings) y.station (states_of kept) in
    let b : reading_count (states_of (k ∷ kept)) ≡ length k.station.readings + reading_count (states_of kept) =
    sum_by-cons (λ (s : StationState). length s.readings) k.station (states_of kept) in
    omega (arith, f, a, b)
count_set (k ∷ kept) (suc i) x y l e =
    let h = count_set kept i x y (omega arith) e in
    let a : reading_count (states_of (slice_set (k ∷ kept) (suc i) y)) ≡ length k.station.readings + reading_count (states_of (slice_set kept i y)) =
    sum_by-cons (λ (s : StationState). length s.readings) k.station (states_of (slice_set kept i y)) in
    let b : reading_count (states_of (k ∷ kept)) ≡ length k.station.readings + reading_count (states_of kept) =
    sum_by-cons (λ (s : StationState). length s.readings) k.station (states_of kept) in
    omega (arith, h, a, b)

-- and a station has no more of them than all
pub count_within : (kept : List KeptStation) (i : ℕ) (x : KeptStation) → i < length kept → x ≡ slice_index_or kept i x
    → length x.station.readings ≤ reading_count (states_of kept)
count_within [] i x l e = absurd (omega arith)
count_within (k ∷ kept) zero x l e =
    let f : length x.station.readings ≡ length k.station.readings = ap (λ (k : KeptStation). length k.station.readings) e in
    let b : reading_count (states_of (k ∷ kept)) ≡ length k.station.readings + reading_count (states_of kept) =
    sum_by-cons (λ (s : StationState). length s.readings) k.station (states_of kept) in
    omega (arith, f, b)
count_within (k ∷ kept) (suc i) x l e =
    let h = count_within kept i x (omega arith) e in
    let b : reading_count (states_of (k ∷ kept)) ≡ length k.station.readings + reading_count (states_of kept) =
    sum_by-cons (λ (s : StationState). length s.readings) k.station (states_of kept) in
    omega (arith, h, b)

-- the states with a station of the site written over
pub states_set : (kept : List KeptStation) (site : SiteNumber) (i : ℕ) (x y : KeptStation) (change : StationState → StationState) → StandsAt site i kept
    → x ≡ slice_index_or kept i x → y.station ≡ change x.station → place_of (change x.station) ≡ place_of x.station
    → states_of (slice_set kept i y) ≡ changed_at site change (states_of kept)
states_set kept site i x y change h e f p =
    let there = stands_at kept site i x h.within e h.found in
    let n : place_of_kept y ≡ site_place site = ap place_of f ∙ p ∙ at_place place_of_kept (site_place site) kept x there in
    let found : station_of (states_of kept) site ≡ Some x.station = state_at kept site ∙ ap (λ (o : Option KeptStation). option_map (λ (k : KeptStation). k.station) o) there in
    ap states_of (h.written y n) ∙ states_put y kept ∙ ap (λ (s : StationState). lists.put place_of s (states_of kept)) f
    ∙ ap (λ (o : Option StationState). with_changed change o (states_of kept)) (sym found)

-- in whose way nothing stands of the station of the site
pub free_here : (kept : List KeptStation) (site : SiteNumber) (i : ℕ) (x : KeptStation) (what : What) → StandsAt site i kept → x ≡ slice_index_or kept i x
    → obstacle_of (station_of (states_of kept) site) what ≡ None → obstacle x.station what ≡ None
free_here kept site i x what h e free =
    let found : station_of (states_of kept) site ≡ Some x.station =
    state_at kept site ∙ ap (λ (o : Option KeptStation). option_map (λ (k : KeptStation). k.station) o) (stands_at kept site i x h.within e h.found) in
    ap (λ (o : Option StationState). obstacle_of o what) (sym found) ∙ free

-- a site that is not kept has no station to change
pub states_none : (stations : List StationState) (site : SiteNumber) (change : StationState → StationState) → station_of stations site ≡ None
    → stations ≡ changed_at site change stations
states_none stations site change e = ap (λ (o : Option StationState). with_changed change o stations) (sym e)

-- a station of a site that has none, put among those that are kept
pub count_put_kept : (k : KeptStation) (kept : List KeptStation) → lists.IsRising place_of_kept kept → kept_at kept k.station.site ≡ None → k.station.readings ≡ []
    → reading_count (lists.put place_of k.station (states_of kept)) ≡ reading_count (states_of kept)
count_put_kept k kept r n e =
    count_put_new k.station (states_of kept) (states_rise kept r)
    (state_at kept k.station.site ∙ ap (λ (o : Option KeptStation). option_map (λ (k : KeptStation). k.station) o) n) e

-- stations with one put that keeps to its ranges
pub stations_put : (k : KeptStation) (kept : List KeptStation) → AreStations kept → IsStation k.station → AreStations (lists.put place_of_kept k kept)
stations_put k kept h i = record {
  rising = put_rises_by place_of_kept k kept h.rising;
  each =
      All-append (λ (k : KeptStation). IsStation k.station) (lists.before place_of_kept (place_of_kept k) kept) (k ∷ lists.after place_of_kept (place_of_kept k) kept)
      (All-filter (λ x. int_lt (place_of_kept x) (place_of_kept k)) (λ (k : KeptStation). IsStation k.station) kept h.each)
      (All-cons (λ (k : KeptStation). IsStation k.station) k (lists.after place_of_kept (place_of_kept k) kept) i
      (All-filter (λ x. int_lt (place_of_kept k) (place_of_kept x)) (λ (k : KeptStation). IsStation k.station) kept h.each));
}

pub stations_set : (kept : List KeptStation) (site : SiteNumber) (i : ℕ) (x y : KeptStation) → AreStations kept → StandsAt site i kept → x ≡ slice_index_or kept i x
    → place_of_kept y ≡ place_of_kept x → IsStation y.station → AreStations (slice_set kept i y)
stations_set kept site i x y a h e p k =
    let n : place_of_kept y ≡ site_place site = p ∙ at_place place_of_kept (site_place site) kept x (stands_at kept site i x h.within e h.found) in
    subst AreStations (sym (h.written y n)) (stations_put y kept a k)
