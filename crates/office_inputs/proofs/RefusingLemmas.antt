-- The refusal of an edit by its kind, and by whether its site is kept.
use Rattle.std.specs.Prelude.{◌≡◌, ℕ, ◌+◌, ◌-◌, ◌≤◌, Bool, true, false, not, ◌&&◌, cond, nat_le, nat_lt, List, length, is_some, option_map, Option, Some, None, ℤ}
use Rattle.std.proofs.Common.{arith, refl, ap, sym, ◌∙◌}
use Rattle.std.proofs.lemmas.List.{length-map}
use Rattle.rising.specs.Lists as lists
use Rattle.edits.specs.declared.content.Edit.{Edit}
use Rattle.edits.specs.declared.content.What.{What}
use Rattle.edits.specs.declared.content.What.TheVariants.{AddStation, PutReadings}
use Rattle.fixed_units.specs.Quantities.{SiteNumber, site_place}
use Rattle.fixed_units.specs.declared.readings.Reading.{Reading}
use Rattle.readings.specs.Readings.{IsRising, put_all}
use Rattle.station_inputs.specs.Counts.{passed_count, passes, passes_a_day}
use Rattle.station_inputs.specs.KeptStation.{KeptStation}
use Rattle.station_inputs.specs.Obstacles.{obstacle}
use Rattle.station_inputs.specs.Stations.{StationState, new_station, station_after, with_readings}
use Rattle.office_inputs.specs.declared.refusals.Refusal.{Refusal}
use Rattle.office_inputs.specs.declared.refusals.Refusal.TheVariants.{Limit, NoStation, StationExists}
use Rattle.office_inputs.specs.declared.refusals.Which.{Which}
use Rattle.office_inputs.specs.declared.refusals.Which.TheVariants as counts
use Rattle.station_inputs.proofs.CountLemmas.{same_count}
use Rattle.station_inputs.proofs.DayCounts.{added, few_step, free_told}
use Rattle.office_inputs.specs.Kept.{states_of}
use Rattle.office_inputs.specs.Refusals.{adds_station, is_kept, limit_of, obstacle_of, passed_alone, passed_limit, passes_a_day_of, reading_count, refusal_by, refusal_for, refusal_of}
use Rattle.office_inputs.specs.Stations.{after_what, place_of, station_of, with_changed}
use Rattle.office_inputs.specs.declared.limits.Limits.{Limits}
use Rattle.office_inputs.proofs.ApplyLemmas.{count_put_new}
use Rattle.office_inputs.proofs.CountLemmas.{added_limit, count_put_same, fewer_limit, replaced_at, replaced_limit}
use Rattle.office_inputs.proofs.FewerLemmas.{fewer}
use Rattle.office_inputs.proofs.KeepLemmas.{at_place, only_changed, same_place}

-- the refusal of an edit with its parts apart
abbrev in_order : Bool → Bool → Option Which → Option Refusal → Option Refusal
in_order adds kept limit free = cond (not adds && not kept) (Some NoStation) (cond (adds && kept) (Some StationExists) (refusal_by limit free))

order_same : (adds adds' kept kept' : Bool) (limit limit' : Option Which) (free free' : Option Refusal) → adds ≡ adds' → kept ≡ kept' → limit ≡ limit' → free ≡ free'
    → in_order adds kept limit free ≡ in_order adds' kept' limit' free'
order_same adds adds' kept kept' limit limit' free free' d e f g = rw (d, e, f, g) refl

abbrev refusal_parts : Limits → List StationState → SiteNumber → What → Option Refusal
refusal_parts limits stations site what =
    in_order (adds_station what) (is_kept stations site) (passed_limit limits site stations (after_what site what stations)) (option_map refusal_for (obstacle_of (station_of stations site) what))

-- where nothing stands in the way the limit alone refuses
by_limit : (o : Option Which) → refusal_by o None ≡ option_map Limit o
by_limit None = refl
by_limit (Some which) = refl

-- an addition of a site that is not kept
abbrev pub one_more : Bool → Option Refusal
one_more full = cond full (Some (Limit counts.Stations)) None

one_told : (full : Bool) → refusal_by (cond full (Some counts.Stations) None) None ≡ one_more full
one_told true = refl
one_told false = refl

add_parts : (limits : Limits) (stations : List StationState) (site : SiteNumber) (name zone : List ℕ) (gap : ℕ) (stages discharges : List ℕ)
    → lists.IsRising place_of stations → station_of stations site ≡ None
    → one_more (nat_le limits.stations (length stations)) ≡ refusal_parts limits stations site (AddStation name zone gap stages discharges)
add_parts limits stations site name zone gap stages discharges h e =
    let n = new_station site name zone gap stages discharges in
    let what = AddStation name zone gap stages discharges in
    let full = nat_le limits.stations (length stations) in
    let limit = added_limit limits site stations n h e refl (count_put_new n stations h e refl) in
    sym (one_told full)
    ∙ sym (order_same true true (is_kept stations site) false (passed_limit limits site stations (lists.put place_of n stations)) (cond full (Some counts.Stations) None)
    (option_map refusal_for (obstacle_of (station_of stations site) what)) None refl (ap is_some e) limit (ap (λ (o : Option StationState). option_map refusal_for (obstacle_of o what)) e))

pub refused_addition : (limits : Limits) (stations : List StationState) (edit : Edit) (name zone : List ℕ) (gap : ℕ) (stages discharges : List ℕ)
    → lists.IsRising place_of stations → station_of stations edit.site ≡ None → edit.what ≡ AddStation name zone gap stages discharges
    → one_more (nat_le limits.stations (length stations)) ≡ refusal_of limits stations edit
refused_addition limits stations edit name zone gap stages discharges h e w =
    add_parts limits stations edit.site name zone gap stages discharges h e ∙ ap (refusal_parts limits stations edit.site) (sym w)

-- an edit of a station that is kept is refused by the limit that it passes, or else by what stands in its way
by_change : (limits : Limits) (stations : List StationState) (site : SiteNumber) (what : What) (s : StationState) (limit : Option Which) → adds_station what ≡ false
    → station_of stations site ≡ Some s → passed_limit limits site stations (lists.put place_of (station_after what s) stations) ≡ limit
    → refusal_by limit (option_map refusal_for (obstacle s what)) ≡ refusal_parts limits stations site what
by_change limits stations site what s limit a e f =
    sym (order_same (adds_station what) false (is_kept stations site) true (passed_limit limits site stations (after_what site what stations)) limit
    (option_map refusal_for (obstacle_of (station_of stations site) what)) (option_map refusal_for (obstacle s what)) a (ap is_some e)
    (ap (passed_limit limits site stations) (only_changed site what stations a)
    ∙ ap (λ (o : Option StationState). passed_limit limits site stations (with_changed (station_after what) o stations)) e ∙ f)
    (ap (λ (o : Option StationState). option_map refusal_for (obstacle_of o what)) e))

-- one that puts no readings raises no count but those of the station alone
pub refused_other : (limits : Limits) (stations : List StationState) (edit : Edit) (s : StationState) (limit : Option Which) → lists.IsRising place_of stations
    → station_of stations edit.site ≡ Some s → adds_station edit.what ≡ false → ((readings : List Reading) → edit.what ≡ PutReadings readings → ⊥)
    → limit ≡ option_map limit_of (passed_count s (station_after edit.what s))
    → refusal_by limit (option_map refusal_for (obstacle s edit.what)) ≡ refusal_of limits stations edit
refused_other limits stations edit s limit h e a n l =
    by_change limits stations edit.site edit.what s limit a e
    (fewer_limit limits edit.site stations s (station_after edit.what s) h (e, same_place edit.what s) (fewer edit.what s n) ∙ sym l)

-- a station stands at its own site
pub own_site : (stations : List StationState) (site : SiteNumber) (s : StationState) → station_of stations site ≡ Some s → station_of stations s.site ≡ Some s
own_site stations site s e = ap (λ (n : ℤ). lists.at place_of n stations) (at_place place_of (site_place site) stations s e) ∙ e

-- the limit that is passed hangs on the site's place alone
abbrev limit_at : Limits → List StationState → List StationState → ℤ → Option Which
limit_at limits before after n =
    cond (passes limits.stations (length before) (length after)) (Some counts.Stations)
    (cond (passes limits.readings (reading_count before) (reading_count after)) (Some counts.Readings)
    (cond (passes_a_day_of limits.day_readings (lists.at place_of n before) (lists.at place_of n after)) (Some counts.DayReadings)
    (passed_alone (lists.at place_of n before) (lists.at place_of n after))))

site_same : (limits : Limits) (site other : SiteNumber) (before after : List StationState) → site_place site ≡ site_place other
    → passed_limit limits site before after ≡ passed_limit limits other before after
site_same limits site other before after e = ap (limit_at limits before after) e

put_parts : (limits : Limits) (stations : List StationState) (site : SiteNumber) (s : StationState) (rs : List Reading) → station_of stations site ≡ Some s
    → option_map Limit (passed_limit limits s.site stations (lists.put place_of (with_readings (put_all rs) s) stations)) ≡ refusal_parts limits stations site (PutReadings rs)
put_parts limits stations site s rs e =
    let after = lists.put place_of (with_readings (put_all rs) s) stations in
    sym (by_limit (passed_limit limits s.site stations after))
    ∙ by_change limits stations site (PutReadings rs) s (passed_limit limits s.site stations after) refl e
    (sym (site_same limits s.site site stations after (at_place place_of (site_place site) stations s e)))

pub refused_readings : (limits : Limits) (stations : List StationState) (edit : Edit) (s : StationState) (rs : List Reading) → station_of stations edit.site ≡ Some s
    → edit.what ≡ PutReadings rs
    → option_map Limit (passed_limit limits s.site stations (lists.put place_of (with_readings (put_all rs) s) stations)) ≡ refusal_of limits stations edit
refused_readings limits stations edit s rs e w = put_parts limits stations edit.site s rs e ∙ ap (refusal_parts limits stations edit.site) (sym w)

-- the limit that readings pass: that of all stations' readings, or else that of a local day's
abbrev pub of_readings : Bool → Bool → Option Refusal
of_readings all day = cond all (Some (Limit counts.Readings)) (cond day (Some (Limit counts.DayReadings)) None)

readings_step : (all day : Bool) → of_readings all day ≡ option_map Limit (cond all (Some counts.Readings) (cond day (Some counts.DayReadings) None))
readings_step true day = refl
readings_step false true = refl
readings_step false false = refl

pub readings_told : (limits : Limits) (stations : List StationState) (s : StationState) (rs : List Reading) (all day : Bool) → lists.IsRising place_of stations
    → station_of stations s.site ≡ Some s
    → all ≡ passes limits.readings (reading_count stations) (reading_count (lists.put place_of (with_readings (put_all rs) s) stations))
    → day ≡ passes_a_day limits.day_readings s (with_readings (put_all rs) s)
    → of_readings all day ≡ option_map Limit (passed_limit limits s.site stations (lists.put place_of (with_readings (put_all rs) s) stations))
readings_told limits stations s rs all day h e a d =
    let t = with_readings (put_all rs) s in
    let alone : option_map limit_of (passed_count s t) ≡ None = ap (option_map limit_of) (same_count s) in
    readings_step all day
    ∙ ap (option_map Limit) (sym (replaced_limit limits s.site stations s t all day h (e, refl) (sym a) (sym d)
    ∙ ap (λ (o : Option Which). cond all (Some counts.Readings) (cond day (Some counts.DayReadings) o)) alone))

sums_swapped : (n m : ℕ) → n + m ≡ m + n
sums_swapped n m = omega arith

-- whether they pass that of all stations' readings, by those that are new, or by all of them where they are few
pub new_in_all : (limit free more : ℕ) (stations : List StationState) (s : StationState) (rs : List Reading) → lists.IsRising place_of stations
    → station_of stations s.site ≡ Some s → free ≡ limit - reading_count stations → length (put_all rs s.readings) ≡ length s.readings + more
    → nat_lt free more ≡ passes limit (reading_count stations) (reading_count (lists.put place_of (with_readings (put_all rs) s) stations))
new_in_all limit free more stations s rs h e f c =
    let t = with_readings (put_all rs) s in
    free_told limit free more (reading_count stations) (reading_count (lists.put place_of t stations)) (length s.readings) (length (put_all rs s.readings)) f
    (count_put_same t s stations h (replaced_at s.site stations s t (e, refl)) ∙ sums_swapped (reading_count stations) (length t.readings)) c

pub few_in_all : (limit free : ℕ) (stations : List StationState) (s : StationState) (rs : List Reading) → lists.IsRising place_of stations
    → station_of stations s.site ≡ Some s → IsRising s.readings → free ≡ limit - reading_count stations → length rs ≤ free
    → nat_lt free (length rs) ≡ passes limit (reading_count stations) (reading_count (lists.put place_of (with_readings (put_all rs) s) stations))
few_in_all limit free stations s rs h e k f l =
    let a = added rs s.readings k in
    few_step free a.more (length rs) (passes limit (reading_count stations) (reading_count (lists.put place_of (with_readings (put_all rs) s) stations))) a.most l
    (new_in_all limit free a.more stations s rs h e f a.count)

pub states_length : (kept : List KeptStation) → length (states_of kept) ≡ length kept
states_length kept = length-map kept (λ (k : KeptStation). k.station)
