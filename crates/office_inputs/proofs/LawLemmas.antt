-- What an edit leaves alone, and which days have inputs only since it.
use Rattle.std.specs.Prelude.{◌≡◌, Bool, true, false, not, cond, List, [], ◌∷◌, ◌++◌, filter, Contains, Option, Some, None, is_some, ℕ, zero, suc, ℤ, pos, ◌+ℤ◌}
use Rattle.std.proofs.Common.{arith, refl, ap, sym, subst, ◌∙◌}
use Rattle.std.proofs.lemmas.Bool.Decides.{Decides-int_eq}
use Rattle.std.proofs.lemmas.Int.{ints, by_lt_z}
use Rattle.std.proofs.lemmas.List.Elements.{Contains-get_or, Contains-append_right}
use Rattle.std.proofs.lemmas.List.Sums.{fold_push}
use Rattle.fixed_units.specs.Quantities.{IsDay, SiteNumber, first_day, site_place, same_site}
use Rattle.fixed_units.specs.Calendar.{days_from, days_of_calendar, calendar}
use Rattle.fixed_units.proofs.CalendarLemmas.{IsAmong, is_among}
use Rattle.rising.specs.Lists.{at, put}
use Rattle.rising.proofs.Placing.{at_put_other}
use Rattle.day_inputs.specs.Equality.{same_inputs}
use Rattle.day_inputs.specs.declared.day_inputs.DayInputs.{DayInputs}
use Rattle.day_inputs.specs.declared.day_inputs.DayInputs.TheVariants.{Empty, Day}
use Rattle.edits.specs.declared.content.What.{What}
use Rattle.edits.specs.declared.content.What.TheVariants.{AddStation}
use Rattle.edits.specs.declared.content.Edit.{Edit}
use Rattle.office_inputs.specs.Changes.{changed_days, keeps_day}
use Rattle.office_inputs.specs.Stations.{added, station_of, stations_after, stations_of, inputs_of_day, day_of_station, place_of, with_added, with_changed}
use Rattle.station_inputs.specs.Stations.{StationState, new_station, station_after}
use Rattle.office_inputs.specs.Touched.{is_filled}
use Rattle.station_inputs.specs.Touched.{has_inputs}
use Rattle.office_inputs.proofs.KeepLemmas.{at_place, put_there, same_place}

other_place : (a b : SiteNumber) → same_site a b ≡ false → site_place a ≡ site_place b → ⊥
other_place a b n e = let t = (Decides-int_eq (site_place a) (site_place b)).1 e in absurd (cc)

-- a station that is put leaves the others
put_leaves : (s : StationState) (stations : List StationState) (own site : SiteNumber) → place_of s ≡ site_place own → same_site own site ≡ false
    → station_of (put place_of s stations) site ≡ station_of stations site
put_leaves s stations own site p n = at_put_other place_of s (site_place site) stations (λ e. other_place own site n (sym p ∙ e))

-- and so does one that is changed and keeps its place
change_leaves : (change : StationState → StationState) (stations : List StationState) (own site : SiteNumber) (o : Option StationState)
    → ((s : StationState) → place_of (change s) ≡ place_of s) → station_of stations own ≡ o → same_site own site ≡ false
    → station_of (with_changed change o stations) site ≡ station_of stations site
change_leaves change stations own site None k e n = refl
change_leaves change stations own site (Some s) k e n =
    put_leaves (change s) stations own site (k s ∙ at_place place_of (site_place own) stations s e) n

-- a station that is added is that of the edit's site
added_place : (site : SiteNumber) (what : What) (n : StationState) → added site what ≡ Some n → place_of n ≡ site_place site
added_place site (AddStation name zone gap stages discharges) n e =
    let f : new_station site name zone gap stages discharges ≡ n = cc in ap place_of (sym f)
added_place site _ n e = absurd (cc)

left_step : (stations : List StationState) (own site : SiteNumber) (what : What) (o : Option StationState) → added own what ≡ o → same_site own site ≡ false
    → station_of (with_added own what o stations) site ≡ station_of stations site
left_step stations own site what None e n = change_leaves (station_after what) stations own site (station_of stations own) (same_place what) refl n
left_step stations own site what (Some s) e n = put_leaves s stations own site (added_place own what s e) n

pub station_left : (stations : List StationState) (edit : Edit) (site : SiteNumber) → same_site edit.site site ≡ false
    → station_of (stations_after stations edit) site ≡ station_of stations site
station_left stations edit site n = left_step stations edit.site site edit.what (added edit.site edit.what) refl n

pub inputs_left : (stations : List StationState) (edit : Edit) (site : SiteNumber) (day : ℤ) → same_site edit.site site ≡ false
    → inputs_of_day (stations_after stations edit) site day ≡ inputs_of_day stations site day
inputs_left stations edit site day n = ap (λ (o : Option StationState). day_of_station o day) (station_left stations edit site n)

-- a station that is kept stays kept
kept_some : (o : Option StationState) → is_some o ≡ true → (s : StationState) × (o ≡ Some s)
kept_some None e = absurd (cc)
kept_some (Some s) e = (s, refl)

stays_here : (stations : List StationState) (site : SiteNumber) (what : What) (s : StationState) (o : Option StationState) → added site what ≡ o
    → station_of stations site ≡ Some s → is_some (station_of (with_added site what o stations) site) ≡ true
stays_here stations site what s None a e =
    ap (λ (p : Option StationState). is_some (station_of (with_changed (station_after what) p stations) site)) e
    ∙ ap is_some (put_there stations site (station_after what s) (same_place what s ∙ at_place place_of (site_place site) stations s e))
stays_here stations site what s (Some n) a e = ap is_some (put_there stations site n (added_place site what n a))

stays_step : (stations : List StationState) (edit : Edit) (site : SiteNumber) (b : Bool) → same_site edit.site site ≡ b
    → is_some (station_of stations site) ≡ true → is_some (station_of (stations_after stations edit) site) ≡ true
stays_step stations edit site false n k = ap is_some (station_left stations edit site n) ∙ k
stays_step stations edit site true e k =
    let one : site_place edit.site ≡ site_place site = (Decides-int_eq (site_place edit.site) (site_place site)).0 e in
    let here = kept_some (station_of stations edit.site) (ap (λ (n : ℤ). is_some (at place_of n stations)) one ∙ k) in
    ap (λ (n : ℤ). is_some (at place_of n (stations_after stations edit))) (sym one)
    ∙ stays_here stations edit.site edit.what here.0 (added edit.site edit.what) refl here.1

pub kept_stays : (stations : List StationState) (edit : Edit) (site : SiteNumber) → is_some (station_of stations site) ≡ true
    → is_some (station_of (stations_after stations edit) site) ≡ true
kept_stays stations edit site k = stays_step stations edit site (same_site edit.site site) refl k

pub edit_more : (edits : List Edit) (edit : Edit) → stations_after (stations_of edits) edit ≡ stations_of (edits ++ edit ∷ [])
edit_more edits edit = sym (fold_push stations_after [] edits edit)

-- a day that passes a test is one of those of the calendar that it keeps
kept_first : (b : Bool) (day d : ℤ) (ds : List ℤ) → b ≡ true → d ≡ day → Contains (cond b (day ∷ ds) ds) d
kept_first true day d ds b e = subst (λ (x : ℤ). Contains (day ∷ ds) x) (sym e) (Contains-get_or (day ∷ ds) 0 day (omega arith))
kept_first false day d ds b e = absurd (cc)

kept_later : (b : Bool) (day d : ℤ) (ds : List ℤ) → Contains ds d → Contains (cond b (day ∷ ds) ds) d
kept_later true day d ds h = Contains-append_right (day ∷ []) ds d h
kept_later false day d ds h = h

filter_has : (p : ℤ → Bool) (day : ℤ) (n : ℕ) (d : ℤ) → IsAmong day n d → p d ≡ true → Contains (filter p (days_from day n)) d
unfolding days_from
filter_has p day zero d w h = absurd (let a = w.low in let b = w.high in omega (arith, ints))
filter_has p day (suc n) d w h =
    by_lt_z day d
    (λ l. kept_later (p day) day d (filter p (days_from (day +ℤ pos 1) n))
    (filter_has p (day +ℤ pos 1) n d (record { low = omega (arith, ints); high = let b = w.high in omega (arith, ints) }) h))
    (λ m. let e : d ≡ day = (let a = w.low in omega (arith, ints)) in kept_first (p day) day d (filter p (days_from (day +ℤ pos 1) n)) (ap p (sym e) ∙ h) e)

calendar_has : (p : ℤ → Bool) (d : ℤ) → IsDay d → p d ≡ true → Contains (filter p calendar) d
unfolding calendar
calendar_has p d k h = filter_has p first_day days_of_calendar d (is_among d k) h

-- inputs where there were none differ
filled_differ : (before after : DayInputs) → has_inputs before ≡ false → has_inputs after ≡ true → same_inputs before after ≡ false
filled_differ Empty Empty f t = absurd (cc)
filled_differ Empty (Day q) f t = refl
filled_differ (Day p) after f t = absurd (cc)

true_false : (b : Bool) → b ≡ true → b ≡ false → ⊥
true_false b t f = let k : true ≡ false = sym t ∙ f in absurd (cc)

at_one_place : (stations : List StationState) (a b : SiteNumber) (day : ℤ) → same_site a b ≡ true → inputs_of_day stations b day ≡ inputs_of_day stations a day
at_one_place stations a b day e =
    ap (λ (n : ℤ). day_of_station (at place_of n stations) day) (sym ((Decides-int_eq (site_place a) (site_place b)).0 e))

changed_step : (stations : List StationState) (edit : Edit) (site : SiteNumber) (day : ℤ) (b : Bool) → same_site edit.site site ≡ b → IsDay day
    → is_filled stations site day ≡ false → is_filled (stations_after stations edit) site day ≡ true
    → (same_site edit.site site ≡ true) × Contains (changed_days stations edit) day
changed_step stations edit site day false e d f t =
    absurd (true_false (is_filled (stations_after stations edit) site day) t (ap has_inputs (inputs_left stations edit site day e) ∙ f))
changed_step stations edit site day true e d f t = (
  e,
  let before = sym (ap has_inputs (at_one_place stations edit.site site day e)) ∙ f in
      let after = sym (ap has_inputs (at_one_place (stations_after stations edit) edit.site site day e)) ∙ t in
      let differ = filled_differ (inputs_of_day stations edit.site day) (inputs_of_day (stations_after stations edit) edit.site day) before after in
      calendar_has (λ day. not (keeps_day stations edit day)) day d (ap not differ),
)

pub filled_changed : (stations : List StationState) (edit : Edit) (site : SiteNumber) (day : ℤ) → IsDay day
    → is_filled stations site day ≡ false → is_filled (stations_after stations edit) site day ≡ true
    → (same_site edit.site site ≡ true) × Contains (changed_days stations edit) day
filled_changed stations edit site day d f t = changed_step stations edit site day (same_site edit.site site) refl d f t
