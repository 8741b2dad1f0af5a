-- What an edit leaves of the stations and of the inputs of days.
use Rattle.std.specs.Prelude.{◌≡◌, Bool, true, false, not, ◌&&◌, cond, List, [], ◌∷◌, find, Option, Some, None, is_some, ℤ}
use Rattle.std.specs.Ordering.{int_eq}
use Rattle.std.proofs.Common.{refl, ap, sym, subst, ◌∙◌, inl, inr}
use Rattle.std.proofs.lemmas.Bool.{cases_Bool, false≢true, and_parts, not-true, not-false}
use Rattle.std.proofs.lemmas.Bool.Decides.{Decides-int_eq}
use Rattle.day_inputs.specs.Equality.{same_inputs}
use Rattle.day_inputs.proofs.EqualityLemmas.{Decides-same_inputs}
use Rattle.edits.specs.declared.content.Edit.{Edit}
use Rattle.edits.specs.declared.content.What.{What}
use Rattle.edits.specs.declared.content.What.TheVariants.{AddStation}
use Rattle.fixed_units.specs.Quantities.{SiteNumber, site_place, same_site}
use Rattle.history.specs.Accepted.{changes}
use Rattle.office_inputs.specs.Changes.{keeps_day}
use Rattle.office_inputs.proofs.LawLemmas.{station_left}
use Rattle.office_inputs.specs.Stations.{added, place_of, station_of, with_added, with_changed, after_what, stations_after, day_of_station, inputs_of_day}
use Rattle.station_inputs.specs.Stations.{StationState, new_station, station_after}
use Rattle.rising.specs.Lists.{at, put}
use Rattle.rising.proofs.Placing.{at_put}

pub places_equal : (a b : SiteNumber) → same_site a b ≡ true → site_place a ≡ site_place b
places_equal a b h = (Decides-int_eq (site_place a) (site_place b)).0 h

-- what is found passes the test
found_step : {X : Type 0} (p : X → Bool) (x y : X) (xs : List X) (b : Bool) → p x ≡ b → cond b (Some x) (find p xs) ≡ Some y
    → (find p xs ≡ Some y → p y ≡ true) → p y ≡ true
found_step p x y xs true e h rec = let same : x ≡ y = cc in subst (λ z. p z ≡ true) same e
found_step p x y xs false e h rec = rec h

pub found_passes : {X : Type 0} (p : X → Bool) (xs : List X) (y : X) → find p xs ≡ Some y → p y ≡ true
found_passes p [] y h = absurd (cc)
found_passes p (x ∷ xs) y h = found_step p x y xs (p x) refl h (found_passes p xs y)

pub found_place : (stations : List StationState) (site : SiteNumber) (s : StationState) → station_of stations site ≡ Some s → place_of s ≡ site_place site
found_place stations site s h =
    (Decides-int_eq (place_of s) (site_place site)).0 (found_passes (λ (t : StationState). int_eq (place_of t) (site_place site)) stations s h)

-- the stations of two sites that are one
pub same_station : (stations : List StationState) (a b : SiteNumber) → site_place a ≡ site_place b → station_of stations a ≡ station_of stations b
same_station stations a b e = ap (λ n. at place_of n stations) e

pub same_day : (stations : List StationState) (a b : SiteNumber) (day : ℤ) → site_place a ≡ site_place b → inputs_of_day stations a day ≡ inputs_of_day stations b day
same_day stations a b day e = ap (λ o. day_of_station o day) (same_station stations a b e)

-- a station keeps its place through an edit, and one that is added has that of its site
pub changed_place : (what : What) (s : StationState) → place_of (station_after what s) ≡ place_of s
changed_place (AddStation name zone gap stages discharges) s = refl
changed_place _ s = refl

pub added_place : (site : SiteNumber) (what : What) (s : StationState) → added site what ≡ Some s → place_of s ≡ site_place site
added_place site (AddStation name zone gap stages discharges) s e =
    let same : new_station site name zone gap stages discharges ≡ s = cc in
    ap place_of (sym same)
added_place site _ s e = absurd (cc)

module _ (own : SiteNumber) (stations : List StationState) where
  -- a change of a station keeps it
  own_changed : (change : StationState → StationState) (found : Option StationState) → station_of stations own ≡ found
      → ((s : StationState) → place_of (change s) ≡ place_of s) → is_some found ≡ true
      → is_some (station_of (with_changed change found stations) own) ≡ true
  own_changed change None e keeps h = absurd (false≢true h)
  own_changed change (Some s) e keeps h =
      ap is_some (ap (λ n. at place_of n (put place_of (change s) stations)) (sym (keeps s ∙ found_place stations own s e)) ∙ at_put place_of (change s) stations)

  own_added : (what : What) (o : Option StationState) → ((s : StationState) → o ≡ Some s → place_of s ≡ site_place own) → is_some (station_of stations own) ≡ true
      → is_some (station_of (with_added own what o stations) own) ≡ true
  own_added what None n h = own_changed (station_after what) (station_of stations own) refl (λ s. changed_place what s) h
  own_added what (Some s) n h = ap is_some (ap (λ m. at place_of m (put place_of s stations)) (sym (n s refl)) ∙ at_put place_of s stations)

  own_after : (what : What) → is_some (station_of stations own) ≡ true → is_some (station_of (after_what own what stations) own) ≡ true
  own_after what h = own_added what (added own what) (added_place own what) h

module _ (stations : List StationState) (edit : Edit) (site : SiteNumber) where
  -- an edit of another site leaves the station
  pub kept_other : same_site edit.site site ≡ false → station_of (stations_after stations edit) site ≡ station_of stations site
  kept_other h = station_left stations edit site h

  -- no edit takes a station away
  pub station_stays : is_some (station_of stations site) ≡ true → is_some (station_of (stations_after stations edit) site) ≡ true
  station_stays h =
      elim (cases_Bool (same_site edit.site site)) [
        | inl y ↦
            let e = places_equal edit.site site y in
            ap is_some (sym (same_station (stations_after stations edit) edit.site site e))
            ∙ own_after edit.site stations edit.what (ap is_some (same_station stations edit.site site e) ∙ h)
        | inr n ↦ ap is_some (kept_other n) ∙ h
      ]

  -- a day that the edit does not change keeps its inputs
  pub unchanged_day : (day : ℤ) → changes stations edit site day ≡ false → inputs_of_day (stations_after stations edit) site day ≡ inputs_of_day stations site day
  unchanged_day day h =
      elim (cases_Bool (same_site edit.site site)) [
        | inl y ↦
            let e = places_equal edit.site site y in
            let kept : not (keeps_day stations edit day) ≡ false = sym (ap (λ b. b && not (keeps_day stations edit day)) y) ∙ h in
            let same = (Decides-same_inputs (inputs_of_day stations edit.site day) (inputs_of_day (stations_after stations edit) edit.site day)).0 (not-false (keeps_day stations edit day) kept) in
            sym (same_day (stations_after stations edit) edit.site site day e) ∙ sym same ∙ same_day stations edit.site site day e
        | inr n ↦ ap (λ o. day_of_station o day) (kept_other n)
      ]

  -- a day that the edit changes is one of a station
  none_same : (a b : Option StationState) (day : ℤ) → is_some a ≡ false → is_some b ≡ false → same_inputs (day_of_station a day) (day_of_station b day) ≡ true
  none_same None None day h k = refl
  none_same (Some s) b day h k = absurd (cc)
  none_same None (Some t) day h k = absurd (cc)

  pub changed_has_station : (day : ℤ) → changes stations edit site day ≡ true → is_some (station_of (stations_after stations edit) site) ≡ true
  changed_has_station day h =
      let parts = and_parts (same_site edit.site site) (not (keeps_day stations edit day)) h in
      let e = places_equal edit.site site parts.0 in
      elim (cases_Bool (is_some (station_of (stations_after stations edit) site))) [
        | inl y ↦ y
        | inr n ↦
            let none : is_some (station_of (stations_after stations edit) edit.site) ≡ false = ap is_some (same_station (stations_after stations edit) edit.site site e) ∙ n in
            elim (cases_Bool (is_some (station_of stations edit.site))) [
              | inl y ↦ absurd (false≢true (sym none ∙ own_after edit.site stations edit.what y))
              | inr m ↦
                  absurd (false≢true (sym (not-true (keeps_day stations edit day) parts.1)
                  ∙ none_same (station_of stations edit.site) (station_of (stations_after stations edit) edit.site) day m none))
            ]
      ]
