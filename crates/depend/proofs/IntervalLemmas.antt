-- No day outside the interval of an edit changes, kind by kind.
use Rattle.std.specs.Prelude.{◌≡◌, ◌||◌, ℕ, Bool, true, false, not, cond, List, [], ◌∷◌, All, Option, Some, None, ℤ}
use Rattle.std.proofs.Common.{refl, sym, subst, ◌∙◌}
use Rattle.std.proofs.lemmas.Bool.Decides.{Decides-int_eq}
use Rattle.std.proofs.lemmas.List.Elements.{All-head, All-tail}
use Rattle.std.specs.Ordering.{int_eq}
use Rattle.fixed_units.specs.Quantities.{IsDay, SiteNumber, site_place}
use Rattle.rising.specs.Lists as lists
use Rattle.curves.specs.declared.entries.Entry.{Entry}
use Rattle.curves.specs.Entries as series
use Rattle.curves.specs.Entries.{instant_of, entry_of}
use Rattle.curves.proofs.ChangeLemmas.{put_unchanged, without_unchanged}
use Rattle.day_inputs.specs.Equality.{same_inputs}
use Rattle.day_inputs.proofs.EqualityLemmas.{Decides-same_inputs}
use Rattle.day_inputs.specs.declared.day_inputs.DayInputs.{DayInputs}
use Rattle.day_inputs.specs.declared.day_inputs.DayInputs.TheVariants.{Empty, Day}
use Rattle.edits.specs.Lawful.{IsLawful}
use Rattle.edits.specs.declared.content.What.{What}
use Rattle.edits.specs.declared.content.What.TheVariants.{SetStation, PutReadings, DropReadings, FlagReadings, PutCorrection, DropCorrection, PutShift, DropShift, AddRating, PutPeriod, DropPeriod, PutEstimate, DropEstimate, SetEdition}
use Rattle.edits.specs.declared.content.Edit.{Edit}
use Rattle.office_inputs.specs.Changes.{keeps_day}
use Rattle.office_inputs.specs.Kept.{AreStations, states_of}
use Rattle.station_inputs.specs.KeptStation.{KeptStation, IsStation}
use Rattle.office_inputs.specs.Refusals.{refusal_of}
use Rattle.office_inputs.specs.Stations.{place_of, station_of}
use Rattle.station_inputs.specs.Changes.{keeps_station_day}
use Rattle.station_inputs.specs.Stations.{StationState, edition_of, station_day, described, series_of, with_series}
use Rattle.station_inputs.specs.declared.series.StationSeries.{StationSeries}
use Rattle.station_inputs.specs.declared.series.StationSeries.TheVariants.{Correction, Shift}
use Rattle.office_inputs.specs.Touched.{in_reach, touched_by, touched_of}
use Rattle.station_inputs.specs.Touched.{about_entry, has_inputs, touched_at}
use Rattle.office_inputs.specs.declared.limits.Limits.{Limits}
use Rattle.office_inputs.proofs.KeepLemmas.{adds_none, add_told, change_told}
use Rattle.station_inputs.proofs.EstimateDays.{drop_told, put_told}
use Rattle.station_inputs.proofs.PeriodDays.{rating_told}
use Rattle.station_inputs.proofs.StationLemmas.{filled_told}
use Rattle.depend.proofs.EditionLemmas.{edition_day_changes}
use Rattle.depend.proofs.EntryLemmas.{by_test, Keeps, entry_meets}
use Rattle.depend.proofs.PeriodLemmas.{dropped_period_day, put_period_day}
use Rattle.depend.proofs.ReadingDays.{drop_day, flag_day, put_day}
use Rattle.depend.proofs.TouchedDays.{IsTouchedDay, of_interval}

-- a station that is found keeps to its ranges
station_step : (s t : StationState) (o : Option StationState) (b : Bool) → IsStation s → cond b (Some s) o ≡ Some t → (o ≡ Some t → IsStation t) → IsStation t
station_step s t o true h e k = let same : s ≡ t = cc in subst IsStation same h
station_step s t o false h e k = k e

pub station_is : (kept : List KeptStation) (site : SiteNumber) (s : StationState) → All (λ (k : KeptStation). IsStation k.station) kept
    → station_of (states_of kept) site ≡ Some s → IsStation s
station_is [] site s h e = absurd (cc)
station_is (k ∷ kept) site s h e =
    station_step k.station s (station_of (states_of kept) site) (int_eq (place_of k.station) (site_place site))
    (All-head (λ (k : KeptStation). IsStation k.station) k kept h) e
    (station_is kept site s (All-tail (λ (k : KeptStation). IsStation k.station) k kept h))

-- a day without inputs stays without them where its station is described anew
is_empty : (inputs : DayInputs) → has_inputs inputs ≡ false → inputs ≡ Empty
is_empty Empty h = refl
is_empty (Day p) h = absurd (cc)

empty_kept : (s : StationState) (day : ℤ) (name : List ℕ) (gap : ℕ) (stages discharges : List ℕ) → has_inputs (station_day s day) ≡ false
    → true ≡ same_inputs (station_day s day) (station_day (described name gap stages discharges s) day)
empty_kept s day name gap stages discharges h =
    let t = described name gap stages discharges s in
    let before = is_empty (station_day s day) h in
    let after = is_empty (station_day t day) (sym (filled_told t day) ∙ filled_told s day ∙ h) in
    rw (before, after) refl

-- equal inputs do not differ
same_not : (inputs : DayInputs) → same_inputs inputs inputs ≡ false → ⊥
same_not inputs n = let k : true ≡ false = sym ((Decides-same_inputs inputs inputs).1 refl) ∙ n in absurd (cc)

told_not : (b : Bool) → true ≡ b → b ≡ false → ⊥
told_not b e n = let k : true ≡ false = e ∙ n in absurd (cc)

-- one that an entry changes has inputs, and meets the time in which the entry has a say
entry_day : (s : StationState) (day : ℤ) (which : StationSeries) (at : ℤ) (change : List Entry → List Entry) → IsStation s → IsDay day
    → ((es : List Entry) → series.IsRising es → Keeps at change es) → same_inputs (station_day s day) (station_day (with_series which change s) day) ≡ false
    → IsTouchedDay s (about_entry at (series_of which s)) day
entry_day s day which at change k d keeps n = let found = entry_meets s day which at change k d keeps n in (found.1, λ t. found.0)

-- an entry that is put, and one that is taken out
put_entry : (at : ℤ) (curve : List (ℤ × ℤ)) (prorate : Bool) (es : List Entry) → series.IsRising es → Keeps at (series.put (entry_of at curve prorate)) es
put_entry at curve prorate es h lo hi o t = put_unchanged lo hi (entry_of at curve prorate) es (lists.at instant_of at es) h o refl t

drop_entry : (at : ℤ) (es : List Entry) → series.IsRising es → Keeps at (series.without at) es
drop_entry at es h lo hi o t = without_unchanged lo hi at es (lists.at instant_of at es) h o refl t

-- an estimate changes its own day alone
own_step : (same other : Bool) → (not same || other) ≡ false → same ≡ true
own_step true other e = refl
own_step false other e = absurd (cc)

own_day : (own day : ℤ) (other : Bool) → (not (int_eq own day) || other) ≡ false → own ≡ day
own_day own day other e = (Decides-int_eq own day).0 (own_step (int_eq own day) other e)

-- a day that an edit of a station changes is one that what it touches can change
changed_day : (s : StationState) (what : What) (day : ℤ) → IsStation s → IsLawful what → IsDay day → keeps_station_day s what day ≡ false
    → IsTouchedDay s (touched_at s what) day
changed_day s (SetStation name gap stages discharges) day k l d n =
    by_test (has_inputs (station_day s day)) (λ t. t) (λ f. absurd (told_not _ (empty_kept s day name gap stages discharges f) n))
changed_day s (PutReadings readings) day k l d n = put_day s day readings k d l n
changed_day s (DropReadings from to) day k l d n = drop_day s day from to k d n
changed_day s (FlagReadings from to flag) day k l d n = flag_day s day from to flag k d n
changed_day s (PutCorrection set at curve prorate) day k l d n = entry_day s day (Correction set) at (series.put (entry_of at curve prorate)) k d (put_entry at curve prorate) n
changed_day s (DropCorrection set at) day k l d n = entry_day s day (Correction set) at (series.without at) k d (drop_entry at) n
changed_day s (PutShift at curve prorate) day k l d n = entry_day s day Shift at (series.put (entry_of at curve prorate)) k d (put_entry at curve prorate) n
changed_day s (DropShift at) day k l d n = entry_day s day Shift at (series.without at) k d (drop_entry at) n
changed_day s (AddRating rating table) day k l d n = told_not _ (rating_told s day (record { number = rating; rows = table }) k) n
changed_day s (PutPeriod period) day k l d n = put_period_day s day period k d n
changed_day s (DropPeriod from) day k l d n = dropped_period_day s day from k d n
changed_day s (PutEstimate estimate) day k l d n = own_day estimate.day day _ (put_told s estimate day ∙ n)
changed_day s (DropEstimate own) day k l d n = own_day own day _ (drop_told s own day ∙ n)
changed_day s (SetEdition own least) day k l d n = edition_day_changes s (edition_of own least) day k l d n
changed_day s _ day k l d n = same_not (station_day s day) n

-- and so it is of the edit's interval
by_station : (limits : Limits) (kept : List KeptStation) (edit : Edit) (day : ℤ) (o : Option StationState) → station_of (states_of kept) edit.site ≡ o
    → AreStations kept → refusal_of limits (states_of kept) edit ≡ None → IsDay day → keeps_day (states_of kept) edit day ≡ false
    → in_reach (states_of kept) edit.site (touched_by o edit.what) day ≡ true
by_station limits kept edit day None e k r d n = absurd (told_not _ (sym (add_told limits (states_of kept) edit day r e)) n)
by_station limits kept edit day (Some s) e k r d n =
    of_interval (states_of kept) edit.site s (touched_at s edit.what) day e d
    (changed_day s edit.what day (station_is kept edit.site s k.each e) edit.lawful d
    (change_told (states_of kept) edit s day (adds_none limits (states_of kept) edit s r e) e ∙ n))

pub no_day_outside : (limits : Limits) (kept : List KeptStation) (edit : Edit) (day : ℤ) → AreStations kept → refusal_of limits (states_of kept) edit ≡ None
    → IsDay day → keeps_day (states_of kept) edit day ≡ false → in_reach (states_of kept) edit.site (touched_of (states_of kept) edit) day ≡ true
no_day_outside limits kept edit day k r d n = by_station limits kept edit day (station_of (states_of kept) edit.site) refl k r d n
