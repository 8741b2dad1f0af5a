-- What holds of every edit of a station.
use Rattle.std.specs.Prelude.{◌≡◌, ℕ, ◌⊎◌, List, Option, Some, None, is_some, IsSome, true, ℤ}
use Rattle.std.proofs.Common.{refl, ap, sym, inl, inr, ◌∙◌}
use Rattle.edits.specs.Lawful.{IsLawful}
use Rattle.edits.specs.declared.content.What.{What}
use Rattle.edits.specs.declared.decisions.Decision.{Decision}
use Rattle.edits.specs.declared.content.What.TheVariants.{AddStation, SetStation, PutReadings, DropReadings, FlagReadings, PutCorrection, DropCorrection, PutShift, DropShift, AddRating, PutPeriod, DropPeriod, PutEstimate, DropEstimate, PutMeasurement, DropMeasurement, Review, Decide, SetEdition}
use Rattle.curves.specs.Entries.{entry_of}
use Rattle.edits.specs.declared.measurements.Measurement.{Measurement}
use Rattle.rating_tables.specs.Table.{Row}
use Rattle.day_inputs.specs.Equality.{same_inputs}
use Rattle.station_inputs.specs.Changes.{keeps_station_day}
use Rattle.station_inputs.proofs.PeriodDays.{rating_told}
use Rattle.station_inputs.proofs.StationLemmas.{same_of}
use Rattle.ratings.specs.Numbered.{Numbered, rating_of}
use Rattle.ratings.specs.Periods.{overlap}
use Rattle.station_inputs.specs.KeptStation.{IsStation}
use Rattle.station_inputs.specs.Obstacles.{obstacle, period_obstacle, rating_obstacle}
use Rattle.station_inputs.specs.Stations.{StationState, day_start, edition_of, station_after, station_day}
use Rattle.station_inputs.specs.declared.series.StationSeries.TheVariants.{Correction, Shift}
use Rattle.station_inputs.proofs.KeptLemmas.{described_is, readings_put, readings_dropped, readings_flagged, rating_added, period_put, period_dropped, edition_put, estimate_put, estimate_dropped, measurement_put, measurement_dropped}
use Rattle.station_inputs.proofs.SeriesLemmas.{put_station, without_station}

pub same_site : (what : What) (s : StationState) → (station_after what s).site ≡ s.site
same_site (AddStation name zone gap stages discharges) s = refl
same_site _ s = refl

pub same_days : (what : What) (s : StationState) (day : ℤ) → day_start (station_after what s) day ≡ day_start s day
same_days (AddStation name zone gap stages discharges) s day = refl
same_days _ s day = refl

-- what nothing that stands in the way tells of the ratings
pub is_free : (o : Option Numbered) → rating_obstacle (is_some o) ≡ None → o ≡ None
is_free None e = refl
is_free (Some kept) e = absurd (cc)

pub is_known : (o : Option Numbered) (overlapped : Option ℤ) → period_obstacle (is_some o) overlapped ≡ None → IsSome o × (overlapped ≡ None)
is_known None overlapped e = absurd (cc)
is_known (Some kept) None e = (refl, refl)
is_known (Some kept) (Some at) e = absurd (cc)

pub still_station : (what : What) (s : StationState) → IsStation s → IsLawful what → obstacle s what ≡ None → IsStation (station_after what s)
still_station (AddStation name zone gap stages discharges) s k l e = k
still_station (SetStation name gap stages discharges) s k l e = described_is s name gap stages discharges k l.near.low l.near.high
still_station (PutReadings readings) s k l e = readings_put s readings _ k l refl
still_station (DropReadings from to) s k l e = readings_dropped s from to _ k refl
still_station (FlagReadings from to flag) s k l e = readings_flagged s from to flag _ k refl
still_station (PutCorrection set at curve prorate) s k l e = put_station s (Correction set) (entry_of at curve prorate) k l.0 l.2 l.1
still_station (DropCorrection set at) s k l e = without_station s (Correction set) at k l.0
still_station (PutShift at curve prorate) s k l e = put_station s Shift (entry_of at curve prorate) k tt l.1 l.0
still_station (DropShift at) s k l e = without_station s Shift at k tt
still_station (AddRating rating table) s k l e =
    rating_added s (record { number = rating; rows = table }) _ k l.1 (is_free (rating_of rating s.ratings.tables) e) refl
still_station (PutPeriod period) s k l e =
    let h = is_known (rating_of period.rating s.ratings.tables) (overlap period s.ratings.periods) e in
    period_put s period _ k l h.0 h.1 refl
still_station (DropPeriod from) s k l e = period_dropped s from _ k refl
still_station (PutEstimate estimate) s k l e = estimate_put s estimate _ k l refl
still_station (DropEstimate own) s k l e = estimate_dropped s own _ k refl
still_station (PutMeasurement measurement) s k l e = measurement_put s measurement _ k l refl
still_station (DropMeasurement number) s k l e = measurement_dropped s number _ k refl
still_station (Review from to) s k l e = k
still_station (Decide from to decision) s k l e = k
still_station (SetEdition day least) s k l e = edition_put s (edition_of day least) _ k l refl

-- the edits that change no inputs of a day are these
abbrev pub ChangesNone : What → Type 0
ChangesNone what =
    ((name : List ℕ) × (zone : List ℕ) × (gap : ℕ) × (stages : List ℕ) × (discharges : List ℕ) × (what ≡ AddStation name zone gap stages discharges))
    ⊎ (((rating : ℕ) × (table : List Row) × (what ≡ AddRating rating table))
    ⊎ (((measurement : Measurement) × (what ≡ PutMeasurement measurement))
    ⊎ (((number : ℕ) × (what ≡ DropMeasurement number))
    ⊎ (((from : ℤ) × (to : ℤ) × (what ≡ Review from to))
    ⊎ ((from : ℤ) × (to : ℤ) × (decision : Decision) × (what ≡ Decide from to decision))))))

told_at : (s : StationState) (what other : What) (day : ℤ) → what ≡ other → true ≡ keeps_station_day s other day → true ≡ keeps_station_day s what day
told_at s what other day e h = h ∙ ap (λ (w : What). keeps_station_day s w day) (sym e)

same_day : (s : StationState) (day : ℤ) → true ≡ same_inputs (station_day s day) (station_day s day)
same_day s day = sym (same_of (station_day s day) (station_day s day) refl)

pub none_changed : (s : StationState) (what : What) (day : ℤ) → IsStation s → ChangesNone what → true ≡ keeps_station_day s what day
none_changed s what day k (inl p) = told_at s what (AddStation p.0 p.1 p.2 p.3 p.4) day p.5 (same_day s day)
none_changed s what day k (inr (inl p)) = told_at s what (AddRating p.0 p.1) day p.2 (rating_told s day (record { number = p.0; rows = p.1 }) k)
none_changed s what day k (inr (inr (inl p))) = told_at s what (PutMeasurement p.0) day p.1 (same_day s day)
none_changed s what day k (inr (inr (inr (inl p)))) = told_at s what (DropMeasurement p.0) day p.1 (same_day s day)
none_changed s what day k (inr (inr (inr (inr (inl p))))) = told_at s what (Review p.0 p.1) day p.2 (same_day s day)
none_changed s what day k (inr (inr (inr (inr (inr p))))) = told_at s what (Decide p.0 p.1 p.2) day p.3 (same_day s day)
