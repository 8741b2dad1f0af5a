-- A station that is edited keeps to what stations do.
use Rattle.std.specs.Prelude.{◌≡◌, ℕ, ◌≤◌, Bool, false, not, List, [], ◌∷◌, filter, map, slice_index_or, All, AllPairs, IsSome, Option, Some, None, ℤ, ◌<ℤ◌, pos}
use Rattle.std.proofs.Common.{refl, sym, subst}
use Rattle.std.proofs.lemmas.List.Elements.{All-filter, All-head, All-map, All-nil, All-tail, All-weaker}
use Rattle.std.proofs.lemmas.List.Kept.{AllPairs-cons, AllPairs-filter}
use Rattle.curves.specs.Corrections.{Corrections, AreCorrections}
use Rattle.curves.specs.Entries.{IsSeries}
use Rattle.curves.specs.declared.entries.Entry.{Entry}
use Rattle.edits.specs.Lawful.{ArePutReadings, IsPutEstimate, IsPutMeasurement, IsPutPeriod, IsPutReading, IsSetEdition}
use Rattle.edits.specs.declared.estimates.Estimate.{Estimate}
use Rattle.edits.specs.declared.measurements.Measurement.{Measurement}
use Rattle.civil_days.specs.Starts.{IsZone}
use Rattle.fixed_units.specs.Quantities.{IsAmount, IsSite, IsStage, IsStamp, SiteNumber, most_gap}
use Rattle.fixed_units.specs.declared.readings.Flag.{Flag}
use Rattle.fixed_units.specs.declared.readings.Reading.{Reading}
use Rattle.rating_tables.specs.Table.{IsRating}
use Rattle.ratings.specs.Numbered as numbered
use Rattle.ratings.specs.Numbered.{AreRatings, Numbered, StationRatings, rating_of, with_period, with_rating, with_table, without_period}
use Rattle.ratings.specs.Periods.{begin, overlap, share}
use Rattle.ratings.specs.Spans.{Span}
use Rattle.ratings.proofs.RatingsLemmas.{more_ratings_are, with_period_are, without_period_are}
use Rattle.readings.specs.Readings as readings
use Rattle.readings.specs.Readings.{IsRising, flagged_where, instant_of, is_within, put_all, with_flag, without_span}
use Rattle.rising.specs.Lists.{put, without}
use Rattle.rising.proofs.Placing.{put_keeps, put_rises, without_keeps, without_rises}
use Rattle.rising.proofs.Selecting.{AllPairs-head, AllPairs-tail}
use Rattle.station_inputs.specs.declared.station_editions.Edition.{Edition}
use Rattle.station_inputs.specs.KeptStation.{AreAtStamps, AreEditions, AreEstimates, AreMeasurements, AreReadings, IsKeptEdition, IsStation}
use Rattle.station_inputs.specs.Stations.{StationState, described, edition_day, estimated_day, number_of, with_editions, with_estimates, with_inputs, with_measurements, with_ratings, with_readings}

-- as it is added: nothing of it is there that could be out of range
no_pairs : {X : Type 0} (related : X → X → Type 0) → AllPairs related []
no_pairs related i j x before within = All-nil (related (slice_index_or [] i x)) j x within

none_rise : {X : Type 0} (place : X → ℤ) → AllPairs (λ x y. place x <ℤ place y) []
none_rise place = no_pairs (λ x y. place x <ℤ place y)

no_entries : IsSeries []
no_entries = record { rising = none_rise (λ (x : Entry). x.at); amounts = All-nil (λ (x : Entry). All (λ p. IsAmount p.1) x.curve) }

pub new_is : (site : SiteNumber) (name zone : List ℕ) (gap : ℕ) (stages discharges : List ℕ) (sets : Corrections) (shifts : List Entry) (ratings : StationRatings)
    (measurements : List Measurement) (estimates : List Estimate) (editions : List Edition) (rs : List Reading) → IsSite site → IsZone zone → 1 ≤ gap → gap ≤ most_gap
    → sets.first ≡ [] → sets.second ≡ [] → sets.third ≡ [] → shifts ≡ [] → ratings ≡ record { tables = []; periods = [] } → measurements ≡ [] → estimates ≡ []
    → editions ≡ [] → rs ≡ []
    → IsStation (record { site = site; name = name; zone = zone; gap = gap; stage_array = stages; discharge_array = discharges; corrections = sets; shifts = shifts; ratings = ratings; measurements = measurements; estimates = estimates; editions = editions; readings = rs })
new_is site name zone gap stages discharges sets shifts ratings measurements estimates editions rs own places low high one two three h r m e d l = record {
  site_range = own;
  zone_is = places;
  gap_low = low;
  gap_high = high;
  corrections_are = record { first = subst IsSeries (sym one) no_entries; second = subst IsSeries (sym two) no_entries; third = subst IsSeries (sym three) no_entries };
  shifts_are = subst IsSeries (sym h) no_entries;
  entries_at_stamps = record {
    first = subst (All (λ (x : Entry). IsStamp x.at)) (sym one) (All-nil (λ (x : Entry). IsStamp x.at));
    second = subst (All (λ (x : Entry). IsStamp x.at)) (sym two) (All-nil (λ (x : Entry). IsStamp x.at));
    third = subst (All (λ (x : Entry). IsStamp x.at)) (sym three) (All-nil (λ (x : Entry). IsStamp x.at));
    shifts = subst (All (λ (x : Entry). IsStamp x.at)) (sym h) (All-nil (λ (x : Entry). IsStamp x.at));
  };
  ratings_are = subst AreRatings (sym r) (record {
    rising = none_rise numbered.number_of;
    rows = All-nil _;
    apart = record { ordered = All-nil _; rising = none_rise begin; apart = no_pairs (λ (p q : Span). share p q ≡ false) };
    known = All-nil _;
  });
  periods_are = subst (λ (x : StationRatings). All IsPutPeriod x.periods) (sym r) (All-nil IsPutPeriod);
  measurements_are = subst AreMeasurements (sym m) (record { rising = none_rise number_of; each = All-nil _ });
  estimates_are = subst AreEstimates (sym e) (record { rising = none_rise estimated_day; each = All-nil _ });
  editions_are = subst AreEditions (sym d) (record { rising = none_rise edition_day; each = All-nil _ });
  readings_are = subst AreReadings (sym l) (record { rising = none_rise instant_of; stages = All-nil _; stamps = All-nil _ });
}

-- described anew
pub described_is : (s : StationState) (name : List ℕ) (gap : ℕ) (stages discharges : List ℕ) → IsStation s → 1 ≤ gap → gap ≤ most_gap
    → IsStation (described name gap stages discharges s)
described_is s name gap stages discharges k low high = record {
  site_range = k.site_range;
  zone_is = k.zone_is;
  gap_low = low;
  gap_high = high;
  corrections_are = k.corrections_are;
  shifts_are = k.shifts_are;
  entries_at_stamps = k.entries_at_stamps;
  ratings_are = k.ratings_are;
  periods_are = k.periods_are;
  measurements_are = k.measurements_are;
  estimates_are = k.estimates_are;
  editions_are = k.editions_are;
  readings_are = k.readings_are;
}

-- with other inputs
pub inputs_are : (sets : Corrections) (shifts : List Entry) (ratings : StationRatings) (measurements : List Measurement) (estimates : List Estimate) (editions : List Edition)
    (rs : List Reading)
    (s : StationState) → IsStation s → AreCorrections sets → IsSeries shifts → AreAtStamps sets shifts → AreRatings ratings → All IsPutPeriod ratings.periods
    → AreMeasurements measurements → AreEstimates estimates → AreEditions editions → AreReadings rs
    → IsStation (with_inputs sets shifts ratings measurements estimates editions rs s)
inputs_are sets shifts ratings measurements estimates editions rs s k c h t r p m e d l = record {
  site_range = k.site_range;
  zone_is = k.zone_is;
  gap_low = k.gap_low;
  gap_high = k.gap_high;
  corrections_are = c;
  shifts_are = h;
  entries_at_stamps = t;
  ratings_are = r;
  periods_are = p;
  measurements_are = m;
  estimates_are = e;
  editions_are = d;
  readings_are = l;
}

-- with its readings changed
abbrev reread : StationState → List Reading → StationState
reread s new = with_readings (λ old. new) s

reread_is : (s : StationState) (new : List Reading) → IsStation s → AreReadings new → IsStation (reread s new)
reread_is s new k h =
    inputs_are s.corrections s.shifts s.ratings s.measurements s.estimates s.editions new s k
    k.corrections_are k.shifts_are k.entries_at_stamps k.ratings_are k.periods_are k.measurements_are k.estimates_are k.editions_are h

put_all_are : (rs xs : List Reading) → All IsPutReading rs → AreReadings xs → AreReadings (put_all rs xs)
put_all_are [] xs h k = k
put_all_are (r ∷ rs) xs h k =
    let own = All-head IsPutReading r rs h in
    put_all_are rs (readings.put r xs) (All-tail IsPutReading r rs h) (record {
      rising = put_rises instant_of r xs k.rising;
      stages = put_keeps instant_of (λ (x : Reading). IsStage x.raw) r xs own.stage k.stages;
      stamps = put_keeps instant_of (λ (x : Reading). IsStamp x.at) r xs own.stamp k.stamps;
    })

pub readings_put : (s : StationState) (rs new : List Reading) → IsStation s → ArePutReadings rs → new ≡ put_all rs s.readings → IsStation (reread s new)
readings_put s rs new k h e =
    subst (λ (x : List Reading). IsStation (reread s x)) (sym e) (reread_is s (put_all rs s.readings) k (put_all_are rs s.readings h.each k.readings_are))

filtered_are : (p : Reading → Bool) (xs : List Reading) → AreReadings xs → AreReadings (filter p xs)
filtered_are p xs k = record {
  rising = AllPairs-filter (λ (x y : Reading). x.at <ℤ y.at) p xs k.rising;
  stages = All-filter p (λ (x : Reading). IsStage x.raw) xs k.stages;
  stamps = All-filter p (λ (x : Reading). IsStamp x.at) xs k.stamps;
}

pub readings_dropped : (s : StationState) (from to : ℤ) (new : List Reading) → IsStation s → new ≡ without_span from to s.readings → IsStation (reread s new)
readings_dropped s from to new k e =
    subst (λ (x : List Reading). IsStation (reread s x)) (sym e)
    (reread_is s (without_span from to s.readings) k (filtered_are (λ r. not (is_within from to r)) s.readings k.readings_are))

-- a flag moves no reading
abbrev later : Reading → Reading → Type 0
later x y = x.at <ℤ y.at

flagged_rise : (f : Reading → Reading) → ((r : Reading) → (f r).at ≡ r.at) → (xs : List Reading) → IsRising xs → IsRising (map f xs)
flagged_rise f same [] h = h
flagged_rise f same (x ∷ xs) h =
    AllPairs-cons later (f x) (map f xs)
    (All-map (later (f x)) f xs (All-weaker (later x) (λ y. later (f x) (f y)) (λ y l. rw (same x, same y) l) xs (AllPairs-head later x xs h)))
    (flagged_rise f same xs (AllPairs-tail later x xs h))

pub readings_flagged : (s : StationState) (from to : ℤ) (flag : Flag) (new : List Reading) → IsStation s → new ≡ with_flag from to flag s.readings
    → IsStation (reread s new)
readings_flagged s from to flag new k e =
    let f : Reading → Reading = λ r. flagged_where (is_within from to r) flag r in
    subst (λ (x : List Reading). IsStation (reread s x)) (sym e)
    (reread_is s (with_flag from to flag s.readings) k (record {
      rising = flagged_rise f (λ r. refl) s.readings k.readings_are.rising;
      stages = All-map (λ (x : Reading). IsStage x.raw) f s.readings k.readings_are.stages;
      stamps = All-map (λ (x : Reading). IsStamp x.at) f s.readings k.readings_are.stamps;
    }))

-- with its ratings changed
abbrev rated : StationState → StationRatings → StationState
rated s new = with_ratings (λ old. new) s

rated_is : (s : StationState) (new : StationRatings) → IsStation s → AreRatings new → All IsPutPeriod new.periods → IsStation (rated s new)
rated_is s new k h p =
    inputs_are s.corrections s.shifts new s.measurements s.estimates s.editions s.readings s k
    k.corrections_are k.shifts_are k.entries_at_stamps h p k.measurements_are k.estimates_are k.editions_are k.readings_are

more_tables : (x : Numbered) (ratings : StationRatings) (o : Option Numbered) → o ≡ None → AreRatings ratings → IsRating x.rows
    → AreRatings (record { tables = with_table o x ratings.tables; periods = ratings.periods })
more_tables x ratings None e h r = more_ratings_are x ratings h r
more_tables x ratings (Some kept) e h r = h

pub rating_added : (s : StationState) (x : Numbered) (new : StationRatings) → IsStation s → IsRating x.rows → rating_of x.number s.ratings.tables ≡ None
    → new ≡ with_rating x s.ratings → IsStation (rated s new)
rating_added s x new k r none e =
    subst (λ (n : StationRatings). IsStation (rated s n)) (sym e)
    (rated_is s (with_rating x s.ratings) k (more_tables x s.ratings (rating_of x.number s.ratings.tables) none k.ratings_are r) k.periods_are)

pub period_put : (s : StationState) (p : Span) (new : StationRatings) → IsStation s → IsPutPeriod p → IsSome (rating_of p.rating s.ratings.tables)
    → overlap p s.ratings.periods ≡ None → new ≡ with_period p s.ratings → IsStation (rated s new)
period_put s p new k l known free e =
    subst (λ (n : StationRatings). IsStation (rated s n)) (sym e)
    (rated_is s (with_period p s.ratings) k (with_period_are p s.ratings k.ratings_are l.ordered known free) (put_keeps begin IsPutPeriod p s.ratings.periods l k.periods_are))

pub period_dropped : (s : StationState) (from : ℤ) (new : StationRatings) → IsStation s → new ≡ without_period from s.ratings → IsStation (rated s new)
period_dropped s from new k e =
    subst (λ (n : StationRatings). IsStation (rated s n)) (sym e)
    (rated_is s (without_period from s.ratings) k (without_period_are from s.ratings k.ratings_are) (without_keeps begin IsPutPeriod from s.ratings.periods k.periods_are))

-- with its measurements changed
abbrev measured : StationState → List Measurement → StationState
measured s new = with_measurements (λ old. new) s

measured_is : (s : StationState) (new : List Measurement) → IsStation s → AreMeasurements new → IsStation (measured s new)
measured_is s new k h =
    inputs_are s.corrections s.shifts s.ratings new s.estimates s.editions s.readings s k
    k.corrections_are k.shifts_are k.entries_at_stamps k.ratings_are k.periods_are h k.estimates_are k.editions_are k.readings_are

pub measurement_put : (s : StationState) (m : Measurement) (new : List Measurement) → IsStation s → IsPutMeasurement m → new ≡ put number_of m s.measurements
    → IsStation (measured s new)
measurement_put s m new k l e =
    subst (λ (n : List Measurement). IsStation (measured s n)) (sym e)
    (measured_is s (put number_of m s.measurements) k (record {
      rising = put_rises number_of m s.measurements k.measurements_are.rising;
      each = put_keeps number_of IsPutMeasurement m s.measurements l k.measurements_are.each;
    }))

pub measurement_dropped : (s : StationState) (number : ℕ) (new : List Measurement) → IsStation s → new ≡ without number_of (pos number) s.measurements
    → IsStation (measured s new)
measurement_dropped s number new k e =
    subst (λ (n : List Measurement). IsStation (measured s n)) (sym e)
    (measured_is s (without number_of (pos number) s.measurements) k (record {
      rising = without_rises number_of (pos number) s.measurements k.measurements_are.rising;
      each = without_keeps number_of IsPutMeasurement (pos number) s.measurements k.measurements_are.each;
    }))

-- with its estimates changed
abbrev estimated : StationState → List Estimate → StationState
estimated s new = with_estimates (λ old. new) s

estimated_is : (s : StationState) (new : List Estimate) → IsStation s → AreEstimates new → IsStation (estimated s new)
estimated_is s new k h =
    inputs_are s.corrections s.shifts s.ratings s.measurements new s.editions s.readings s k
    k.corrections_are k.shifts_are k.entries_at_stamps k.ratings_are k.periods_are k.measurements_are h k.editions_are k.readings_are

pub estimate_put : (s : StationState) (e : Estimate) (new : List Estimate) → IsStation s → IsPutEstimate e → new ≡ put estimated_day e s.estimates
    → IsStation (estimated s new)
estimate_put s x new k l e =
    subst (λ (n : List Estimate). IsStation (estimated s n)) (sym e)
    (estimated_is s (put estimated_day x s.estimates) k (record {
      rising = put_rises estimated_day x s.estimates k.estimates_are.rising;
      each = put_keeps estimated_day IsPutEstimate x s.estimates l k.estimates_are.each;
    }))

pub estimate_dropped : (s : StationState) (day : ℤ) (new : List Estimate) → IsStation s → new ≡ without estimated_day day s.estimates
    → IsStation (estimated s new)
estimate_dropped s day new k e =
    subst (λ (n : List Estimate). IsStation (estimated s n)) (sym e)
    (estimated_is s (without estimated_day day s.estimates) k (record {
      rising = without_rises estimated_day day s.estimates k.estimates_are.rising;
      each = without_keeps estimated_day IsPutEstimate day s.estimates k.estimates_are.each;
    }))

-- with an edition put
abbrev with_edition_list : StationState → List Edition → StationState
with_edition_list s new = with_editions (λ old. new) s

pub edition_put : (s : StationState) (x : Edition) (new : List Edition) → IsStation s → IsSetEdition x.day x.least → new ≡ put edition_day x s.editions
    → IsStation (with_edition_list s new)
edition_put s x new k l e =
    subst (λ (n : List Edition). IsStation (with_edition_list s n)) (sym e)
    (inputs_are s.corrections s.shifts s.ratings s.measurements s.estimates (put edition_day x s.editions) s.readings s k
    k.corrections_are k.shifts_are k.entries_at_stamps k.ratings_are k.periods_are k.measurements_are k.estimates_are (record {
      rising = put_rises edition_day x s.editions k.editions_are.rising;
      each = put_keeps edition_day IsKeptEdition x s.editions l k.editions_are.each;
    }) k.readings_are)
