-- How an edit of a station raises its counts that have limits.
use Rattle.std.specs.Prelude.{◌≡◌, ℕ, zero, suc, ◌+◌, ◌≤◌, Bool, true, false, not, ◌&&◌, ◌||◌, cond, if◌then◌else◌, ◌⊎◌, nat_le, nat_lt, List, length, is_some, Option, Some, None, ℤ, pos}
use Rattle.std.specs.List.{list_any}
use Rattle.std.proofs.Common.{arith, refl, ap, sym, subst, inl, inr, ◌∙◌}
use Rattle.rising.specs.Lists.{IsRising, at, put, without}
use Rattle.curves.specs.declared.entries.Entry.{Entry}
use Rattle.curves.specs.Entries as entries
use Rattle.edits.specs.Lawful.{IsLawful, IsSetNumber}
use Rattle.edits.specs.declared.content.What.{What}
use Rattle.edits.specs.declared.decisions.Decision.{Decision}
use Rattle.edits.specs.declared.content.What.TheVariants.{AddStation, SetStation, PutReadings, DropReadings, FlagReadings, DropCorrection, DropShift, DropPeriod, PutEstimate, DropEstimate, DropMeasurement, Review, Decide}
use Rattle.edits.specs.declared.estimates.Estimate.{Estimate}
use Rattle.edits.specs.declared.measurements.Measurement.{Measurement}
use Rattle.fixed_units.specs.Quantities.{IsStamp}
use Rattle.fixed_units.specs.declared.readings.Flag.{Flag}
use Rattle.fixed_units.specs.declared.readings.Reading.{Reading}
use Rattle.ratings.specs.Numbered as numbered
use Rattle.ratings.specs.Numbered.{Numbered, period_from, rating_of, with_period, with_rating, with_table, without_period}
use Rattle.ratings.specs.Periods.{begin}
use Rattle.ratings.specs.Spans.{Span}
use Rattle.station_inputs.specs.Counts.{passed_count, passes, passes_a_series, most_ratings, most_editions, most_entries, most_periods, most_measurements}
use Rattle.station_inputs.specs.KeptStation.{IsStation}
use Rattle.station_inputs.specs.Series.{IsOfStation, all_series}
use Rattle.station_inputs.specs.Stations.{StationState, edition_day, measurement_of, number_of, series_of, station_after, with_editions, with_entry, with_measurements, with_ratings, with_series, without_entry}
use Rattle.station_inputs.specs.declared.station_editions.Edition.{Edition}
use Rattle.station_inputs.specs.declared.counts.Counted.{Counted}
use Rattle.station_inputs.specs.declared.counts.Counted.TheVariants as counts
use Rattle.station_inputs.specs.declared.series.StationSeries.{StationSeries}
use Rattle.station_inputs.specs.declared.series.StationSeries.TheVariants.{Correction, Shift}
use Rattle.station_inputs.proofs.LengthLemmas.{length_put_new, length_put_same, without_shorter}
use Rattle.station_inputs.proofs.SeriesLemmas.{series_are}

-- a count that is not raised passes no limit, and one raised by one passes where one more does
below_not : (n m : ℕ) → m ≤ n → nat_lt n m ≡ false
below_not n m h = grind (arith, h)

not_raised : (limit n m : ℕ) → m ≤ n → passes limit n m ≡ false
not_raised limit n m h = let k = below_not n m h in rw k refl

below_next : (n : ℕ) → nat_lt n (n + 1) ≡ true
below_next n = grind arith

reached : (limit n : ℕ) → nat_lt limit (n + 1) ≡ nat_le limit n
reached limit n = grind arith

next_passes : (limit n m : ℕ) → m ≡ n + 1 → passes limit n m ≡ nat_le limit n
next_passes limit n m e = rw (e, below_next n) (reached limit n)

as_many : (limit n : ℕ) → passes limit n n ≡ false
as_many limit n = not_raised limit n n (omega arith)

-- whether one more passes, where nothing stands in the place that it is put
abbrev one_more : ℕ → Bool → ℕ → Bool
one_more limit there count = not there && nat_le limit count

module _ {X : Type 0} (place : X → ℤ) where
  put_step : (limit : ℕ) (x : X) (xs : List X) (o : Option X) → IsRising place xs → at place (place x) xs ≡ o
      → passes limit (length xs) (length (put place x xs)) ≡ one_more limit (is_some o) (length xs)
  put_step limit x xs None h e = next_passes limit (length xs) (length (put place x xs)) (length_put_new place x xs h e)
  put_step limit x xs (Some y) h e = let l = length_put_same place x y xs h e in not_raised limit (length xs) (length (put place x xs)) (omega (arith, l))

  put_passes : (limit : ℕ) (x : X) (xs : List X) → IsRising place xs
      → passes limit (length xs) (length (put place x xs)) ≡ one_more limit (is_some (at place (place x) xs)) (length xs)
  put_passes limit x xs h = put_step limit x xs (at place (place x) xs) h refl

  without_passes : (limit : ℕ) (n : ℤ) (xs : List X) → IsRising place xs → passes limit (length xs) (length (without place n xs)) ≡ false
  without_passes limit n xs h = not_raised limit (length xs) (length (without place n xs)) (without_shorter place n xs h)

-- a rating stays under its number
table_passes : (limit : ℕ) (x : Numbered) (tables : List Numbered) (o : Option Numbered) → IsRising numbered.number_of tables → rating_of x.number tables ≡ o
    → passes limit (length tables) (length (with_table o x tables)) ≡ one_more limit (is_some o) (length tables)
table_passes limit x tables None h e = put_step numbered.number_of limit x tables None h e
table_passes limit x tables (Some kept) h e = as_many limit (length tables)

-- the four series of a station are asked in turn
any_series : (f : StationSeries → Bool) (a b c d : Bool) → f (Correction 1) ≡ a → f (Correction 2) ≡ b → f (Correction 3) ≡ c → f Shift ≡ d
    → list_any f all_series ≡ (a || (b || (c || (d || false))))
any_series f a b c d e g h i = rw (e, g, h, i) refl

or_none : (b : Bool) → (b || false) ≡ b
or_none true = refl
or_none false = refl

-- a station with one series changed raises the count of no other
abbrev raised : StationState → StationSeries → (List Entry → List Entry) → StationSeries → Bool
raised s own change which = passes most_entries (length (series_of which s)) (length (series_of which (with_series own change s)))

few : (es : List Entry) → passes most_entries (length es) (length es) ≡ false
few es = as_many most_entries (length es)

one_series : (s : StationState) (which : StationSeries) (change : List Entry → List Entry) (b : Bool) → IsOfStation which
    → passes most_entries (length (series_of which s)) (length (change (series_of which s))) ≡ b → passes_a_series s (with_series which change s) ≡ b
one_series s (Correction zero) change b i e = absurd (let l = i.least in omega arith)
one_series s (Correction (suc zero)) change b i e =
    any_series (raised s (Correction 1) change) b false false false e (few s.corrections.second) (few s.corrections.third) (few s.shifts) ∙ or_none b
one_series s (Correction (suc (suc zero))) change b i e =
    any_series (raised s (Correction 2) change) false b false false (few s.corrections.first) e (few s.corrections.third) (few s.shifts) ∙ or_none b
one_series s (Correction (suc (suc (suc zero)))) change b i e =
    any_series (raised s (Correction 3) change) false false b false (few s.corrections.first) (few s.corrections.second) e (few s.shifts) ∙ or_none b
one_series s (Correction (suc (suc (suc (suc n))))) change b i e = absurd (let g = i.greatest in omega arith)
one_series s Shift change b i e =
    any_series (raised s Shift change) false false false b (few s.corrections.first) (few s.corrections.second) (few s.corrections.third) e ∙ or_none b

kept_series : (s : StationState) → passes_a_series s s ≡ false
kept_series s =
    any_series (λ which. passes most_entries (length (series_of which s)) (length (series_of which s))) false false false false
    (few s.corrections.first) (few s.corrections.second) (few s.corrections.third) (few s.shifts)

-- the first count that is passed, by the five tests
abbrev in_order : Bool → Bool → Bool → Bool → Bool → Option Counted
in_order a b c d e =
    cond a (Some counts.Ratings) (cond b (Some counts.Entries) (cond c (Some counts.Periods) (cond d (Some counts.Measurements) (cond e (Some counts.Editions) None))))

order_same : (a b c d e a' b' c' d' e' : Bool) → a ≡ a' → b ≡ b' → c ≡ c' → d ≡ d' → e ≡ e' → in_order a b c d e ≡ in_order a' b' c' d' e'
order_same a b c d e a' b' c' d' e' f g h i j = rw (f, g, h, i, j) refl

by_tests : (s t : StationState) (a b c d e : Bool) → passes most_ratings (length s.ratings.tables) (length t.ratings.tables) ≡ a → passes_a_series s t ≡ b
    → passes most_periods (length s.ratings.periods) (length t.ratings.periods) ≡ c → passes most_measurements (length s.measurements) (length t.measurements) ≡ d
    → passes most_editions (length s.editions) (length t.editions) ≡ e → passed_count s t ≡ in_order a b c d e
by_tests s t a b c d e f g h i j =
    order_same (passes most_ratings (length s.ratings.tables) (length t.ratings.tables)) (passes_a_series s t)
    (passes most_periods (length s.ratings.periods) (length t.ratings.periods)) (passes most_measurements (length s.measurements) (length t.measurements))
    (passes most_editions (length s.editions) (length t.editions)) a b c d e f g h i j

few_ratings : (s : StationState) → passes most_ratings (length s.ratings.tables) (length s.ratings.tables) ≡ false
few_ratings s = as_many most_ratings (length s.ratings.tables)

few_periods : (s : StationState) → passes most_periods (length s.ratings.periods) (length s.ratings.periods) ≡ false
few_periods s = as_many most_periods (length s.ratings.periods)

few_measurements : (s : StationState) → passes most_measurements (length s.measurements) (length s.measurements) ≡ false
few_measurements s = as_many most_measurements (length s.measurements)

few_editions : (s : StationState) → passes most_editions (length s.editions) (length s.editions) ≡ false
few_editions s = as_many most_editions (length s.editions)

-- the refusal where one more passes, and none where not
abbrev pub raised_past : Counted → ℕ → Bool → ℕ → Option Counted
raised_past which limit there count = if one_more limit there count then Some which else None

-- the count of each kind
pub rating_count : (s : StationState) (x : Numbered) → IsStation s
    → passed_count s (with_ratings (with_rating x) s) ≡ raised_past counts.Ratings most_ratings (is_some (rating_of x.number s.ratings.tables)) (length s.ratings.tables)
rating_count s x k =
    let there = is_some (rating_of x.number s.ratings.tables) in
    by_tests s (with_ratings (with_rating x) s) (one_more most_ratings there (length s.ratings.tables)) false false false false
    (table_passes most_ratings x s.ratings.tables (rating_of x.number s.ratings.tables) k.ratings_are.rising refl) (kept_series s) (few_periods s) (few_measurements s) (few_editions s)

pub entry_count : (s : StationState) (which : StationSeries) (entry : Entry) → IsStation s → IsOfStation which
    → passed_count s (with_entry which entry s) ≡ raised_past counts.Entries most_entries (entries.stands_at entry.at (series_of which s)) (length (series_of which s))
entry_count s which entry k i =
    let es = series_of which s in
    let there = entries.stands_at entry.at es in
    by_tests s (with_entry which entry s) false (one_more most_entries there (length es)) false false false (few_ratings s)
    (one_series s which (entries.put entry) (one_more most_entries there (length es)) i
    (put_passes entries.instant_of most_entries entry es (series_are s which k i).series.rising)) (few_periods s) (few_measurements s) (few_editions s)

pub period_count : (s : StationState) (p : Span) → IsStation s
    → passed_count s (with_ratings (with_period p) s) ≡ raised_past counts.Periods most_periods (is_some (period_from p.from s.ratings.periods)) (length s.ratings.periods)
period_count s p k =
    let there = is_some (period_from p.from s.ratings.periods) in
    by_tests s (with_ratings (with_period p) s) false false (one_more most_periods there (length s.ratings.periods)) false false (few_ratings s) (kept_series s)
    (put_passes begin most_periods p s.ratings.periods k.ratings_are.apart.rising) (few_measurements s) (few_editions s)

pub measurement_count : (s : StationState) (m : Measurement) → IsStation s
    → passed_count s (with_measurements (put number_of m) s) ≡ raised_past counts.Measurements most_measurements (is_some (measurement_of m.number s)) (length s.measurements)
measurement_count s m k =
    let there = is_some (measurement_of m.number s) in
    by_tests s (with_measurements (put number_of m) s) false false false (one_more most_measurements there (length s.measurements)) false (few_ratings s) (kept_series s)
    (few_periods s) (put_passes number_of most_measurements m s.measurements k.measurements_are.rising) (few_editions s)

pub edition_count : (s : StationState) (e : Edition) → IsStation s
    → passed_count s (with_editions (put edition_day e) s) ≡ raised_past counts.Editions most_editions (is_some (at edition_day e.day s.editions)) (length s.editions)
edition_count s e k =
    let there = is_some (at edition_day e.day s.editions) in
    by_tests s (with_editions (put edition_day e) s) false false false false (one_more most_editions there (length s.editions)) (few_ratings s) (kept_series s)
    (few_periods s) (few_measurements s) (put_passes edition_day most_editions e s.editions k.editions_are.rising)

-- what is taken out raises none
no_entry_count : (s : StationState) (which : StationSeries) (at : ℤ) → IsStation s → IsOfStation which → passed_count s (without_entry which at s) ≡ None
no_entry_count s which at k i =
    by_tests s (without_entry which at s) false false false false false (few_ratings s)
    (one_series s which (entries.without at) false i (without_passes entries.instant_of most_entries at (series_of which s) (series_are s which k i).series.rising))
    (few_periods s) (few_measurements s) (few_editions s)

no_period_count : (s : StationState) (from : ℤ) → IsStation s → passed_count s (with_ratings (without_period from) s) ≡ None
no_period_count s from k =
    by_tests s (with_ratings (without_period from) s) false false false false false (few_ratings s) (kept_series s)
    (without_passes begin most_periods from s.ratings.periods k.ratings_are.apart.rising) (few_measurements s) (few_editions s)

no_measurement_count : (s : StationState) (number : ℕ) → IsStation s → passed_count s (with_measurements (without number_of (pos number)) s) ≡ None
no_measurement_count s number k =
    by_tests s (with_measurements (without number_of (pos number)) s) false false false false false (few_ratings s) (kept_series s) (few_periods s)
    (without_passes number_of most_measurements (pos number) s.measurements k.measurements_are.rising) (few_editions s)

-- nor does what keeps all that is counted
pub same_count : (s : StationState) → passed_count s s ≡ None
same_count s = by_tests s s false false false false false (few_ratings s) (kept_series s) (few_periods s) (few_measurements s) (few_editions s)

-- the edits that raise no count are these
abbrev pub RaisesNone : What → Type 0
RaisesNone what =
    ((name : List ℕ) × (zone : List ℕ) × (gap : ℕ) × (stages : List ℕ) × (discharges : List ℕ) × (what ≡ AddStation name zone gap stages discharges))
    ⊎ (((name : List ℕ) × (gap : ℕ) × (stages : List ℕ) × (discharges : List ℕ) × (what ≡ SetStation name gap stages discharges))
    ⊎ (((readings : List Reading) × (what ≡ PutReadings readings))
    ⊎ (((from : ℤ) × (to : ℤ) × (what ≡ DropReadings from to))
    ⊎ (((from : ℤ) × (to : ℤ) × (flag : Flag) × (what ≡ FlagReadings from to flag))
    ⊎ (((set : ℕ) × (at : ℤ) × (what ≡ DropCorrection set at))
    ⊎ (((at : ℤ) × (what ≡ DropShift at))
    ⊎ (((from : ℤ) × (what ≡ DropPeriod from))
    ⊎ (((estimate : Estimate) × (what ≡ PutEstimate estimate))
    ⊎ (((day : ℤ) × (what ≡ DropEstimate day))
    ⊎ (((number : ℕ) × (what ≡ DropMeasurement number))
    ⊎ (((from : ℤ) × (to : ℤ) × (what ≡ Review from to))
    ⊎ ((from : ℤ) × (to : ℤ) × (decision : Decision) × (what ≡ Decide from to decision)))))))))))))

told_at : (s : StationState) (what other : What) → what ≡ other → passed_count s (station_after other s) ≡ None → None ≡ passed_count s (station_after what s)
told_at s what other e h = sym (ap (λ (w : What). passed_count s (station_after w s)) e ∙ h)

pub none_raised : (s : StationState) (what : What) → IsStation s → IsLawful what → RaisesNone what → None ≡ passed_count s (station_after what s)
none_raised s what k l (inl p) = told_at s what (AddStation p.0 p.1 p.2 p.3 p.4) p.5 (same_count s)
none_raised s what k l (inr (inl p)) = told_at s what (SetStation p.0 p.1 p.2 p.3) p.4 (same_count s)
none_raised s what k l (inr (inr (inl p))) = told_at s what (PutReadings p.0) p.1 (same_count s)
none_raised s what k l (inr (inr (inr (inl p)))) = told_at s what (DropReadings p.0 p.1) p.2 (same_count s)
none_raised s what k l (inr (inr (inr (inr (inl p))))) = told_at s what (FlagReadings p.0 p.1 p.2) p.3 (same_count s)
none_raised s what k l (inr (inr (inr (inr (inr (inl p)))))) =
    let lawful : IsSetNumber p.0 × IsStamp p.1 = subst IsLawful p.2 l in
    told_at s what (DropCorrection p.0 p.1) p.2 (no_entry_count s (Correction p.0) p.1 k lawful.0)
none_raised s what k l (inr (inr (inr (inr (inr (inr (inl p))))))) = told_at s what (DropShift p.0) p.1 (no_entry_count s Shift p.0 k tt)
none_raised s what k l (inr (inr (inr (inr (inr (inr (inr (inl p)))))))) = told_at s what (DropPeriod p.0) p.1 (no_period_count s p.0 k)
none_raised s what k l (inr (inr (inr (inr (inr (inr (inr (inr (inl p))))))))) = told_at s what (PutEstimate p.0) p.1 (same_count s)
none_raised s what k l (inr (inr (inr (inr (inr (inr (inr (inr (inr (inl p)))))))))) = told_at s what (DropEstimate p.0) p.1 (same_count s)
none_raised s what k l (inr (inr (inr (inr (inr (inr (inr (inr (inr (inr (inl p))))))))))) = told_at s what (DropMeasurement p.0) p.1 (no_measurement_count s p.0 k)
none_raised s what k l (inr (inr (inr (inr (inr (inr (inr (inr (inr (inr (inr (inl p)))))))))))) = told_at s what (Review p.0 p.1) p.2 (same_count s)
none_raised s what k l (inr (inr (inr (inr (inr (inr (inr (inr (inr (inr (inr (inr p)))))))))))) = told_at s what (Decide p.0 p.1 p.2) p.3 (same_count s)
