-- The inputs of a day where a series of its station is changed: they stay exactly where the entries that bear on its window do.
use Rattle.std.specs.Prelude.{◌≡◌, ℕ, Bool, true, false, not, cond, ◌==◌, ◌||◌, List, [], Option, Some, IfSome, ℤ, pos, ◌+ℤ◌, ◌≤ℤ◌}
use Rattle.std.proofs.Common.{refl, ap, sym, subst, ◌∙◌}
use Rattle.fixed_units.specs.declared.readings.Reading.{Reading}
use Rattle.curves.specs.declared.entries.Entry.{Entry}
use Rattle.curves.specs.Bearing.{bearing, bears_at}
use Rattle.curves.specs.Corrections.{Corrections}
use Rattle.curves.specs.Entries.{IsRising, put, without, stands_at}
use Rattle.curves.specs.Equality.{same_entries, has_entry}
use Rattle.curves.proofs.ChangeLemmas.{bearing_put, bearing_without}
use Rattle.curves.proofs.EqualityLemmas.{lists_decide}
use Rattle.ratings.specs.Numbered.{StationRatings}
use Rattle.ratings.specs.Parts.{parts}
use Rattle.day_inputs.specs.DayInputs.{window_ends}
use Rattle.day_inputs.specs.Equality.{same_inputs}
use Rattle.day_inputs.specs.declared.day_inputs.DayInputs.{DayInputs}
use Rattle.day_inputs.specs.declared.day_inputs.DayInputs.TheVariants.{Empty, Day}
use Rattle.station_inputs.specs.Series.{corrections_with, entries_in, shifts_with}
use Rattle.station_inputs.specs.Stations.{StationState, estimated_discharge, least_cover, series_of, station_day, station_window, day_start, with_series, with_entry, without_entry}
use Rattle.station_inputs.specs.declared.series.StationSeries.{StationSeries}
use Rattle.station_inputs.specs.declared.series.StationSeries.TheVariants.{Correction, Shift}
use Rattle.station_inputs.proofs.SeriesLemmas.{nothing_taken}
use Rattle.station_inputs.proofs.StationLemmas.{told_by}
use Rattle.station_inputs.proofs.WindowDays.{carried, carrying, with_ends}

-- the entries that a day's inputs carry
abbrev in_first : DayInputs → List Entry
in_first Empty = []
in_first (Day p) = p.first

abbrev in_second : DayInputs → List Entry
in_second Empty = []
in_second (Day p) = p.second

abbrev in_third : DayInputs → List Entry
in_third Empty = []
in_third (Day p) = p.third

abbrev in_shifts : DayInputs → List Entry
in_shifts Empty = []
in_shifts (Day p) = p.shifts

-- the inputs of a day that has this window
module _ (gap : ℕ) (stages discharges : List ℕ) (from until : ℤ) (w : List Reading) (estimate : Option ℤ) (least : Option ℕ) (lo hi : ℤ) (ratings : StationRatings) where
  -- with these entries of its series
  abbrev bearing_day : List Entry → List Entry → List Entry → List Entry → DayInputs
  bearing_day one two three four = carrying gap stages discharges from until w estimate least one two three four (parts lo hi ratings.tables ratings.periods)

  abbrev day_with : Corrections → List Entry → DayInputs
  day_with c sh = carried gap stages discharges from until w estimate least lo hi c sh ratings

  -- with one of the sets changed
  abbrev set_in : Bool → Bool → Corrections → List Entry
  set_in one two c = cond one c.first (cond two c.second c.third)

  abbrev set_changed : Bool → Bool → (List Entry → List Entry) → Corrections → Corrections
  set_changed one two change c =
      cond one (record { first = change c.first; second = c.second; third = c.third })
      (cond two (record { first = c.first; second = change c.second; third = c.third })
      (record { first = c.first; second = c.second; third = change c.third }))

  set_same : (one two : Bool) (change : List Entry → List Entry) (c : Corrections) (sh : List Entry)
      → bearing lo hi (set_in one two c) ≡ bearing lo hi (change (set_in one two c)) → day_with c sh ≡ day_with (set_changed one two change c) sh
  set_same true two change c sh e = ap (λ (x : List Entry). bearing_day x (bearing lo hi c.second) (bearing lo hi c.third) (bearing lo hi sh)) e
  set_same false true change c sh e = ap (λ (x : List Entry). bearing_day (bearing lo hi c.first) x (bearing lo hi c.third) (bearing lo hi sh)) e
  set_same false false change c sh e = ap (λ (x : List Entry). bearing_day (bearing lo hi c.first) (bearing lo hi c.second) x (bearing lo hi sh)) e

  set_back : (one two : Bool) (change : List Entry → List Entry) (c : Corrections) (sh : List Entry)
      → day_with c sh ≡ day_with (set_changed one two change c) sh → bearing lo hi (set_in one two c) ≡ bearing lo hi (change (set_in one two c))
  set_back true two change c sh e = ap in_first e
  set_back false true change c sh e = ap in_second e
  set_back false false change c sh e = ap in_third e

  -- with one of the series changed
  same_days : (which : StationSeries) (change : List Entry → List Entry) (c : Corrections) (sh : List Entry)
      → bearing lo hi (entries_in which c sh) ≡ bearing lo hi (change (entries_in which c sh))
      → day_with c sh ≡ day_with (corrections_with which change c) (shifts_with which change sh)
  same_days (Correction set) change c sh e = set_same (set == 1) (set == 2) change c sh e
  same_days Shift change c sh e = ap (λ (x : List Entry). bearing_day (bearing lo hi c.first) (bearing lo hi c.second) (bearing lo hi c.third) x) e

  same_back : (which : StationSeries) (change : List Entry → List Entry) (c : Corrections) (sh : List Entry)
      → day_with c sh ≡ day_with (corrections_with which change c) (shifts_with which change sh)
      → bearing lo hi (entries_in which c sh) ≡ bearing lo hi (change (entries_in which c sh))
  same_back (Correction set) change c sh e = set_back (set == 1) (set == 2) change c sh e
  same_back Shift change c sh e = ap in_shifts e

  series_step : (which : StationSeries) (change : List Entry → List Entry) (c : Corrections) (sh : List Entry)
      → same_entries (bearing lo hi (entries_in which c sh)) (bearing lo hi (change (entries_in which c sh)))
      ≡ same_inputs (day_with c sh) (day_with (corrections_with which change c) (shifts_with which change sh))
  series_step which change c sh =
      let old = bearing lo hi (entries_in which c sh) in
      let new = bearing lo hi (change (entries_in which c sh)) in
      told_by (day_with c sh) (day_with (corrections_with which change c) (shifts_with which change sh)) (same_entries old new)
      (λ e. same_days which change c sh ((lists_decide old new).0 e)) (λ d. (lists_decide old new).1 (same_back which change c sh d))

-- a day keeps its inputs where its bearing entries stay
series_told : (s : StationState) (day : ℤ) (which : StationSeries) (change : List Entry → List Entry) (lo hi : ℤ) → window_ends (station_window s day) ≡ Some (lo, hi)
    → same_entries (bearing lo hi (series_of which s)) (bearing lo hi (change (series_of which s))) ≡ same_inputs (station_day s day) (station_day (with_series which change s) day)
series_told s day which change lo hi e =
    let a = day_start s day in
    let b = day_start s (day +ℤ pos 1) in
    let w = station_window s day in
    let q = estimated_discharge s day in
    let m = least_cover s day in
    let c = corrections_with which change s.corrections in
    let sh = shifts_with which change s.shifts in
    series_step s.gap s.stage_array s.discharge_array a b w q m lo hi s.ratings which change s.corrections s.shifts
    ∙ ap (λ (x : DayInputs). same_inputs x (day_with s.gap s.stage_array s.discharge_array a b w q m lo hi s.ratings c sh))
    (sym (with_ends s.gap s.stage_array s.discharge_array a b w q m lo hi s.corrections s.shifts s.ratings e))
    ∙ ap (λ (x : DayInputs). same_inputs (station_day s day) x) (sym (with_ends s.gap s.stage_array s.discharge_array a b w q m lo hi c sh s.ratings e))

-- the window of a day goes from one instant to another, not before it
pub record IsSpanned (s : StationState) (day lo hi : ℤ) : Type 0 where
  pub ends : window_ends (station_window s day) ≡ Some (lo, hi)
  pub ordered : lo ≤ℤ hi

span_ordered : (span : Option (ℤ × ℤ)) (lo hi : ℤ) → span ≡ Some (lo, hi) → IfSome span (λ x. x.0 ≤ℤ x.1) → lo ≤ℤ hi
span_ordered span lo hi e h = subst (λ (o : Option (ℤ × ℤ)). IfSome o (λ x. x.0 ≤ℤ x.1)) e h

pub spanned : (s : StationState) (day : ℤ) (span : Option (ℤ × ℤ)) (lo hi : ℤ) → span ≡ window_ends (station_window s day) → IfSome span (λ x. x.0 ≤ℤ x.1)
    → span ≡ Some (lo, hi) → IsSpanned s day lo hi
spanned s day span lo hi w h e = record { ends = sym w ∙ e; ordered = span_ordered span lo hi e h }

-- a series of the station as it was lent
pub record IsLent (s : StationState) (which : StationSeries) (es : List Entry) : Type 0 where
  pub entries : es ≡ series_of which s
  pub rising : IsRising es

-- an entry that is put
pub put_told : (s : StationState) (day : ℤ) (which : StationSeries) (entry : Entry) (lo hi : ℤ) (es : List Entry) → IsSpanned s day lo hi → IsLent s which es
    → (not (bears_at lo hi entry.at es) || has_entry entry es) ≡ same_inputs (station_day s day) (station_day (with_entry which entry s) day)
put_told s day which entry lo hi es w l =
    sym (bearing_put lo hi entry es l.rising w.ordered)
    ∙ ap (λ (x : List Entry). same_entries (bearing lo hi x) (bearing lo hi (put entry x))) l.entries ∙ series_told s day which (put entry) lo hi w.ends

-- one that is taken out
dropped : (s : StationState) (day : ℤ) (which : StationSeries) (at lo hi : ℤ) (es : List Entry) (stands : Bool) → IsSpanned s day lo hi → IsLent s which es
    → stands_at at es ≡ stands → (not stands || not (bears_at lo hi at es)) ≡ same_entries (bearing lo hi es) (bearing lo hi (without at es))
dropped s day which at lo hi es true w l k = sym (bearing_without lo hi at es l.rising w.ordered k)
dropped s day which at lo hi es false w l k =
    sym ((lists_decide (bearing lo hi es) (bearing lo hi (without at es))).1 (ap (λ (x : List Entry). bearing lo hi x) (sym (nothing_taken at es l.rising k))))

pub drop_told : (s : StationState) (day : ℤ) (which : StationSeries) (at lo hi : ℤ) (es : List Entry) → IsSpanned s day lo hi → IsLent s which es
    → (not (stands_at at es) || not (bears_at lo hi at es)) ≡ same_inputs (station_day s day) (station_day (without_entry which at s) day)
drop_told s day which at lo hi es w l =
    dropped s day which at lo hi es (stands_at at es) w l refl
    ∙ ap (λ (x : List Entry). same_entries (bearing lo hi x) (bearing lo hi (without at x))) l.entries ∙ series_told s day which (without at) lo hi w.ends
