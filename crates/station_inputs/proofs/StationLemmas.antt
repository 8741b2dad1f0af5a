-- The inputs of a day of a station: whether there are any, what they keep to, and what leaves them as they are.
use Rattle.std.specs.Prelude.{◌≡◌, ◌≢◌, ◌≤◌, ◌*◌, ◌||◌, ℕ, Bool, true, false, not, cond, Result, Ok, Err, IfOk, IfSome, List, [], ◌∷◌, filter, find, is_some, Option, Some, None, option_and_then, option_map, All, ℤ, pos, ◌+ℤ◌, int_le}
use Rattle.std.specs.Ordering.{int_eq}
use Rattle.std.proofs.Common.{refl, ap, sym, subst, ◌∙◌}
use Rattle.std.proofs.lemmas.List.Elements.{All-filter, All-head, All-tail}
use Rattle.fixed_units.specs.Quantities.{IsDischarge, IsStage, IsStamp, most_gap}
use Rattle.fixed_units.specs.declared.readings.Reading.{Reading}
use Rattle.readings.specs.Readings.{IsRising, is_used}
use Rattle.readings.specs.Window.{inner, of_day, window, with_neighbours, neighbour_before, neighbour_after}
use Rattle.readings.proofs.WindowLemmas.{window_keeps, window_rises}
use Rattle.readings.specs.Equality.{same_readings}
use Rattle.readings.proofs.EqualityLemmas.{lists_decide}
use Rattle.readings.proofs.WindowParts.{inner_found}
use Rattle.civil_days.specs.Starts.{IsDayLength}
use Rattle.curves.specs.declared.entries.Entry.{Entry}
use Rattle.curves.specs.Entries.{IsSeries}
use Rattle.curves.specs.Corrections.{Corrections, AreCorrections}
use Rattle.fixed_units.specs.declared.texts.NoMemory.{NoMemory}
use Rattle.day_inputs.specs.DayInputs.{AreInputs, with_window}
use Rattle.ratings.specs.Numbered.{StationRatings, AreRatings}
use Rattle.day_inputs.proofs.WindowEnds.{inputs_kept}
use Rattle.day_inputs.specs.Equality.{same_estimate, same_inputs}
use Rattle.day_inputs.proofs.EqualityLemmas.{Decides-same_inputs, estimates_decide}
use Rattle.day_inputs.specs.declared.day_inputs.DayInputs.{DayInputs}
use Rattle.day_inputs.specs.declared.day_inputs.DayInputs.TheVariants.{Empty, Day}
use Rattle.edits.specs.Lawful.{IsPutEstimate}
use Rattle.edits.specs.declared.estimates.Estimate.{Estimate}
use Rattle.editions.specs.Covers.{IsLeastCover}
use Rattle.rising.specs.Ends.{last}
use Rattle.rising.specs.Lists as lists
use Rattle.rising.proofs.Ends.{last-kept}
use Rattle.station_inputs.specs.Stations.{StationState, edition_day, estimated_day, estimated_discharge, least_cover, station_day, station_window, day_start, described, with_estimates, with_readings}
use Rattle.station_inputs.specs.KeptStation.{AreReadings, IsKeptEdition, IsStation, KeptStation}
use Rattle.station_inputs.specs.declared.station_editions.Edition.{Edition}
use Rattle.station_inputs.specs.Touched.{has_inputs, has_used_reading}

-- what is found is of the list, and passes
found_step : {X : Type 0} (P : X → Type 0) (p : X → Bool) (x r : X) (o : Option X) (b : Bool) → p x ≡ b → P x → cond b (Some x) o ≡ Some r
    → (o ≡ Some r → P r × (p r ≡ true)) → P r × (p r ≡ true)
found_step P p x r o true e h f k = let same : x ≡ r = cc in (subst P same h, subst (λ y. p y ≡ true) same e)
found_step P p x r o false e h f k = k f

pub found_holds : {X : Type 0} (P : X → Type 0) (p : X → Bool) (rs : List X) (r : X) → All P rs → find p rs ≡ Some r → P r × (p r ≡ true)
found_holds P p [] r h f = absurd (cc)
found_holds P p (x ∷ rs) r h f =
    found_step P p x r (find p rs) (p x) refl (All-head P x rs h) f (λ g. found_holds P p rs r (All-tail P x rs h) g)

-- what is estimated of a day is a discharge
estimate_step : (day : ℤ) (estimates : List Estimate) (found : Option Estimate) → All IsPutEstimate estimates → lists.at estimated_day day estimates ≡ found
    → IfSome (option_map (λ (e : Estimate). e.discharge) found) IsDischarge
estimate_step day estimates None h e = tt
estimate_step day estimates (Some x) h e = (found_holds IsPutEstimate (λ (y : Estimate). int_eq y.day day) estimates x h e).0.discharge

pub estimate_kept : (s : StationState) (day : ℤ) → IsStation s → IfSome (estimated_discharge s day) IsDischarge
estimate_kept s day k = estimate_step day s.estimates (lists.at estimated_day day s.estimates) k.estimates_are.each refl

abbrev IsEstimateKept : ℤ → Option ℤ → KeptStation → Type 0
IsEstimateKept day estimate kept = estimate ≡ estimated_discharge kept.station day → IfSome estimate IsDischarge

pub kept_estimate : (kept view : KeptStation) → view ≡ kept → IsStation view.station → (day : ℤ) (estimate : Option ℤ) → IsEstimateKept day estimate kept
kept_estimate kept view e k day estimate =
    subst (IsEstimateKept day estimate) e (λ d. subst (λ (q : Option ℤ). IfSome q IsDischarge) (sym d) (estimate_kept view.station day k))

-- the least cover in force is one, where there is one
least_step : (o : Option Edition) → ((e : Edition) → o ≡ Some e → IsKeptEdition e) → IfSome (option_and_then (λ (e : Edition). e.least) o) IsLeastCover
least_step None k = tt
least_step (Some e) k = (k e refl).cover

pub least_kept : (s : StationState) (day : ℤ) → IsStation s → IfSome (least_cover s day) IsLeastCover
least_kept s day k =
    least_step (last (lists.up_to edition_day day s.editions))
    (λ e. last-kept IsKeptEdition (lists.up_to edition_day day s.editions) e (All-filter (λ (x : Edition). int_le x.day day) IsKeptEdition s.editions k.editions_are.each))

abbrev IsLeastKept : ℤ → Option ℕ → KeptStation → Type 0
IsLeastKept day least kept = least ≡ least_cover kept.station day → IfSome least IsLeastCover

pub kept_least : (kept view : KeptStation) → view ≡ kept → IsStation view.station → (day : ℤ) (least : Option ℕ) → IsLeastKept day least kept
kept_least kept view e k day least =
    subst (IsLeastKept day least) e (λ d. subst (λ (m : Option ℕ). IfSome m IsLeastCover) (sym d) (least_kept view.station day k))

-- the inputs of a day keep to what they must, where the station does
pub day_kept : (r : Result DayInputs NoMemory) (gap : ℕ) (stages discharges : List ℕ) (from until : ℤ) (sets : Corrections) (shifts : List Entry) (ratings : StationRatings)
    (readings items : List Reading) (estimate : Option ℤ) (least : Option ℕ) → IfOk r (λ i. i ≡ with_window gap stages discharges from until sets shifts ratings items estimate least)
    → 1 ≤ gap → gap ≤ most_gap → IsDayLength from until → AreCorrections sets → IsSeries shifts → AreRatings ratings → AreReadings readings → IfSome estimate IsDischarge → IfSome least IsLeastCover
    → items ≡ window from until (pos (60 * gap)) readings → IfOk r AreInputs
day_kept (Err e) gap stages discharges from until sets shifts ratings readings items estimate least k low high l c t q h d m w = tt
day_kept (Ok i) gap stages discharges from until sets shifts ratings readings items estimate least k low high l c t q h d m w =
    subst AreInputs (sym k)
    (inputs_kept gap stages discharges from until sets shifts ratings estimate least low high l.shortest l.longest c t q d m items
    (subst IsRising (sym w) (window_rises from until (pos (60 * gap)) readings h.rising))
    (subst (λ (rs : List Reading). All (λ r. IsStage r.raw) rs) (sym w)
    (window_keeps (λ r. IsStage r.raw) from until (pos (60 * gap)) readings h.stages)))

-- its window stands at stamps
pub window_stamps : (gap : ℕ) (from until : ℤ) (readings items : List Reading) → AreReadings readings → items ≡ window from until (pos (60 * gap)) readings
    → All (λ r. IsStamp r.at) items
window_stamps gap from until readings items h w =
    subst (λ (rs : List Reading). All (λ r. IsStamp r.at) rs) (sym w)
    (window_keeps (λ r. IsStamp r.at) from until (pos (60 * gap)) readings h.stamps)

-- whether a list has an element
pub is_any : {X : Type 0} → List X → Bool
is_any [] = false
is_any (x ∷ xs) = true

pub no_any : (X : Type 0) → is_any {X = X} [] ≡ false
unfolding is_any
no_any X = refl

neighbours_any : (before : Option Reading) (rs : List Reading) (after : Option Reading) → is_any (with_neighbours before rs after) ≡ is_any rs
unfolding is_any
neighbours_any before [] after = refl
neighbours_any None (r ∷ rs) after = refl
neighbours_any (Some s) (r ∷ rs) after = refl

found_any_step : {X : Type 0} (x : X) (xs : List X) (found : Option X) (b : Bool) → is_some found ≡ is_any xs
    → is_some (cond b (Some x) found) ≡ is_any (cond b (x ∷ xs) xs)
unfolding is_any
found_any_step x xs found true h = refl
found_any_step x xs found false h = h

pub found_any : {X : Type 0} (p : X → Bool) (xs : List X) → is_some (find p xs) ≡ is_any (filter p xs)
unfolding is_any
found_any p [] = refl
found_any p (x ∷ xs) = found_any_step x (filter p xs) (find p xs) (p x) (found_any p xs)

-- what the inputs of a day tell of the station
window_of : DayInputs → List Reading
window_of Empty = []
window_of (Day p) = p.window

estimate_in : DayInputs → Option ℤ
estimate_in Empty = None
estimate_in (Day p) = p.estimate

gap_of : DayInputs → ℕ
gap_of Empty = 0
gap_of (Day p) = p.gap

stages_of : DayInputs → List ℕ
stages_of Empty = []
stages_of (Day p) = p.stage_array

discharges_of : DayInputs → List ℕ
discharges_of Empty = []
discharges_of (Day p) = p.discharge_array

module _ (gap : ℕ) (stages discharges : List ℕ) (from until : ℤ) (sets : Corrections) (shifts : List Entry) (ratings : StationRatings) (least : Option ℕ) where
  abbrev inputs : List Reading → Option ℤ → DayInputs
  inputs w estimate = with_window gap stages discharges from until sets shifts ratings w estimate least

  inputs_any : (w : List Reading) (estimate : Option ℤ) → has_inputs (inputs w estimate) ≡ (is_any w || is_some estimate)
  unfolding is_any
  inputs_any [] None = refl
  inputs_any [] (Some q) = refl
  inputs_any (r ∷ rs) estimate = refl

  window_told : (w : List Reading) (estimate : Option ℤ) → window_of (inputs w estimate) ≡ w
  unfolding window_of
  window_told [] None = refl
  window_told [] (Some q) = refl
  window_told (r ∷ rs) estimate = refl

  estimate_told : (w : List Reading) (estimate : Option ℤ) → estimate_in (inputs w estimate) ≡ estimate
  unfolding estimate_in
  estimate_told [] None = refl
  estimate_told [] (Some q) = refl
  estimate_told (r ∷ rs) estimate = refl

  settings_told : (w : List Reading) (estimate : Option ℤ) → has_inputs (inputs w estimate) ≡ true
      → (gap_of (inputs w estimate) ≡ gap) × ((stages_of (inputs w estimate) ≡ stages) × (discharges_of (inputs w estimate) ≡ discharges))
  unfolding gap_of stages_of discharges_of
  settings_told [] None h = absurd (cc)
  settings_told [] (Some q) h = (refl, (refl, refl))
  settings_told (r ∷ rs) estimate h = (refl, (refl, refl))

-- a day has inputs where its window has a used reading of its own, or where its discharge is estimated
day_any : (s : StationState) (day : ℤ) → has_inputs (station_day s day) ≡ (is_any (inner (day_start s day) (day_start s (day +ℤ pos 1)) s.readings) || is_some (estimated_discharge s day))
day_any s day =
    let a = day_start s day in
    let b = day_start s (day +ℤ pos 1) in
    inputs_any s.gap s.stage_array s.discharge_array a b s.corrections s.shifts s.ratings (least_cover s day) (station_window s day) (estimated_discharge s day)
    ∙ ap (λ (x : Bool). x || is_some (estimated_discharge s day))
    (neighbours_any (neighbour_before a (pos (60 * s.gap)) s.readings) (inner a b s.readings) (neighbour_after b (pos (60 * s.gap)) s.readings))

pub read_any : (s : StationState) (day : ℤ) → has_used_reading s day ≡ is_any (inner (day_start s day) (day_start s (day +ℤ pos 1)) s.readings)
read_any s day =
    let a = day_start s day in
    let b = day_start s (day +ℤ pos 1) in
    found_any is_used (of_day a b s.readings) ∙ ap is_any (inner_found a b s.readings)

pub filled_told : (s : StationState) (day : ℤ) → (has_used_reading s day || is_some (estimated_discharge s day)) ≡ has_inputs (station_day s day)
filled_told s day = ap (λ (x : Bool). x || is_some (estimated_discharge s day)) (read_any s day) ∙ sym (day_any s day)

-- the same as it is asked at the instants of a day, of a station that is kept with room
abbrev FilledTold : ℤ → ℤ → ℤ → Bool → Bool → KeptStation → KeptStation → Type 0
FilledTold day from until used told view kept =
    from ≡ day_start kept.station day → until ≡ day_start kept.station (day +ℤ pos 1) → used ≡ is_some (find is_used (of_day from until view.station.readings))
    → told ≡ (used || is_some (estimated_discharge kept.station day)) → told ≡ has_inputs (station_day kept.station day)

pub filled_kept : (kept view : KeptStation) → view ≡ kept → (day from until : ℤ) (used told : Bool) → FilledTold day from until used told view kept
filled_kept kept view e day from until used told =
    subst (FilledTold day from until used told view) e
    (λ a b u t.
    let s = view.station in
    let read : used ≡ has_used_reading s day = u ∙ rw (a, b) refl in
    t ∙ ap (λ (x : Bool). x || is_some (estimated_discharge s day)) read ∙ filled_told s day)

pub same_of : (p q : DayInputs) → p ≡ q → same_inputs p q ≡ true
same_of p q e = (Decides-same_inputs p q).1 e

other_step : (p q : DayInputs) (b : Bool) → (p ≢ q) → same_inputs p q ≡ b → b ≡ false
other_step p q true n e = absurd (n ((Decides-same_inputs p q).0 e))
other_step p q false n e = refl

pub other_of : (p q : DayInputs) → p ≢ q → same_inputs p q ≡ false
other_of p q n = other_step p q (same_inputs p q) n refl

-- a test tells whether two days' inputs are the same, where it holds exactly if they are
pub told_by : (p q : DayInputs) (b : Bool) → (b ≡ true → p ≡ q) → (p ≡ q → b ≡ true) → b ≡ same_inputs p q
told_by p q true there back = sym (same_of p q (there refl))
told_by p q false there back = sym (other_of p q (λ d. absurd (let t = back d in cc)))

-- the inputs of a day stay where its window does
window_same : (gap : ℕ) (stages discharges : List ℕ) (from until : ℤ) (sets : Corrections) (shifts : List Entry) (ratings : StationRatings) (least : Option ℕ) (estimate : Option ℤ) (old new : List Reading)
    → same_readings old new ≡ same_inputs (inputs gap stages discharges from until sets shifts ratings least old estimate) (inputs gap stages discharges from until sets shifts ratings least new estimate)
window_same gap stages discharges from until sets shifts ratings least estimate old new =
    let day : List Reading → DayInputs = λ w. inputs gap stages discharges from until sets shifts ratings least w estimate in
    told_by (day old) (day new) (same_readings old new) (λ e. ap day ((lists_decide old new).0 e))
    (λ f. (lists_decide old new).1
    (sym (window_told gap stages discharges from until sets shifts ratings least old estimate) ∙ ap window_of f ∙ window_told gap stages discharges from until sets shifts ratings least new estimate))

pub readings_told : (s : StationState) (day : ℤ) (change : List Reading → List Reading)
    → same_readings (station_window s day) (station_window (with_readings change s) day) ≡ same_inputs (station_day s day) (station_day (with_readings change s) day)
readings_told s day change =
    window_same s.gap s.stage_array s.discharge_array (day_start s day) (day_start s (day +ℤ pos 1)) s.corrections s.shifts s.ratings (least_cover s day) (estimated_discharge s day)
    (station_window s day) (station_window (with_readings change s) day)

-- the same as it is asked at the instants of a day, of a station that is kept with room
not_not : (b : Bool) → not (not b) ≡ b
not_not true = refl
not_not false = refl

abbrev AlteredDay : ℤ → (List Reading → List Reading) → ℤ → ℤ → Bool → KeptStation → KeptStation → Type 0
AlteredDay day change from until altered view kept =
    from ≡ day_start kept.station day → until ≡ day_start kept.station (day +ℤ pos 1)
    → altered ≡ not (same_readings (window from until (pos (60 * view.station.gap)) view.station.readings) (window from until (pos (60 * view.station.gap)) (change view.station.readings)))
    → not altered ≡ same_inputs (station_day kept.station day) (station_day (with_readings change kept.station) day)

altered_here : (s : StationState) (day : ℤ) (change : List Reading → List Reading) (from until : ℤ) (altered : Bool) → from ≡ day_start s day → until ≡ day_start s (day +ℤ pos 1)
    → altered ≡ not (same_readings (window from until (pos (60 * s.gap)) s.readings) (window from until (pos (60 * s.gap)) (change s.readings)))
    → not altered ≡ same_inputs (station_day s day) (station_day (with_readings change s) day)
altered_here s day change from until altered e f t =
    let told : altered ≡ not (same_readings (station_window s day) (station_window (with_readings change s) day)) = t ∙ rw (e, f) refl in
    ap not told ∙ not_not (same_readings (station_window s day) (station_window (with_readings change s) day)) ∙ readings_told s day change

pub altered_kept : (kept view : KeptStation) → view ≡ kept → (day : ℤ) (change : List Reading → List Reading) (from until : ℤ) (altered : Bool)
    → AlteredDay day change from until altered view kept
altered_kept kept view e day change from until altered =
    subst (λ (k : KeptStation). AlteredDay day change from until altered view k) e (altered_here view.station day change from until altered)

-- the inputs of a day stay where its estimate does
estimate_same : (gap : ℕ) (stages discharges : List ℕ) (from until : ℤ) (sets : Corrections) (shifts : List Entry) (ratings : StationRatings) (least : Option ℕ) (w : List Reading) (old new : Option ℤ)
    → same_estimate old new ≡ same_inputs (inputs gap stages discharges from until sets shifts ratings least w old) (inputs gap stages discharges from until sets shifts ratings least w new)
estimate_same gap stages discharges from until sets shifts ratings least w old new =
    let day : Option ℤ → DayInputs = λ q. inputs gap stages discharges from until sets shifts ratings least w q in
    told_by (day old) (day new) (same_estimate old new) (λ e. ap day ((estimates_decide old new).0 e))
    (λ f. (estimates_decide old new).1
    (sym (estimate_told gap stages discharges from until sets shifts ratings least w old) ∙ ap estimate_in f ∙ estimate_told gap stages discharges from until sets shifts ratings least w new))

pub estimates_told : (s : StationState) (day : ℤ) (change : List Estimate → List Estimate)
    → same_estimate (estimated_discharge s day) (estimated_discharge (with_estimates change s) day) ≡ same_inputs (station_day s day) (station_day (with_estimates change s) day)
estimates_told s day change =
    estimate_same s.gap s.stage_array s.discharge_array (day_start s day) (day_start s (day +ℤ pos 1)) s.corrections s.shifts s.ratings (least_cover s day) (station_window s day)
    (estimated_discharge s day) (estimated_discharge (with_estimates change s) day)

-- a station described as it is keeps each day
pub described_same : (s : StationState) (day : ℤ) (name : List ℕ) (gap : ℕ) (stages discharges : List ℕ)
    → s.gap ≡ gap → s.stage_array ≡ stages → s.discharge_array ≡ discharges
    → true ≡ same_inputs (station_day s day) (station_day (described name gap stages discharges s) day)
described_same s day name gap stages discharges e f g =
    sym (same_of (station_day s day) (station_day (described name gap stages discharges s) day) (rw (sym e, sym f, sym g) refl))

-- a station described otherwise keeps the days without inputs alone
abbrev pub Differs : ℕ → List ℕ → List ℕ → ℕ → List ℕ → List ℕ → Type 0
Differs g s d g' s' d' = (g ≡ g' → s ≡ s' → d ≡ d' → ⊥)

empty_is : (i : DayInputs) → has_inputs i ≡ false → i ≡ Empty
empty_is Empty h = refl
empty_is (Day p) h = absurd (cc)

described_step : (g g' : ℕ) (s s' d d' : List ℕ) (a b : ℤ) (sets : Corrections) (shifts : List Entry) (ratings : StationRatings) (least : Option ℕ) (w w' : List Reading) (estimate : Option ℤ) (filled : Bool)
    → is_any w ≡ is_any w' → Differs g s d g' s' d' → has_inputs (inputs g s d a b sets shifts ratings least w estimate) ≡ filled
    → not filled ≡ same_inputs (inputs g s d a b sets shifts ratings least w estimate) (inputs g' s' d' a b sets shifts ratings least w' estimate)
described_step g g' s s' d d' a b sets shifts ratings least w w' estimate filled same n h =
    let old = inputs g s d a b sets shifts ratings least w estimate in
    let new = inputs g' s' d' a b sets shifts ratings least w' estimate in
    let also : has_inputs new ≡ filled =
    inputs_any g' s' d' a b sets shifts ratings least w' estimate ∙ ap (λ (x : Bool). x || is_some estimate) (sym same) ∙ sym (inputs_any g s d a b sets shifts ratings least w estimate) ∙ h in
    by filled h also
  where
    by : (f : Bool) → has_inputs (inputs g s d a b sets shifts ratings least w estimate) ≡ f → has_inputs (inputs g' s' d' a b sets shifts ratings least w' estimate) ≡ f
        → not f ≡ same_inputs (inputs g s d a b sets shifts ratings least w estimate) (inputs g' s' d' a b sets shifts ratings least w' estimate)
    by false e f =
        sym (same_of (inputs g s d a b sets shifts ratings least w estimate) (inputs g' s' d' a b sets shifts ratings least w' estimate)
        (empty_is (inputs g s d a b sets shifts ratings least w estimate) e ∙ sym (empty_is (inputs g' s' d' a b sets shifts ratings least w' estimate) f)))
    by true e f =
        let one = settings_told g s d a b sets shifts ratings least w estimate e in
        let two = settings_told g' s' d' a b sets shifts ratings least w' estimate f in
        sym (other_of (inputs g s d a b sets shifts ratings least w estimate) (inputs g' s' d' a b sets shifts ratings least w' estimate) (λ q.
        n (sym one.0 ∙ ap gap_of q ∙ two.0) (sym one.1.0 ∙ ap stages_of q ∙ two.1.0) (sym one.1.1 ∙ ap discharges_of q ∙ two.1.1)))

pub described_other : (s : StationState) (day : ℤ) (name : List ℕ) (gap : ℕ) (stages discharges : List ℕ)
    → Differs s.gap s.stage_array s.discharge_array gap stages discharges
    → not (has_inputs (station_day s day)) ≡ same_inputs (station_day s day) (station_day (described name gap stages discharges s) day)
described_other s day name gap stages discharges n =
    let a = day_start s day in
    let b = day_start s (day +ℤ pos 1) in
    let own = inner a b s.readings in
    let same : is_any (station_window s day) ≡ is_any (window a b (pos (60 * gap)) s.readings) =
    neighbours_any (neighbour_before a (pos (60 * s.gap)) s.readings) own (neighbour_after b (pos (60 * s.gap)) s.readings)
    ∙ sym (neighbours_any (neighbour_before a (pos (60 * gap)) s.readings) own (neighbour_after b (pos (60 * gap)) s.readings)) in
    described_step s.gap gap s.stage_array stages s.discharge_array discharges a b s.corrections s.shifts s.ratings (least_cover s day) (station_window s day)
    (window a b (pos (60 * gap)) s.readings) (estimated_discharge s day) (has_inputs (station_day s day)) same n refl
