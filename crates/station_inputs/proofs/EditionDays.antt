-- The inputs of a day where the editions of its station are changed: they stay exactly where the day has no window, or the least cover
-- in force on it stays.
use Rattle.std.specs.Option.{option_eq}
use Rattle.std.specs.Prelude.{◌≡◌, ◌==◌, ℕ, Bool, true, false, cond, List, [], ◌∷◌, option_and_then, Option, Some, None, ℤ, pos, ◌+ℤ◌}
use Rattle.std.proofs.Common.{refl, ap, sym, ◌∙◌}
use Rattle.editions.specs.Covers.{same_least}
use Rattle.editions.proofs.CoverLemmas.{leasts_decide}
use Rattle.fixed_units.specs.declared.readings.Reading.{Reading}
use Rattle.curves.specs.declared.entries.Entry.{Entry}
use Rattle.curves.specs.Corrections.{Corrections}
use Rattle.ratings.specs.Numbered.{StationRatings}
use Rattle.rising.specs.Lists as lists
use Rattle.day_inputs.specs.DayInputs.{window_ends, with_window}
use Rattle.day_inputs.specs.Equality.{same_inputs}
use Rattle.day_inputs.specs.declared.day_inputs.DayInputs.{DayInputs}
use Rattle.day_inputs.specs.declared.day_inputs.DayInputs.TheVariants.{Empty, Day}
use Rattle.station_inputs.specs.KeptStation.{IsStation}
use Rattle.station_inputs.specs.Stations.{StationState, day_start, edition_day, edition_on, estimated_discharge, governs, least_cover, station_day, station_window, with_editions}
use Rattle.station_inputs.specs.declared.station_editions.Edition.{Edition}
use Rattle.station_inputs.proofs.EditionLemmas.{on_put}
use Rattle.station_inputs.proofs.StationLemmas.{same_of, told_by}
use Rattle.station_inputs.proofs.WindowDays.{without_window}

-- the least cover that a day's inputs carry
abbrev least_in : DayInputs → Option ℕ
least_in Empty = None
least_in (Day p) = p.least

module _ (gap : ℕ) (stages discharges : List ℕ) (from until : ℤ) (c : Corrections) (sh : List Entry) (ratings : StationRatings) (estimate : Option ℤ) where
  least_told : (w : List Reading) (least : Option ℕ) (span : ℤ × ℤ) → window_ends w ≡ Some span → least_in (with_window gap stages discharges from until c sh ratings w estimate least) ≡ least
  least_told [] least span e = absurd (cc)
  least_told (r ∷ rs) least span e = refl

  leasts_told : (w : List Reading) (old new : Option ℕ) (span : ℤ × ℤ) → window_ends w ≡ Some span
      → same_least old new ≡ same_inputs (with_window gap stages discharges from until c sh ratings w estimate old) (with_window gap stages discharges from until c sh ratings w estimate new)
  leasts_told w old new span e =
      let day : Option ℕ → DayInputs = λ m. with_window gap stages discharges from until c sh ratings w estimate m in
      told_by (day old) (day new) (same_least old new) (λ q. ap day ((leasts_decide old new).0 q))
      (λ f. (leasts_decide old new).1 (sym (least_told w old span e) ∙ ap least_in f ∙ least_told w new span e))

pub editions_told : (s : StationState) (day : ℤ) (change : List Edition → List Edition) (span : ℤ × ℤ) → window_ends (station_window s day) ≡ Some span
    → same_least (least_cover s day) (least_cover (with_editions change s) day) ≡ same_inputs (station_day s day) (station_day (with_editions change s) day)
editions_told s day change span e =
    leasts_told s.gap s.stage_array s.discharge_array (day_start s day) (day_start s (day +ℤ pos 1)) s.corrections s.shifts s.ratings (estimated_discharge s day)
    (station_window s day) (least_cover s day) (least_cover (with_editions change s) day) span e

equal_told : (old new : Option ℕ) → option_eq (λ (a b : ℕ). a == b) old new ≡ same_least old new
equal_told None None = refl
equal_told None (Some b) = refl
equal_told (Some a) None = refl
equal_told (Some a) (Some b) = refl

pub equality_told : (s : StationState) (day : ℤ) (change : List Edition → List Edition) (span : ℤ × ℤ) (old new : Option ℕ) (told : Bool)
    → window_ends (station_window s day) ≡ Some span → old ≡ least_cover s day → new ≡ least_cover (with_editions change s) day
    → told ≡ option_eq (λ (a b : ℕ). a == b) old new → told ≡ same_inputs (station_day s day) (station_day (with_editions change s) day)
equality_told s day change span old new told w e f t =
    t ∙ equal_told old new ∙ ap (λ (x : Option ℕ). same_least x new) e ∙ ap (λ (x : Option ℕ). same_least (least_cover s day) x) f ∙ editions_told s day change span w

pub no_window_told : (s : StationState) (day : ℤ) (change : List Edition → List Edition) → window_ends (station_window s day) ≡ None
    → true ≡ same_inputs (station_day s day) (station_day (with_editions change s) day)
no_window_told s day change e =
    sym (same_of (station_day s day) (station_day (with_editions change s) day)
    (without_window s.gap s.stage_array s.discharge_array (day_start s day) (day_start s (day +ℤ pos 1)) (station_window s day) (estimated_discharge s day)
    (least_cover s day) (least_cover (with_editions change s) day) s.corrections s.corrections s.shifts s.shifts s.ratings s.ratings e))

-- the least cover in force on a day with an edition put
least_by : (b : Bool) (e : Edition) (o : Option Edition)
    → option_and_then (λ (x : Edition). x.least) (cond b (Some e) o) ≡ cond b e.least (option_and_then (λ (x : Edition). x.least) o)
least_by true e o = refl
least_by false e o = refl

pub least_put : (s : StationState) (e : Edition) (day : ℤ) → IsStation s
    → least_cover (with_editions (lists.put edition_day e) s) day ≡ cond (governs e.day day (edition_on day s.editions)) e.least (least_cover s day)
least_put s e day k =
    ap (option_and_then (λ (x : Edition). x.least)) (on_put e day s.editions k.editions_are.rising)
    ∙ least_by (governs e.day day (edition_on day s.editions)) e (edition_on day s.editions)

-- a day that an edition changes is one that it governs, and has a window
same_least_self : (m : Option ℕ) → same_least m m ≡ true
same_least_self m = (leasts_decide m m).1 refl

governed_step : (s : StationState) (e : Edition) (day : ℤ) (b : Bool) → IsStation s → governs e.day day (edition_on day s.editions) ≡ b
    → (span : ℤ × ℤ) → window_ends (station_window s day) ≡ Some span
    → same_inputs (station_day s day) (station_day (with_editions (lists.put edition_day e) s) day) ≡ false → b ≡ true
governed_step s e day true k g span w n = refl
governed_step s e day false k g span w n =
    let same : least_cover (with_editions (lists.put edition_day e) s) day ≡ least_cover s day =
    least_put s e day k ∙ ap (λ (b : Bool). cond b e.least (least_cover s day)) g in
    let t : true ≡ false = sym (same_least_self (least_cover s day)) ∙ ap (same_least (least_cover s day)) (sym same) ∙ editions_told s day (lists.put edition_day e) span w ∙ n in
    absurd (cc)

window_step : (s : StationState) (e : Edition) (day : ℤ) (span : Option (ℤ × ℤ)) → window_ends (station_window s day) ≡ span
    → same_inputs (station_day s day) (station_day (with_editions (lists.put edition_day e) s) day) ≡ false
    → (lo : ℤ) × (hi : ℤ) × (window_ends (station_window s day) ≡ Some (lo, hi))
window_step s e day None w n =
    let t : true ≡ false = no_window_told s day (lists.put edition_day e) w ∙ n in
    absurd (cc)
window_step s e day (Some span) w n = (span.0, span.1, w)

pub edition_changes : (s : StationState) (e : Edition) (day : ℤ) → IsStation s
    → same_inputs (station_day s day) (station_day (with_editions (lists.put edition_day e) s) day) ≡ false
    → (governs e.day day (edition_on day s.editions) ≡ true) × ((lo : ℤ) × (hi : ℤ) × (window_ends (station_window s day) ≡ Some (lo, hi)))
edition_changes s e day k n =
    let w = window_step s e day (window_ends (station_window s day)) refl n in
    (governed_step s e day (governs e.day day (edition_on day s.editions)) k refl (w.0, w.1) w.2 n, w)
