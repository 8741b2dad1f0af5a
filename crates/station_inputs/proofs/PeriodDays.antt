-- The inputs of a day where the ratings of its station are changed: they stay exactly where the parts of the periods that meet its window do.
use Rattle.std.specs.Prelude.{◌≡◌, ℕ, Bool, true, List, [], ◌∷◌, Option, Some, None, ℤ, pos, ◌+ℤ◌}
use Rattle.std.proofs.Common.{refl, ap, sym, subst, ◌∙◌}
use Rattle.fixed_units.specs.declared.readings.Reading.{Reading}
use Rattle.curves.specs.declared.entries.Entry.{Entry}
use Rattle.curves.specs.Bearing.{bearing}
use Rattle.curves.specs.Corrections.{Corrections}
use Rattle.day_inputs.specs.DayInputs.{last_at, window_ends, with_window}
use Rattle.day_inputs.specs.Equality.{same_inputs}
use Rattle.day_inputs.specs.declared.day_inputs.DayInputs.{DayInputs}
use Rattle.day_inputs.specs.declared.day_inputs.DayInputs.TheVariants.{Empty, Day}
use Rattle.ratings.specs.Numbered.{Numbered, StationRatings, with_rating}
use Rattle.ratings.specs.PartEquality.{same_parts}
use Rattle.ratings.specs.Parts.{Part, parts}
use Rattle.ratings.proofs.PartEqualityLemmas.{lists_decide}
use Rattle.ratings.proofs.PeriodChangeLemmas.{rating_changes_none}
use Rattle.station_inputs.specs.KeptStation.{IsStation, KeptStation}
use Rattle.station_inputs.specs.Stations.{StationState, day_start, estimated_discharge, least_cover, station_day, station_window, with_ratings}
use Rattle.station_inputs.proofs.StationLemmas.{same_of, told_by}
use Rattle.station_inputs.proofs.WindowDays.{carrying, with_ends, without_window}

-- the parts that a day's inputs carry
abbrev parts_in : DayInputs → List Part
parts_in Empty = []
parts_in (Day p) = p.periods

module _ (gap : ℕ) (stages discharges : List ℕ) (from until : ℤ) (c : Corrections) (sh : List Entry) (before after : StationRatings) (w : List Reading) (estimate : Option ℤ) (least : Option ℕ) where
  -- the inputs of a day whose window has these ends, with these parts
  abbrev with_parts : ℤ → ℤ → List Part → DayInputs
  with_parts lo hi periods =
      carrying gap stages discharges from until w estimate least (bearing lo hi c.first) (bearing lo hi c.second) (bearing lo hi c.third) (bearing lo hi sh) periods

  -- a day keeps its inputs where the parts stay
  parts_step : (lo hi : ℤ) (ps qs : List Part) → same_parts ps qs ≡ same_inputs (with_parts lo hi ps) (with_parts lo hi qs)
  parts_step lo hi ps qs =
      told_by (with_parts lo hi ps) (with_parts lo hi qs) (same_parts ps qs) (λ e. ap (with_parts lo hi) ((lists_decide ps qs).0 e))
      (λ d. (lists_decide ps qs).1 (ap parts_in d))

  window_told : (lo hi : ℤ) → window_ends w ≡ Some (lo, hi)
      → same_parts (parts lo hi before.tables before.periods) (parts lo hi after.tables after.periods)
      ≡ same_inputs (with_window gap stages discharges from until c sh before w estimate least) (with_window gap stages discharges from until c sh after w estimate least)
  window_told lo hi e =
      let old = parts lo hi before.tables before.periods in
      let new = parts lo hi after.tables after.periods in
      parts_step lo hi old new
      ∙ ap (λ (x : DayInputs). same_inputs x (with_parts lo hi new)) (sym (with_ends gap stages discharges from until w estimate least lo hi c sh before e))
      ∙ ap (λ (x : DayInputs). same_inputs (with_window gap stages discharges from until c sh before w estimate least) x)
      (sym (with_ends gap stages discharges from until w estimate least lo hi c sh after e))

-- and so does each day where the parts of all times stay
always_same : (gap : ℕ) (stages discharges : List ℕ) (from until : ℤ) (c : Corrections) (sh : List Entry) (before after : StationRatings) (w : List Reading) (estimate : Option ℤ) (least : Option ℕ)
    → ((lo hi : ℤ) → parts lo hi after.tables after.periods ≡ parts lo hi before.tables before.periods)
    → with_window gap stages discharges from until c sh before w estimate least ≡ with_window gap stages discharges from until c sh after w estimate least
always_same gap stages discharges from until c sh before after [] estimate least h = without_window gap stages discharges from until [] estimate least least c c sh sh before after refl
always_same gap stages discharges from until c sh before after (r ∷ rs) estimate least h =
    let a = r.at in
    let b = last_at r rs in
    ap (with_parts gap stages discharges from until c sh before after (r ∷ rs) estimate least a b) (sym (h a b))

pub no_window_told : (s : StationState) (day : ℤ) (change : StationRatings → StationRatings) → window_ends (station_window s day) ≡ None
    → true ≡ same_inputs (station_day s day) (station_day (with_ratings change s) day)
no_window_told s day change e =
    sym (same_of (station_day s day) (station_day (with_ratings change s) day)
    (without_window s.gap s.stage_array s.discharge_array (day_start s day) (day_start s (day +ℤ pos 1)) (station_window s day) (estimated_discharge s day)
    (least_cover s day) (least_cover s day) s.corrections s.corrections s.shifts s.shifts s.ratings (change s.ratings) e))

-- a rating more
pub rating_told : (s : StationState) (day : ℤ) (x : Numbered) → IsStation s
    → true ≡ same_inputs (station_day s day) (station_day (with_ratings (with_rating x) s) day)
rating_told s day x k =
    sym (same_of (station_day s day) (station_day (with_ratings (with_rating x) s) day)
    (always_same s.gap s.stage_array s.discharge_array (day_start s day) (day_start s (day +ℤ pos 1)) s.corrections s.shifts s.ratings (with_rating x s.ratings)
    (station_window s day) (estimated_discharge s day) (least_cover s day) (λ lo hi. rating_changes_none lo hi x s.ratings k.ratings_are)))

-- periods changed
pub periods_told : (s : StationState) (day : ℤ) (change : StationRatings → StationRatings) (lo hi : ℤ) → window_ends (station_window s day) ≡ Some (lo, hi)
    → same_parts (parts lo hi s.ratings.tables s.ratings.periods) (parts lo hi (change s.ratings).tables (change s.ratings).periods)
    ≡ same_inputs (station_day s day) (station_day (with_ratings change s) day)
periods_told s day change lo hi e =
    window_told s.gap s.stage_array s.discharge_array (day_start s day) (day_start s (day +ℤ pos 1)) s.corrections s.shifts s.ratings (change s.ratings)
    (station_window s day) (estimated_discharge s day) (least_cover s day) lo hi e

-- the same of a station that is kept with room
abbrev Told : ℤ → (StationRatings → StationRatings) → ℤ → ℤ → Bool → KeptStation → KeptStation → Type 0
Told day change lo hi told view kept =
    told ≡ same_parts (parts lo hi view.station.ratings.tables view.station.ratings.periods) (parts lo hi (change view.station.ratings).tables (change view.station.ratings).periods)
    → window_ends (station_window kept.station day) ≡ Some (lo, hi) → told ≡ same_inputs (station_day kept.station day) (station_day (with_ratings change kept.station) day)

pub periods_kept : (kept view : KeptStation) → view ≡ kept → (day : ℤ) (change : StationRatings → StationRatings) (lo hi : ℤ) (told : Bool) → Told day change lo hi told view kept
periods_kept kept view e day change lo hi told =
    subst (Told day change lo hi told view) e (λ t w. t ∙ periods_told view.station day change lo hi w)
