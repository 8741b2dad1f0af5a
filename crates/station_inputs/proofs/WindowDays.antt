-- The inputs of a day by its window: what they carry where it has one, and that nothing else counts where it has none.
use Rattle.std.specs.Prelude.{◌≡◌, ℕ, List, [], ◌∷◌, Option, Some, None, ℤ}
use Rattle.std.proofs.Common.{refl, ap, sym}
use Rattle.fixed_units.specs.declared.readings.Reading.{Reading}
use Rattle.curves.specs.declared.entries.Entry.{Entry}
use Rattle.curves.specs.Bearing.{bearing}
use Rattle.curves.specs.Corrections.{Corrections}
use Rattle.ratings.specs.Numbered.{StationRatings}
use Rattle.ratings.specs.Parts.{Part, parts}
use Rattle.day_inputs.specs.DayInputs.{last_at, window_ends, with_window}
use Rattle.day_inputs.specs.declared.day_inputs.DayInputs.{DayInputs}
use Rattle.day_inputs.specs.declared.day_inputs.DayInputs.TheVariants.{Day}

module _ (gap : ℕ) (stages discharges : List ℕ) (from until : ℤ) (w : List Reading) (estimate : Option ℤ) (least : Option ℕ) where
  -- the inputs of a day that has this window, with these entries of its series and these parts of its periods
  abbrev pub carrying : List Entry → List Entry → List Entry → List Entry → List Part → DayInputs
  carrying first second third shifts periods = Day (record {
    gap = gap;
    stage_array = stages;
    discharge_array = discharges;
    from = from;
    until = until;
    window = w;
    first = first;
    second = second;
    third = third;
    shifts = shifts;
    periods = periods;
    estimate = estimate;
    least = least;
  })

  -- they are those that bear on the time between the window's ends
  abbrev pub carried : ℤ → ℤ → Corrections → List Entry → StationRatings → DayInputs
  carried lo hi c sh ratings =
      carrying (bearing lo hi c.first) (bearing lo hi c.second) (bearing lo hi c.third) (bearing lo hi sh) (parts lo hi ratings.tables ratings.periods)

pub with_ends : (gap : ℕ) (stages discharges : List ℕ) (from until : ℤ) (w : List Reading) (estimate : Option ℤ) (least : Option ℕ) (lo hi : ℤ) (c : Corrections) (sh : List Entry) (ratings : StationRatings)
    → window_ends w ≡ Some (lo, hi) → with_window gap stages discharges from until c sh ratings w estimate least ≡ carried gap stages discharges from until w estimate least lo hi c sh ratings
with_ends gap stages discharges from until [] estimate least lo hi c sh ratings e = absurd (cc)
with_ends gap stages discharges from until (r ∷ rs) estimate least lo hi c sh ratings e =
    let p : ◌≡◌ {A = ℤ × ℤ} (r.at, last_at r rs) (lo, hi) = cc in
    let f : lo ≡ r.at = sym (ap (λ (x : ℤ × ℤ). x.0) p) in
    let g : hi ≡ last_at r rs = sym (ap (λ (x : ℤ × ℤ). x.1) p) in
    rw (f, g) refl

-- a day without a window has the same inputs whatever else is changed
pub without_window : (gap : ℕ) (stages discharges : List ℕ) (from until : ℤ) (w : List Reading) (estimate : Option ℤ) (least more : Option ℕ) (c d : Corrections) (sh th : List Entry) (before after : StationRatings)
    → window_ends w ≡ None
    → with_window gap stages discharges from until c sh before w estimate least ≡ with_window gap stages discharges from until d th after w estimate more
without_window gap stages discharges from until [] None least more c d sh th before after e = refl
without_window gap stages discharges from until [] (Some discharge) least more c d sh th before after e = refl
without_window gap stages discharges from until (r ∷ rs) estimate least more c d sh th before after e = absurd (cc)
