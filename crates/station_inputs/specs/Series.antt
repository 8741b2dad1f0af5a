-- The series of a station: its three correction sets and its shifts, and each of them changed.
use Rattle.std.specs.Prelude.{ℕ, ◌==◌, ⊤, List, [], ◌∷◌, if◌then◌else◌}
use Rattle.curves.specs.declared.entries.Entry.{Entry}
use Rattle.curves.specs.Corrections.{Corrections, set_entries, with_set_changed}
use Rattle.curves.specs.declared.sets.CorrectionSets.{CorrectionSets}
use Rattle.curves.specs.declared.sets.Shifts.{Shifts}
use Rattle.edits.specs.Lawful.{IsSetNumber}
use Rattle.station_inputs.specs.declared.series.StationSeries.{StationSeries}
use Rattle.station_inputs.specs.declared.series.StationSeries.TheVariants.{Correction, Shift}

-- the entries of a series, and all series with one of them changed
abbrev pub entries_in : StationSeries → Corrections → List Entry → List Entry
entries_in (Correction set) corrections shifts = set_entries corrections set
entries_in Shift corrections shifts = shifts

abbrev pub corrections_with : StationSeries → (List Entry → List Entry) → Corrections → Corrections
corrections_with (Correction set) change corrections = with_set_changed set change corrections
corrections_with Shift change corrections = corrections

abbrev pub shifts_with : StationSeries → (List Entry → List Entry) → List Entry → List Entry
shifts_with (Correction set) change shifts = shifts
shifts_with Shift change shifts = change shifts

-- every series of a station
abbrev pub all_series : List StationSeries
all_series = Correction 1 ∷ Correction 2 ∷ Correction 3 ∷ Shift ∷ []

-- a series is one of a station's
abbrev pub IsOfStation : StationSeries → Type 0
IsOfStation (Correction set) = IsSetNumber set
IsOfStation Shift = ⊤

-- for how many more entries each series of a station has room
pub record SeriesRoom : Type 0 where
  pub first : ℕ
  pub second : ℕ
  pub third : ℕ
  pub shifts : ℕ

abbrev pub room_in : StationSeries → SeriesRoom → ℕ
room_in (Correction set) room = if set == 1 then room.first else (if set == 2 then room.second else room.third)
room_in Shift room = room.shifts

abbrev pub room_of : CorrectionSets → Shifts → SeriesRoom
room_of sets shifts = record { first = sets.first.spare; second = sets.second.spare; third = sets.third.spare; shifts = shifts.series.spare }
