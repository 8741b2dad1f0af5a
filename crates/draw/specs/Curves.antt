-- The curve of the readings that are not erroneous, and the gaps in it.
use Rattle.std.specs.Prelude.{ℕ, List, [], ◌∷◌, codes, drop, length, flat_map, Option, None, Some, if◌then◌else◌, ℤ, pos, ◌-ℤ◌, ◌*ℤ◌, int_le}
use Rattle.drawings.specs.Axes.{place}
use Rattle.drawings.specs.Columns.{path_text}
use Rattle.drawings.specs.Curves.{both, points_of}
use Rattle.drawings.specs.declared.axes.Axis.{Axis}
use Rattle.drawings.specs.declared.curves.Sample.{Sample}
use Rattle.draw.specs.Elements.{path_around}
use Rattle.draw.specs.Frames.{first_texts}
use Rattle.draw.specs.Marks.{shade_at}
use Rattle.draw.specs.Spreads.{usable_stage}
use Rattle.draw.specs.declared.frames.Frame.{Frame}
use Rattle.draw.specs.declared.frames.Numbers.{Numbers}
use Rattle.draw.specs.declared.rows.Row.{Row}
use Rattle.draw.specs.declared.rows.Row.TheVariants.{Reading, Day, Measurement}

-- the sample of a row
abbrev pub sample_at : ℤ → Option ℤ → List Sample
sample_at at None = []
sample_at at (Some stage) = record { at = at; value = stage } ∷ []

abbrev pub sample_of : Row → List Sample
sample_of (Reading reading) = sample_at reading.at (usable_stage reading)
sample_of (Day day) = []
sample_of (Measurement m) = []

abbrev pub samples_of : List Row → List Sample
samples_of rows = flat_map sample_of rows

-- the gap tolerance in seconds
abbrev pub gap_seconds : ℕ → ℤ
gap_seconds minutes = pos minutes *ℤ pos 60

-- the curve: a line joins two samples exactly where they are neighbours at most the gap apart
abbrev pub curve_text_at : Axis → Numbers → ℕ → List Sample → List ℕ
curve_text_at times numbers gap samples = path_around (codes "stage") (path_text (points_of times numbers.axis (gap_seconds gap) samples))

abbrev pub curve_in : Axis → Option Numbers → ℕ → List Sample → List ℕ
curve_in times None gap samples = []
curve_in times (Some numbers) gap samples = curve_text_at times numbers gap samples

unfoldable pub curve_text : Axis → Frame → ℕ → List Sample → List ℕ
curve_text times frame gap samples = curve_in times frame.numbers gap samples

-- where the gap between two instants begins and ends, if they are further apart than it
abbrev pub instants_places : Axis → ℤ → ℤ → Option (ℕ × ℕ)
instants_places times before at = both (place times before) (place times at)

unfoldable pub gap_places : Axis → ℕ → ℤ → ℤ → Option (ℕ × ℕ)
gap_places times gap before at = if int_le (at -ℤ before) (gap_seconds gap) then None else instants_places times before at

-- an area over the gap between the first two of samples
unfoldable pub gap_text : ℕ → Axis → Frame → List Sample → List ℕ
gap_text gap times frame (before ∷ behind ∷ samples) = shade_at frame (gap_places times gap before.at behind.at)
gap_text gap times frame samples = []

-- one wherever two neighbours are
abbrev pub each_gap : ℕ → Axis → Frame → List Sample → List ℕ
each_gap gap times frame samples = first_texts (λ k. gap_text gap times frame (drop k samples)) (length samples)

unfoldable pub gaps_text : ℕ → Axis → Frame → List Sample → List ℕ
gaps_text gap times frame samples = path_around (codes "gap") (each_gap gap times frame samples)
