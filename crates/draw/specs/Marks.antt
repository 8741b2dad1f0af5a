-- What is drawn of rows over time: each kind of mark is one path.
use Rattle.std.specs.Prelude.{ℕ, ◌-◌, Bool, true, false, if◌then◌else◌, List, [], ◌++◌, codes, flat_map, Option, None, Some, ℤ, pos, ◌+ℤ◌}
use Rattle.civil_days.specs.Starts.{day_start_of}
use Rattle.drawings.specs.Axes.{place}
use Rattle.drawings.specs.Curves.{both}
use Rattle.drawings.specs.declared.axes.Axis.{Axis}
use Rattle.fixed_units.specs.declared.readings.Flag.{Flag}
use Rattle.fixed_units.specs.declared.readings.Flag.TheVariants as flag
use Rattle.fixed_units.specs.declared.readings.Reading.{Reading}
use Rattle.draw.specs.Elements.{area_text, cross_text, level_text, path_around, tick_text}
use Rattle.draw.specs.Frames.{height_of}
use Rattle.draw.specs.declared.frames.Frame.{Frame}
use Rattle.draw.specs.declared.marks.Mark.{Mark}
use Rattle.draw.specs.declared.marks.Mark.TheVariants.{MeanStage, Computed, Estimated, Review, Approved, Affected, Erroneous, MeasuredStage, MeasuredDischarge}
use Rattle.draw.specs.declared.rows.DayRow.{DayRow}
use Rattle.draw.specs.declared.rows.MeasurementRow.{MeasurementRow}
use Rattle.draw.specs.declared.rows.Row.{Row}
use Rattle.draw.specs.declared.rows.Row.TheVariants as row
use Rattle.draw.specs.declared.rows.Status.{Status}
use Rattle.draw.specs.declared.rows.Status.TheVariants as status

-- the class of the path of a kind of mark
unfoldable pub class_of : Mark → List ℕ
class_of MeanStage = codes "daily"
class_of Computed = codes "daily"
class_of Estimated = codes "estimated"
class_of Review = codes "review"
class_of Approved = codes "approved"
class_of Affected = codes "affected"
class_of Erroneous = codes "wrong"
class_of MeasuredStage = codes "cross"
class_of MeasuredDischarge = codes "cross"

-- a tick where an affected reading stands, at the upper side, and where an erroneous one does, at the lower side
abbrev pub tick_top : Mark → Flag → Frame → Option ℕ
tick_top Affected flag.Affected frame = Some frame.top
tick_top Erroneous flag.Erroneous frame = Some (frame.bottom - 10)
tick_top mark f frame = None

abbrev pub tick_at : Option ℕ → Option ℕ → List ℕ
tick_at None y = []
tick_at (Some x) None = []
tick_at (Some x) (Some y) = tick_text x y

abbrev pub reading_text : Mark → Axis → Frame → Reading → List ℕ
reading_text mark times frame reading = tick_at (place times reading.at) (tick_top mark reading.flag frame)

-- where a day begins and ends
abbrev pub day_places : List ℕ → Axis → ℤ → Option (ℕ × ℕ)
day_places zone times day = both (place times (day_start_of zone day)) (place times (day_start_of zone (day +ℤ pos 1)))

-- a level line over a day, at its mean
abbrev pub mean_of : Mark → DayRow → Option ℤ
mean_of MeanStage day = day.stage
mean_of Computed day = if day.estimated then None else day.discharge
mean_of Estimated day = if day.estimated then day.discharge else None
mean_of mark day = None

abbrev pub level_at : Option (ℕ × ℕ) → Option ℕ → List ℕ
level_at None y = []
level_at (Some x) None = []
level_at (Some x) (Some y) = level_text x.0 x.1 y

-- an area over a day of a status
abbrev pub is_shaded : Mark → Status → Bool
is_shaded Review status.Review = true
is_shaded Approved status.Approved = true
is_shaded mark s = false

abbrev pub shade_at : Frame → Option (ℕ × ℕ) → List ℕ
shade_at frame None = []
shade_at frame (Some x) = area_text x.0 x.1 frame.top frame.bottom

abbrev pub day_text : Mark → List ℕ → Axis → Frame → DayRow → List ℕ
day_text mark zone times frame day =
    level_at (day_places zone times day.day) (height_of frame (mean_of mark day))
    ++ (if is_shaded mark day.status then shade_at frame (day_places zone times day.day) else [])

-- a cross where a measurement stands
abbrev pub measured_of : Mark → MeasurementRow → Option ℤ
measured_of MeasuredStage m = Some m.stage
measured_of MeasuredDischarge m = Some m.discharge
measured_of mark m = None

abbrev pub cross_at : Option ℕ → Option ℕ → List ℕ
cross_at None y = []
cross_at (Some x) None = []
cross_at (Some x) (Some y) = cross_text x y

abbrev pub measurement_text : Mark → Axis → Frame → MeasurementRow → List ℕ
measurement_text mark times frame m = cross_at (place times m.at) (height_of frame (measured_of mark m))

-- the mark of a row, if it has one and stands in the frame
unfoldable pub mark_text : Mark → List ℕ → Axis → Frame → Row → List ℕ
mark_text mark zone times frame (row.Reading reading) = reading_text mark times frame reading
mark_text mark zone times frame (row.Day day) = day_text mark zone times frame day
mark_text mark zone times frame (row.Measurement m) = measurement_text mark times frame m

abbrev pub each_text : Mark → List ℕ → Axis → Frame → List Row → List ℕ
each_text mark zone times frame rows = flat_map (mark_text mark zone times frame) rows

-- the path of a kind of mark
unfoldable pub marks_text : Mark → List ℕ → Axis → Frame → List Row → List ℕ
marks_text mark zone times frame rows = path_around (class_of mark) (each_text mark zone times frame rows)
