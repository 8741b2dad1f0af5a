-- A field visit, and the edit that puts its measurement.
use Rattle.std.specs.Prelude.{◌≡◌, [], ℤ}
use Rattle.edits.specs.Lawful.{IsMeasurementNumber}
use Rattle.edits.specs.declared.content.Edit.{Edit}
use Rattle.edits.specs.declared.content.What.TheVariants.{PutMeasurement}
use Rattle.edits.specs.declared.measurements.Measurement.{Measurement}
use Rattle.fixed_units.specs.Quantities.{IsStage, IsStamp}
use Rattle.note_loading.specs.declared.visits.Visit.{Visit}

-- the number, the instant and the gage height are those of a measurement
pub record IsVisit (v : Visit) : Type 0 where
  pub numbered : IsMeasurementNumber v.number
  pub stamp : IsStamp v.at
  pub gage : IsStage v.gage

-- its measurement with a discharge
abbrev pub measurement_of : Visit → ℤ → Measurement
measurement_of v discharge =
    record { number = v.number; at = v.at; gage = v.gage; discharge = discharge; grade = v.grade }

-- the edit that puts it, without a comment
pub record IsEditOf (v : Visit) (discharge : ℤ) (edit : Edit) : Type 0 where
  pub by_is : edit.by ≡ v.by
  pub reference_is : edit.reference ≡ v.reference
  pub site_is : edit.site ≡ v.site
  pub comment_is : edit.comment ≡ []
  pub what_is : edit.what ≡ PutMeasurement (measurement_of v discharge)
