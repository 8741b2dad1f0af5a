-- The kinds of edits: of each its members from left to right.
use Rattle.std.specs.Prelude.{Option}
use Rattle.serde_json.specs.Data.{Data}
use Rattle.serde_json.specs.Find.{as_bool}
use Rattle.edit_bodies.specs.Grammars.{string_of, name_of, zone_of, gap_of, array_of, readings_of, flag_of, to_of, day_of, last_day_of, decision_of, set_of, instant_of, points_of, rating_number_of, table_of, until_of, measurement_number_of, stage_of, discharge_of, grade_of, least_of}
use Rattle.edit_bodies.specs.Members.{Reader, ◌>>=◌, done, required}
use Rattle.edits.specs.declared.kinds.Kind.{Kind}
use Rattle.edits.specs.declared.kinds.Kind.TheVariants as kinds
use Rattle.edit_bodies.specs.declared.members.Member.TheVariants.{Name, Zone, Gap, StageArray, DischargeArray, Readings, To, Flag, Set, At, Points, Prorate, Rating, Rows, From, Until, Day, Number, Gage, Discharge, Grade, Decision, Least}
use Rattle.edits.specs.Kinds.{kind_named}
use Rattle.edits.specs.declared.content.What.{What}
use Rattle.edits.specs.declared.content.What.TheVariants.{AddStation, SetStation, PutReadings, DropReadings, FlagReadings, PutCorrection, DropCorrection, PutShift, DropShift, AddRating, PutPeriod, DropPeriod, PutEstimate, DropEstimate, PutMeasurement, DropMeasurement, Review, Decide, SetEdition}

-- the kind of an edit, by its name
abbrev pub kind_of : Data → Option Kind
kind_of value = string_of kind_named value

-- the members of each kind
abbrev pub row : Kind → Reader What
row kinds.AddStation = do
  name ← required Name name_of
  zone ← required Zone zone_of
  gap ← required Gap gap_of
  stage_array ← required StageArray array_of
  discharge_array ← required DischargeArray array_of
  done (AddStation name zone gap stage_array discharge_array)
row kinds.SetStation = do
  name ← required Name name_of
  gap ← required Gap gap_of
  stage_array ← required StageArray array_of
  discharge_array ← required DischargeArray array_of
  done (SetStation name gap stage_array discharge_array)
row kinds.PutReadings = do
  readings ← required Readings readings_of
  done (PutReadings readings)
row kinds.DropReadings = do
  from ← required From instant_of
  to ← required To (to_of from)
  done (DropReadings from to)
row kinds.FlagReadings = do
  from ← required From instant_of
  to ← required To (to_of from)
  flag ← required Flag flag_of
  done (FlagReadings from to flag)
row kinds.PutCorrection = do
  set ← required Set set_of
  at ← required At instant_of
  curve ← required Points points_of
  prorate ← required Prorate as_bool
  done (PutCorrection set at curve prorate)
row kinds.DropCorrection = do
  set ← required Set set_of
  at ← required At instant_of
  done (DropCorrection set at)
row kinds.PutShift = do
  at ← required At instant_of
  curve ← required Points points_of
  prorate ← required Prorate as_bool
  done (PutShift at curve prorate)
row kinds.DropShift = do
  at ← required At instant_of
  done (DropShift at)
row kinds.AddRating = do
  rating ← required Rating rating_number_of
  table ← required Rows table_of
  done (AddRating rating table)
row kinds.PutPeriod = do
  rating ← required Rating rating_number_of
  from ← required From instant_of
  until ← required Until (until_of from)
  done (PutPeriod (record { from = from; until = until; rating = rating }))
row kinds.DropPeriod = do
  from ← required From instant_of
  done (DropPeriod from)
row kinds.PutEstimate = do
  day ← required Day day_of
  discharge ← required Discharge discharge_of
  done (PutEstimate (record { day = day; discharge = discharge }))
row kinds.DropEstimate = do
  day ← required Day day_of
  done (DropEstimate day)
row kinds.PutMeasurement = do
  number ← required Number measurement_number_of
  at ← required At instant_of
  gage ← required Gage stage_of
  discharge ← required Discharge discharge_of
  grade ← required Grade grade_of
  done (PutMeasurement (record { number = number; at = at; gage = gage; discharge = discharge; grade = grade }))
row kinds.DropMeasurement = do
  number ← required Number measurement_number_of
  done (DropMeasurement number)
row kinds.Review = do
  from ← required From day_of
  to ← required To (last_day_of from)
  done (Review from to)
row kinds.Decide = do
  from ← required From day_of
  to ← required To (last_day_of from)
  decision ← required Decision decision_of
  done (Decide from to decision)
row kinds.SetEdition = do
  day ← required Day day_of
  least ← required Least least_of
  done (SetEdition day least)
