-- The changes of a station's readings.
use Rattle.std.specs.Prelude.{List, [], ⊤}
use Rattle.fixed_units.specs.declared.readings.Reading.{Reading}
use Rattle.readings.specs.Readings.{IsRising, put_all, with_flag, without_span}
use Rattle.readings.specs.declared.changes.Change.{Change}
use Rattle.readings.specs.declared.changes.Change.TheVariants.{Put, Drop, Flag}

-- what a change puts
abbrev pub put_list : Change → List Reading
put_list (Put list) = list.now
put_list (Drop from to) = []
put_list (Flag from to flag) = []

-- the readings after a change that puts these: with each put in place of the one at its instant, without those of a span, or with
-- those of a span flagged anew
abbrev pub changed_by : Change → List Reading → List Reading → List Reading
changed_by (Put list) puts readings = put_all puts readings
changed_by (Drop from to) puts readings = without_span from to readings
changed_by (Flag from to flag) puts readings = with_flag from to flag readings

-- the readings after a change
abbrev pub changed : Change → List Reading → List Reading
changed change readings = changed_by change (put_list change) readings

-- what is put rises by instant
abbrev pub IsRisingChange : Change → Type 0
IsRisingChange (Put list) = IsRising list.now
IsRisingChange (Drop from to) = ⊤
IsRisingChange (Flag from to flag) = ⊤
