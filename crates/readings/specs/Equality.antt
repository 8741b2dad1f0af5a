-- When two readings, and two lists of them, are equal.
use Rattle.std.specs.Prelude.{Bool, true, false, ◌&&◌, List}
use Rattle.std.specs.Ordering.{int_eq}
use Rattle.std.specs.Cmp.Lexicographic.{pointwise}
use Rattle.fixed_units.specs.declared.readings.Reading.{Reading}
use Rattle.fixed_units.specs.declared.readings.Flag.{Flag}
use Rattle.fixed_units.specs.declared.readings.Flag.TheVariants.{Usable, Erroneous, Affected}

-- the flags are one
abbrev pub same_flag : Flag → Flag → Bool
same_flag Usable Usable = true
same_flag Erroneous Erroneous = true
same_flag Affected Affected = true
same_flag _ _ = false

-- the instants, the stages and the flags are
abbrev pub same_reading : Reading → Reading → Bool
same_reading r s = int_eq r.at s.at && (int_eq r.raw s.raw && same_flag r.flag s.flag)

-- the lists are as long, and each pair is one
abbrev pub same_readings : List Reading → List Reading → Bool
same_readings readings others = pointwise same_reading readings others
