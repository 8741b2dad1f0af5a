-- Where the cells of a station stand among those of others.
use Rattle.std.specs.Prelude.{ℤ}
use Rattle.fixed_units.specs.Quantities.{site_place}
use Rattle.day_cells.specs.KeptDays.{KeptDays}

-- the cells of a station stand where its site does
abbrev pub station_rank : KeptDays → ℤ
station_rank cells = site_place cells.site
