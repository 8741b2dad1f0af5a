use Rattle.std.specs.Prelude.{◌≡◌, ◌++◌, take, flat_map, zip}
use Rattle.water_year.specs.YearText.{month_line, month_names}
use Rattle.water_year.proofs.lines.write_months.Given as goal

-- the lines of the months so far were added
abbrev pub invariant-loop-place : goal.invariant-loop-place
invariant-loop-place l = l.out ≡ l.fn.out ++ flat_map (month_line l.array) (zip (take l.place month_names) (take l.place l.months))
