use Rattle.std.specs.Prelude.{◌≡◌, ◌++◌, take, flat_map}
use Rattle.water_year.specs.DailyText.{head_text, row_text}
use Rattle.water_year.proofs.daily.write_rows.Given as goal

-- the rows so far were added
abbrev pub invariant-loop-row : goal.invariant-loop-row
invariant-loop-row l = l.out ≡ l.fn.out ++ (head_text ++ flat_map (row_text l.fn.site) (take l.row-index l.rows))
