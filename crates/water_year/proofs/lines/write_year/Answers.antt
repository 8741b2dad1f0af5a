use Rattle.std.proofs.Common.{ap}
use Rattle.water_year.specs.declared.tables.Year.{Year}
use Rattle.water_year.proofs.YearLemmas.{months_figured, whole_figured}
use Rattle.water_year.proofs.lines.write_year.Goals as goal

pub write_lines-written-requires-clause-months : goal.write_lines-written-requires-clause-months
write_lines-written-requires-clause-months c =
    let table = c.requires.table in
    months_figured c.args.year table.0 c.args.table.now.months c.requires.year table.1 (ap (λ (t : Year). t.months) table.2)

pub write_lines-written-requires-clause-whole : goal.write_lines-written-requires-clause-whole
write_lines-written-requires-clause-whole c =
    let table = c.requires.table in
    whole_figured c.args.year table.0 c.args.table.now.whole c.requires.year table.1 (ap (λ (t : Year). t.whole) table.2)
