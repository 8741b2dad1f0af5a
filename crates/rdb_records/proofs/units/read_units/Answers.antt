-- What the lines behind the names and the formats state, the text states.
use Rattle.std.proofs.Common.{◌∙◌, inr}
use Rattle.rating_tables.specs.Lines.{kept_lines}
use Rattle.rdb_records.proofs.ReadLemmas.{has_columns, has_lines, lacks_column, read_each, read_rising, refused_if, stated}
use Rattle.rdb_records.proofs.units.read_units.Goals as goal

pub returns-in_default-find_columns-clause-err : goal.returns-in_default-find_columns-clause-err
returns-in_default-find_columns-clause-err c =
    let names = c.in-Some.names in
    let formats = c.in-Some-next_line.formats in
    let whole =
    has_lines c.args.text.now c.without_mark-text.result.now (names.number, names.bytes.now) (formats.number, formats.bytes.now) (kept_lines names.number names.behind.now)
    (kept_lines formats.number formats.behind.now) c.without_mark-text.ensures.text c.in-Some.ensures.lines c.in-Some-next_line.ensures.lines in
    inr (lacks_column c.args.column.now c.args.text.now (names.number, names.bytes.now) (formats.number, formats.bytes.now) (kept_lines formats.number formats.behind.now) whole c.in_default-find_columns.ensures)

pub returns-clause-ok : goal.returns-clause-ok
returns-clause-ok c =
    let names = c.in-Some.names in
    let formats = c.in-Some-next_line.formats in
    let lines = kept_lines formats.number formats.behind.now in
    let whole =
    has_lines c.args.text.now c.without_mark-text.result.now (names.number, names.bytes.now) (formats.number, formats.bytes.now) (kept_lines names.number names.behind.now)
    lines c.without_mark-text.ensures.text c.in-Some.ensures.lines c.in-Some-next_line.ensures.lines in
    let under = has_columns c.args.column.now c.args.text.now (names.number, names.bytes.now) (formats.number, formats.bytes.now) lines c.in-Some-find_columns.columns whole c.in-Some-find_columns.ensures in
    stated c.args.site c.as_slice.result.now c.args.column.now c.args.text.now c.in-Some-find_columns.columns lines c.read_rows.result (c.as_slice.ensures.value ∙ c.site_digits-site.ensures.digits) under c.read_rows.ensures.ok

pub returns-clause-rising : goal.returns-clause-rising
returns-clause-rising c =
    let formats = c.in-Some-next_line.formats in
    read_rising c.as_slice.result.now c.in-Some-find_columns.columns (kept_lines formats.number formats.behind.now) c.read_rows.result c.read_rows.ensures.ok

pub returns-clause-each : goal.returns-clause-each
returns-clause-each c =
    let formats = c.in-Some-next_line.formats in
    read_each c.as_slice.result.now c.in-Some-find_columns.columns (kept_lines formats.number formats.behind.now) c.read_rows.result c.read_rows.ensures.ok

pub returns-clause-err : goal.returns-clause-err
returns-clause-err c =
    let names = c.in-Some.names in
    let formats = c.in-Some-next_line.formats in
    let lines = kept_lines formats.number formats.behind.now in
    let whole =
    has_lines c.args.text.now c.without_mark-text.result.now (names.number, names.bytes.now) (formats.number, formats.bytes.now) (kept_lines names.number names.behind.now)
    lines c.without_mark-text.ensures.text c.in-Some.ensures.lines c.in-Some-next_line.ensures.lines in
    let under = has_columns c.args.column.now c.args.text.now (names.number, names.bytes.now) (formats.number, formats.bytes.now) lines c.in-Some-find_columns.columns whole c.in-Some-find_columns.ensures in
    refused_if c.args.site c.as_slice.result.now c.args.column.now c.args.text.now c.in-Some-find_columns.columns lines c.read_rows.result (c.as_slice.ensures.value ∙ c.site_digits-site.ensures.digits) under c.read_rows.ensures.err
