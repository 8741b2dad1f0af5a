-- The site and the zone are known.
use Rattle.std.proofs.Common.{◌∙◌, ap, sym}
use Rattle.csv.specs.Records.{field_at}
use Rattle.rating_tables.specs.Rdb.{fields, is_field}
use Rattle.rdb_records.specs.Rows.{time_in, zone_in}
use Rattle.rdb_records.specs.Times.{stamp_by}
use Rattle.rdb_records.proofs.RowLemmas.{instant_is}
use Rattle.rdb_records.proofs.TimeLemmas.{hours_is}
use Rattle.rdb_records.proofs.rows.read_instant.Goals as goal

pub returns : goal.returns
returns c =
    let all = fields c.args.line.now.bytes.now in
    let hours = c.in-Some.hours in
    let time = rw (hours_is hours c.in-Some.ensures.bound.low c.in-Some.ensures.bound.high) at c.read_time-at.ensures in
    instant_is c.args.line.now.number (is_field c.args.site.now (field_at all c.args.columns.site)) (zone_in (field_at all c.args.columns.zone)) (time_in (field_at all c.args.columns.time)) hours c.read_time-at.result c.ok_or.result
    (ap (is_field c.args.site.now) (sym c.find_field.ensures) ∙ sym c.is_of_site.ensures ∙ c.if-not-is_of_site.false)
    (c.in-Some.ensures.value ∙ ap zone_in c.find_field-2.ensures)
    (time ∙ ap (λ o. stamp_by hours (time_in o)) c.find_field-3.ensures)
    c.ok_or.ensures.value
