use Rattle.std.proofs.Common.{arith, length-append}
use Rattle.std.specs.Prelude.{flat_map, length}
use Rattle.std.specs.Int.{w32, to_le_bytes}
use Rattle.records.specs.Payloads.{reading_bytes, table_bytes}
use Rattle.records.proofs.PutLemmas.{length-readings}
use Rattle.records.proofs.RatingLemmas.{length-table}
use Rattle.records.proofs.lengths.fields_len.Goals as goal

pub returns-in-PutReadings-clause-value : goal.returns-in-PutReadings-clause-value
returns-in-PutReadings-clause-value c =
    let readings = c.in-PutReadings.readings in
    rw (c.in-PutReadings.is, c.as_slice-in-PutReadings.ensures)
    (omega (arith, length-readings readings, length-append (to_le_bytes w32 (length readings)) (flat_map reading_bytes readings)))

pub returns-in-PutCorrection-clause-value : goal.returns-in-PutCorrection-clause-value
returns-in-PutCorrection-clause-value c =
    let put = c.in-PutCorrection in
    rw put.is (omega (arith, c.entry_len.ensures.value put.at put.prorate))

pub returns-in-PutShift-clause-value : goal.returns-in-PutShift-clause-value
returns-in-PutShift-clause-value c =
    let put = c.in-PutShift in
    rw put.is (c.entry_len-in-PutShift.ensures.value put.at put.prorate)

pub returns-in-AddRating-clause-value : goal.returns-in-AddRating-clause-value
returns-in-AddRating-clause-value c =
    let rating = c.in-AddRating.rating in
    let table = c.in-AddRating.table in
    rw (c.in-AddRating.is, c.rows.ensures.rows, c.table.ensures)
    (omega (arith, length-table table, length-append (to_le_bytes w32 rating) (table_bytes table)))
