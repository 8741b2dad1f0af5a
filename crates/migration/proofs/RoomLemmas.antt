-- How much room records take.
use Rattle.std.proofs.Common.{◌≡◌, ℕ, ◌+◌, ◌<◌, List, length, take, get_or, flat_map, ap, arith, length-append}
use Rattle.std.proofs.lemmas.List.Folds.{length-flat_map-take}
use Rattle.journal.specs.JournalBytes.{block, front, header}
use Rattle.migration.specs.Reading.{HasRoom}
use Rattle.records.specs.Sheets.{Record}
use Rattle.records.specs.declared.formats.Format.TheVariants.{Second}

-- a journal takes its header, its records and a gate
pub room_is : (records : List Record) → length (front Second records) ≡ 16 + length (flat_map (block Second) records)
room_is records = length-append (header Second) (flat_map (block Second) records)

-- a record for which there is no room behind the first ones leaves none for all
pub no_room : (records : List Record) (index : ℕ) (piece : Record) (left len limit : ℕ) → index < length records → piece ≡ get_or records index piece
    → left + (17 + length (flat_map (block Second) (take index records))) ≡ limit → len ≡ length (block Second piece) → left < len → ¬ HasRoom limit records
no_room records index piece left len limit lt is at long less room =
    let more = length-flat_map-take (block Second) records index piece lt in
    let here : length (block Second piece) ≡ length (block Second (get_or records index piece)) = ap (λ (r : Record). length (block Second r)) is in
    let whole = room_is records in
    omega (arith, more, here, whole, at, long, less, room)
