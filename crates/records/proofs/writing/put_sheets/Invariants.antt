use Rattle.std.proofs.Common.{◌≡◌, ◌++◌, flat_map, take}
use Rattle.records.specs.Payloads.{sheet_bytes}
use Rattle.records.proofs.writing.put_sheets.Given as goal

abbrev pub invariant-loop-sheet : goal.invariant-loop-sheet
invariant-loop-sheet l = l.out.items ≡ l.initial.out.items ++ flat_map sheet_bytes (take l.sheet-index l.sheets)
