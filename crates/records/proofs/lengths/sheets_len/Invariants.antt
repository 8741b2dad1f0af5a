use Rattle.std.proofs.Common.{◌≡◌, ◌≤◌, ◌*◌, flat_map, length, take}
use Rattle.records.specs.Payloads.{sheet_bytes}
use Rattle.records.proofs.lengths.sheets_len.Given as goal

abbrev pub invariant-loop-sheet : goal.invariant-loop-sheet
invariant-loop-sheet l =
    (l.len ≡ length (flat_map sheet_bytes (take l.sheet-index l.sheets))) × (l.len ≤ 2_404 * l.sheet-index)
