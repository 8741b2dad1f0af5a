-- The lines up to a place were added.
use Rattle.std.proofs.Common.{◌≡◌, ◌≤◌, ◌++◌, length, take}
use Rattle.std.specs.List.{concat}
use Rattle.midsection.specs.Midsection.{discharges, total}
use Rattle.note_loading.specs.Figures.{lines_from}
use Rattle.note_loading.proofs.figures.write_verticals.Given as goal

abbrev pub invariant-loop-place : goal.invariant-loop-place
invariant-loop-place l = record {
  within : l.place ≤ length l.notes;
  lines : l.text ≡ l.fn.text ++ concat (lines_from 1 (total l.notes) (take l.place (discharges l.notes)));
}
