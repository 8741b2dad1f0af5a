use Rattle.std.proofs.Common.{◌≡◌, ◌≤◌, ◌++◌, List, ℕ, length, Some, IfSome}
use Rattle.std.specs.List.{concat}
use Rattle.shared_office.specs.Passages.{Passes}
use Rattle.edits.specs.declared.content.Edit.{Edit}
use Rattle.reading_loading.specs.Lines.{end_of}
use Rattle.reading_loading.specs.Puts.{AreFirstPuts}
use Rattle.told_edits.specs.Lines.{AreSent}
use Rattle.reading_loading.proofs.loading.tell_puts.Given as goal

-- so many edits were asked, one behind another, and the line of each was written
abbrev pub invariant-loop-place : goal.invariant-loop-place
invariant-loop-place g l = record {
  edits : List Edit;
  lines : List (List ℕ);
  count : length edits ≡ l.place;
  puts : AreFirstPuts l.fn.order l.fn.readings edits;
  sent : AreSent end_of l.fn.office.register.history edits lines l.office.register.history;
  wrote : IfSome (g.K.Sink.written l.fn.sink) (λ before. g.K.Sink.written l.sink ≡ Some (before ++ concat lines));
  passed : Passes g.D.Disk l.fn.office.register.history l.office.register.history l.fn.office.disk l.office.disk;
  disk_counted : g.D.Disk.faults l.fn.office.disk ≤ g.D.Disk.faults l.office.disk;
  output_counted : g.K.Sink.faults l.fn.sink ≤ g.K.Sink.faults l.sink;
}
