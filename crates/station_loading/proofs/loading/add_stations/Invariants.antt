use Rattle.std.proofs.Common.{◌≡◌, ◌≤◌, ◌++◌, List, ℕ, length, Some, IfSome}
use Rattle.std.specs.List.{concat}
use Rattle.std.specs.Vec.Iter.{into_iter_items, into_iter_len}
use Rattle.shared_office.specs.Passages.{Passes}
use Rattle.station_loading.specs.Lines.{end_of}
use Rattle.told_edits.specs.Lines.{AreSent}
use Rattle.station_loading.proofs.loading.add_stations.Given as goal

-- those so far were asked, one behind another, and the line of each was written
abbrev pub invariant-loop-edit : goal.invariant-loop-edit
invariant-loop-edit g l =
    (goal.iterator-loop-edit g).can_next l.edit-iterator × (goal.iterator-loop-edit g).is_finite l.edit-iterator
    × record {
      whole : l.fn.edits.items ≡ l.yielded ++ into_iter_items l.edit-iterator;
      count : into_iter_len l.edit-iterator ≡ length (into_iter_items l.edit-iterator);
      lines : List (List ℕ);
      added : AreSent end_of l.fn.office.register.history l.yielded lines l.office.register.history;
      wrote : IfSome (g.K.Sink.written l.fn.sink) (λ before. g.K.Sink.written l.sink ≡ Some (before ++ concat lines));
      passed : Passes g.D.Disk l.fn.office.register.history l.office.register.history l.fn.office.disk l.office.disk;
      disk_counted : g.D.Disk.faults l.fn.office.disk ≤ g.D.Disk.faults l.office.disk;
      output_counted : g.K.Sink.faults l.fn.sink ≤ g.K.Sink.faults l.sink;
    }
