use Rattle.desk.specs.Replies.{tells_fault}
use Rattle.desk.proofs.SharedFaultLemmas.{counted_replies, few_replies}
use Rattle.office.specs.Counting.{fault_count}
use Rattle.shared_office.specs.Entries.{events_in}
use Rattle.shared_office.specs.Passing.{listed}
use Rattle.shared_office.proofs.TaskLemmas.{events_of_entries}
use Rattle.std.proofs.Common.{subst}
use Rattle.std.specs.Prelude.{count_by, ◌≤◌, ◌+◌}
use Rattle.desk.proofs.laws.the_disk_has_counted_each_503.Goals as goal

pub returns : goal.returns
returns g c = λ fixed start holdings messages replies follow is.
    let s = c.args.shared.now in
    counted_replies (fault_count s.office.register.history.events) (g.D.Disk.faults s.office.disk) (count_by tells_fault replies) (fault_count (events_in start))
    (subst (λ events. fault_count (events_in start) + count_by tells_fault replies ≤ fault_count events)
    (events_of_entries s.ending s.office.register.history.events) (few_replies fixed start holdings (listed s) messages replies follow is))
    s.counted
