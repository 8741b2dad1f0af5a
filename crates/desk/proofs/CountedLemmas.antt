-- The disk has counted each fault that a reply tells.
use Rattle.std.specs.Prelude.{◌≡◌, ℕ, ◌+◌, List, count_by}
use Rattle.std.proofs.Common.{ap, ◌∙◌, arith, subst}
use Rattle.desk.proofs.FaultLemmas.{all_told}
use Rattle.shared_office.specs.Passages.{Passes, RoseBy}
use Rattle.desk.specs.Replies.{AreReplies, tells_fault}
use Rattle.devices.specs.declared.disks.Disk.{Ghosts}
use Rattle.history.specs.Events.{History}
use Rattle.office.proofs.CountLemmas.{fault_count-append}
use Rattle.office.specs.Counting.{fault_count}
use Rattle.wire.specs.declared.messages.Message.{Message}

-- where a history went on by so many faults, the disk's count rose by them
pub rose_by : {D : Type 0} (g : Ghosts D) (h after : History) (n : ℕ) (old new : D) → fault_count after.events ≡ fault_count h.events + n
    → Passes g h after old new → RoseBy n (g.faults old) (g.faults new)
rose_by g h after n old new told passes =
    let joined : fault_count after.events ≡ fault_count h.events + fault_count passes.since =
    ap (λ (x : History). fault_count x.events) passes.goes_on ∙ fault_count-append h.events passes.since in
    let same : fault_count passes.since ≡ n = omega (arith, told, joined) in
    subst (λ (m : ℕ). RoseBy m (g.faults old) (g.faults new)) same passes.causes

pub rose_by_told : {D : Type 0} (g : Ghosts D) (h after : History) (ms : List Message) (rs : List (List ℕ)) (old new : D) → AreReplies h ms rs after
    → Passes g h after old new → RoseBy (count_by tells_fault rs) (g.faults old) (g.faults new)
rose_by_told g h after ms rs old new is passes =
    rose_by g h after (count_by tells_fault rs) old new (all_told h ms rs after is) passes
