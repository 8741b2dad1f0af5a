use Rattle.std.proofs.Common.{◌≡◌, ◌-◌, ◌≤◌}
use Rattle.gapcol.specs.Gaps.{gap_list, IsGap}
use Rattle.gapcol.proofs.gap.Gap.move_to.Given as goal

abbrev pub invariant-loop-self : goal.invariant-loop-self
invariant-loop-self g l = IsGap l.self × (l.self.capacity ≡ l.fn.self.capacity) × (gap_list l.self ≡ gap_list l.fn.self)

abbrev pub decreases-loop-self : goal.decreases-loop-self
decreases-loop-self g l = l.self.front

abbrev pub invariant-loop-self-2 : goal.invariant-loop-self-2
invariant-loop-self-2 g l = IsGap l.self × (l.self.capacity ≡ l.fn.self.capacity) × (gap_list l.self ≡ gap_list l.fn.self) × (l.self.front ≤ l.at)

abbrev pub decreases-loop-self-2 : goal.decreases-loop-self-2
decreases-loop-self-2 g l = l.at - l.self.front
