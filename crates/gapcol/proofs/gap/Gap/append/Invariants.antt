-- The values that were put lie before the gap, which begins at the place, and none lies behind it.
use Rattle.std.proofs.Common.{◌≡◌, ◌+◌, [], ◌++◌, take}
use Rattle.gapcol.specs.Gaps.{gap_front, gap_back, gap_list, IsGap}
use Rattle.gapcol.proofs.gap.Gap.append.Given as goal

abbrev pub invariant-loop-item : goal.invariant-loop-item
invariant-loop-item g l = let h = record l.self { len = l.place; front = l.place } in
    IsGap h × (h.capacity ≡ l.fn.self.capacity) × (gap_front h ≡ gap_list l.fn.self ++ take l.item-index l.items) × (gap_back h ≡ []) × (l.place ≡ l.fn.self.len + l.item-index)
