use Rattle.std.proofs.Common.{Some, None, refl}
use Rattle.gapcol.proofs.Gaps.{fresh}
use Rattle.gapcol.proofs.gap.Gap.with_capacity.Goals as goal

pub returns-then-capacity-eq0 : goal.returns-then-capacity-eq0
returns-then-capacity-eq0 g c =
    let n = c.nowhere-cells.ensures in
    let made = fresh (record { base = c.nowhere-cells.result.0; capacity = c.args.capacity; len = 0; front = 0; cells = c.nowhere-cells.result.1; deed = None; alloc = c.args.alloc }) (n.0, tt) (c.if-not-may_hold.ensures refl).1 refl refl n.1 in
    record { made = (made.0, made.1, made.2, refl); small = (c.if-not-may_hold.ensures refl).0 }

pub returns : goal.returns
returns g c =
    let n = c.in_ok-base.ensures in
    let made = fresh (record { base = c.in_ok-base.base; capacity = c.args.capacity; len = 0; front = 0; cells = c.in_ok-base.cells; deed = Some c.in_ok-base.deed; alloc = c.args.alloc }) (n.0, (n.2, n.3, n.4)) (c.if-not-may_hold.ensures refl).1 refl refl n.1 in
    record { made = (made.0, made.1, made.2, refl); small = (c.if-not-may_hold.ensures refl).0 }
