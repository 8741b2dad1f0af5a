-- The wider columns say what the narrower ones said, and have a cell for each of the days.
use Rattle.std.specs.Prelude.{◌≡◌}
use Rattle.std.proofs.Common.{refl, get_or}
use Rattle.day_cells.specs.KeptDays.{KeptDays, SaysTheSame, HasCell}
use Rattle.day_cells.proofs.MarkLemmas.{wider, wider_same, wider_keeps, wider_has, wider_kept, waiting_same}
use Rattle.day_cells.proofs.kept_days.DayCells.prepare.Goals as goal
use Rattle.day_cells.proofs.kept_days.DayCells.prepare.Goals.{In_ok-widen}

module _ (c : In_ok-widen) where
  -- the columns that stood before, and those that stand after
  abbrev old : KeptDays
  old = record { site = c.self.inside.site; start = c.self.inside.start; awaits = c.self.inside.awaits.items; claims = c.self.inside.claims.items; values = c.self.inside.values; span = c.self.inside.span }

  abbrev new : KeptDays
  new = record { site = c.self.inside.site; start = c.wide_start-start.result; awaits = c.in_ok-awaits.awaits.items; claims = c.in_ok-claims.claims.items; values = c.widen.new.self; span = c.self.inside.span }

  -- the new columns are the old ones with cells in front and behind
  new_is_wider : new ≡ wider old c.wide_start-start.result c.distance-front.result c.room_behind-back.result
  new_is_wider =
      let a = rw c.deref-3.ensures.value at c.in_ok-awaits.ensures in
      let b = rw c.deref-4.ensures.value at c.in_ok-claims.ensures in
      let d = c.in_ok-widen.ensures.ok in
      rw (a, b, d) refl

  -- they say the same
  new_same : SaysTheSame old new
  new_same = rw new_is_wider (wider_same old c.wide_start-start.result c.distance-front.result c.room_behind-back.result c.distance-front.ensures)

pub invariant_of-self-2 : goal.invariant_of-self-2
invariant_of-self-2 c =
    let w = (goal.at.invariant_of-self-2 c).In_ok-widen in
    let high = rw c.deref-2.ensures.value at c.room_behind-back.ensures.high in
    rw (new_is_wider w) (wider_keeps (old w) c.wide_start-start.result c.distance-front.result c.room_behind-back.result
    c.self.inside.pending c.self.inside.first c.self.inside.first_unclaimed c.self.invariant c.distance-front.ensures c.wide_start-start.ensures.first high)

pub returns-clause-same : goal.returns-clause-same
returns-clause-same c = rw (← c.self.view_is) (new_same (goal.at.returns-clause-same c).In_ok-widen)

pub returns-clause-waiting : goal.returns-clause-waiting
returns-clause-waiting c =
    let w = (goal.at.returns-clause-waiting c).In_ok-widen in
    rw (← c.self.view_is) (waiting_same (old w) (new w) (new_same w))

pub returns-clause-room : goal.returns-clause-room
returns-clause-room c k z l =
    let w = (goal.at.returns-clause-room c).In_ok-widen in
    let all = rw c.deref-2.ensures.value at c.room_behind-back.ensures.all in
    rw (new_is_wider w) (wider_has (old w) c.wide_start-start.result c.distance-front.result c.room_behind-back.result
    (get_or c.args.changed.now k z) c.distance-front.ensures (c.wide_start-start.ensures.all k z l) (all k z l))

pub returns-clause-kept : goal.returns-clause-kept
returns-clause-kept c day h =
    let w = (goal.at.returns-clause-kept c).In_ok-widen in
    let h : HasCell (old w) day = rw (← c.self.view_is) at h in
    rw (new_is_wider w) (wider_kept (old w) c.wide_start-start.result c.distance-front.result c.room_behind-back.result day c.distance-front.ensures h)
