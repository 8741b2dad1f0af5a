use Rattle.std.specs.Prelude.{◌⊎◌, true, length, set, ℤ, pos, ◌+ℤ◌, ◌<ℤ◌, ◌≤ℤ◌}
use Rattle.std.proofs.Common.{arith, sym, ◌∙◌, inl, inr}
use Rattle.std.proofs.lemmas.Int.{ints}
use Rattle.std.proofs.lemmas.List.{length-set}
use Rattle.day_cells.specs.KeptDays.{KeptDays, AreColumns, HasCell}
use Rattle.day_cells.proofs.KeptLemmas.{waiting_count, taken_out, pending_has_cell}
use Rattle.day_cells.proofs.kept_days.DayCells.take_out.Goals as goal

no_place : (cells : KeptDays) (day : ℤ) → HasCell cells day → (day <ℤ cells.start) ⊎ ((cells.start +ℤ pos (length cells.awaits)) ≤ℤ day) → ⊥
no_place cells day has (inl h) = let low = has.low in omega (arith, ints)
no_place cells day has (inr h) = let high = has.high in omega (arith, ints)

pub returns-in-Some-clause-takes_out : goal.returns-in-Some-clause-takes_out
returns-in-Some-clause-takes_out c =
    let cells : KeptDays = record { site = c.self.inside.site; start = c.self.inside.start; awaits = c.self.inside.awaits.items; claims = c.self.inside.claims.items; values = c.self.inside.values; span = c.self.inside.span } in
    let at = rw c.deref.ensures.value at c.in-Some.ensures.found in
    rw (← c.self.view_is) (taken_out cells c.args.day c.in-Some.place true c.self.invariant.columns at.0 at.1)

pub returns-in-Some-clause-count : goal.returns-in-Some-clause-count
returns-in-Some-clause-count c =
    let cells : KeptDays = record { site = c.self.inside.site; start = c.self.inside.start; awaits = c.self.inside.awaits.items; claims = c.self.inside.claims.items; values = c.self.inside.values; span = c.self.inside.span } in
    let place = c.in-Some.place in
    let h : AreColumns cells = c.self.invariant.columns in
    let new : KeptDays = record cells { claims = set cells.claims place true } in
    let columns : AreColumns new = record { claims = length-set cells.claims place true ∙ h.claims; values = h.values; low = h.low; high = h.high; span = h.span } in
    rw (← c.self.view_is) (waiting_count new columns ∙ sym (waiting_count cells h))

pub returns-in_default-clause-takes_out : goal.returns-in_default-clause-takes_out
returns-in_default-clause-takes_out c =
    let cells : KeptDays = record { site = c.self.inside.site; start = c.self.inside.start; awaits = c.self.inside.awaits.items; claims = c.self.inside.claims.items; values = c.self.inside.values; span = c.self.inside.span } in
    let out = rw c.deref.ensures.value at c.in_default.ensures.absent in
    let has : HasCell c.args.self.now c.args.day = pending_has_cell c.args.self.now c.args.day c.requires in
    let has : HasCell cells c.args.day = rw (← c.self.view_is) at has in
    absurd (no_place cells c.args.day has out)
