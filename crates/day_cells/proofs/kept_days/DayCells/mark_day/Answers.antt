use Rattle.std.specs.Prelude.{◌≡◌, ◌⊎◌, ◌+◌, false, cond, length, set, ℤ, pos, ◌+ℤ◌, ◌<ℤ◌, ◌≤ℤ◌}
use Rattle.std.proofs.Common.{arith, refl, ap, sym, ◌∙◌, get_or, inl, inr}
use Rattle.std.proofs.lemmas.Int.{ints}
use Rattle.day_cells.specs.KeptDays.{KeptDays, AreColumns, is_edit, is_pending_on, HasCell}
use Rattle.day_cells.proofs.KeptLemmas.{waiting_count, marked, marked_keeps, pending_at, column_written, columns_written, count_marked}
use Rattle.day_cells.proofs.kept_days.DayCells.mark_day.Goals as goal

no_place : (cells : KeptDays) (day : ℤ) → HasCell cells day → (day <ℤ cells.start) ⊎ ((cells.start +ℤ pos (length cells.awaits)) ≤ℤ day) → ⊥
no_place cells day has (inl h) = let low = has.low in omega (arith, ints)
no_place cells day has (inr h) = let high = has.high in omega (arith, ints)

pub invariant_of-self : goal.invariant_of-self
invariant_of-self c =
    let cells : KeptDays = record { site = c.self.inside.site; start = c.self.inside.start; awaits = c.self.inside.awaits.items; claims = c.self.inside.claims.items; values = c.self.inside.values; span = c.self.inside.span } in
    let place = c.in-Some.place in
    let edit = c.args.edit in
    let at = rw c.deref.ensures.value at c.in-Some.ensures.found in
    let awaits = column_written c.self.inside.awaits _ _ place edit c.deref_mut.ensures.value c.mark_at.ensures.awaits in
    let claims = column_written c.self.inside.claims _ _ place false c.deref_mut-in-Some.ensures.value c.mark_at.ensures.claims in
    let more : c.mark_at.result ≡ cond (is_edit (get_or cells.awaits place 0)) 0 1 = rw c.deref_mut.ensures.value at c.mark_at.ensures.more in
    rw (awaits, claims) (marked_keeps cells place edit c.mark_at.result c.self.inside.pending c.self.inside.first c.self.inside.first_unclaimed
    c.min-self-inside.result c.min-self-inside-in-Some.result c.with_day-self-inside.result c.self.invariant at.1 c.requires.edit c.with_day-self-inside.ensures.span more
    (omega arith) (omega arith) (omega arith) (omega arith))

pub returns-in-Some-clause-marks : goal.returns-in-Some-clause-marks
returns-in-Some-clause-marks c =
    let cells : KeptDays = record { site = c.self.inside.site; start = c.self.inside.start; awaits = c.self.inside.awaits.items; claims = c.self.inside.claims.items; values = c.self.inside.values; span = c.self.inside.span } in
    let place = c.in-Some.place in
    let edit = c.args.edit in
    let at = rw c.deref.ensures.value at c.in-Some.ensures.found in
    let awaits = column_written c.self.inside.awaits _ _ place edit c.deref_mut.ensures.value c.mark_at.ensures.awaits in
    let claims = column_written c.self.inside.claims _ _ place false c.deref_mut-in-Some.ensures.value c.mark_at.ensures.claims in
    rw (← c.self.view_is, awaits, claims) (marked cells c.args.day place edit c.with_day-self-inside.result c.self.invariant.columns at.0 at.1)

pub returns-in-Some-clause-count : goal.returns-in-Some-clause-count
returns-in-Some-clause-count c =
    let cells : KeptDays = record { site = c.self.inside.site; start = c.self.inside.start; awaits = c.self.inside.awaits.items; claims = c.self.inside.claims.items; values = c.self.inside.values; span = c.self.inside.span } in
    let place = c.in-Some.place in
    let edit = c.args.edit in
    let at = rw c.deref.ensures.value at c.in-Some.ensures.found in
    let awaits = column_written c.self.inside.awaits _ _ place edit c.deref_mut.ensures.value c.mark_at.ensures.awaits in
    let claims = column_written c.self.inside.claims _ _ place false c.deref_mut-in-Some.ensures.value c.mark_at.ensures.claims in
    let span = c.with_day-self-inside.result in
    let new : KeptDays = record cells { awaits = set cells.awaits place edit; claims = set cells.claims place false; span = span } in
    let columns : AreColumns new = columns_written cells place edit false cells.values span c.self.invariant.columns refl c.with_day-self-inside.ensures.span in
    let was = ap (is_pending_on cells) at.0 ∙ pending_at cells place in
    let count = count_marked cells.awaits place edit (cond (is_pending_on cells c.args.day) 0 1) at.1 c.requires.edit (ap (λ b. cond b 0 1) was) in
    rw (← c.self.view_is, awaits, claims) (waiting_count new columns ∙ count ∙ ap (λ n. n + cond (is_pending_on cells c.args.day) 0 1) (sym (waiting_count cells c.self.invariant.columns)))

pub returns-in_default-clause-marks : goal.returns-in_default-clause-marks
returns-in_default-clause-marks c =
    let cells : KeptDays = record { site = c.self.inside.site; start = c.self.inside.start; awaits = c.self.inside.awaits.items; claims = c.self.inside.claims.items; values = c.self.inside.values; span = c.self.inside.span } in
    let out = rw c.deref.ensures.value at c.in_default.ensures.absent in
    let has : HasCell c.args.self.now c.args.day = c.requires.room in
    let has : HasCell cells c.args.day = rw (← c.self.view_is) at has in
    absurd (no_place cells c.args.day has out)
