use Rattle.std.specs.Prelude.{◌≡◌, ◌⊎◌, ◌+◌, ◌<◌, true, false, length, set, count_by, ℤ, pos, ◌+ℤ◌, ◌<ℤ◌, ◌≤ℤ◌}
use Rattle.std.proofs.Common.{arith, ap, sym, ◌∙◌, get_or, inl, inr}
use Rattle.std.proofs.lemmas.Int.{ints}
use Rattle.std.proofs.lemmas.List.{length-set}
use Rattle.day_cells.specs.KeptDays.{KeptDays, AreColumns, is_edit, is_pending_on, HasCell}
use Rattle.day_cells.proofs.DayLemmas.{on_day_at}
use Rattle.day_cells.proofs.KeptLemmas.{waiting_count, published, pending_has_cell, columns_written, count_written, before_cleared, joined}
use Rattle.day_cells.proofs.kept_days.DayCells.publish.Goals as goal
use Rattle.day_cells.proofs.kept_days.DayCells.publish.Goals.{After-set, In_default}

no_place : (cells : KeptDays) (day : ℤ) → HasCell cells day → (day <ℤ cells.start) ⊎ ((cells.start +ℤ pos (length cells.awaits)) ≤ℤ day) → ⊥
no_place cells day has (inl h) = let low = has.low in omega (arith, ints)
no_place cells day has (inr h) = let high = has.high in omega (arith, ints)

module _ (c : After-set) where
  -- the columns before the call
  abbrev old : KeptDays
  old = record { site = c.self.inside.site; start = c.self.inside.start; awaits = c.self.inside.awaits.items; claims = c.self.inside.claims.items; values = c.self.inside.values; span = c.self.inside.span }

  -- the day stands in the place that was found
  in_place : (c.args.day ≡ old.start +ℤ pos c.in-Some.place) × (c.in-Some.place < length old.awaits)
  in_place = rw c.deref.ensures.value at c.in-Some.ensures.found

  -- its cell awaited an edit, so one cell less awaits one
  one_less : count_by is_edit (set old.awaits c.in-Some.place 0) + 1 ≡ count_by is_edit old.awaits
  one_less =
      let place = c.in-Some.place in
      let waits : is_pending_on old c.args.day ≡ true = rw (← c.self.view_is) at c.requires in
      let was : is_edit (get_or old.awaits place 0) ≡ true = ap is_edit (sym (on_day_at old.start old.awaits 0 c.args.day place in_place.0)) ∙ waits in
      let count = rw was at (count_written old.awaits place 0 in_place.1) in
      omega (arith, count)

  -- the columns that stand after are of one length and of days of the calendar
  new_columns : AreColumns (record old { awaits = set old.awaits c.in-Some.place 0; claims = set old.claims c.in-Some.place false; values = c.set.new.self })
  new_columns =
      columns_written old c.in-Some.place 0 false c.set.new.self old.span c.self.invariant.columns
      (ap length c.set.ensures ∙ length-set old.values c.in-Some.place c.args.value) c.self.invariant.columns.span

pub overflow_sub-self : goal.overflow_sub-self
overflow_sub-self c =
    let count = one_less c in
    let counted = c.self.invariant.counted in
    omega (arith, count, counted)

pub invariant_of-self : goal.invariant_of-self
invariant_of-self c =
    let w = (goal.at.invariant_of-self c).After-set in
    let count = one_less w in
    let counted = c.self.invariant.counted in
    let awaits = set c.self.inside.awaits.items c.in-Some.place 0 in
    let value = c.deref-in-Some.ensures.value in
    let within = rw value at c.first_pending-self-inside.ensures.within in
    let between = rw value at c.first_pending-self-inside.ensures.between in
    let later = rw (c.deref-in-Some-2.ensures.value, c.deref-in-Some-3.ensures.value) at c.first_unclaimed-self-inside.ensures in
    let cleared = before_cleared c.self.inside.awaits.items c.in-Some.place c.self.inside.first (in_place w).1 c.self.invariant.before in
    record {
      columns = new_columns w;
      counted = omega (arith, count, counted);
      within = within;
      before = joined awaits c.self.inside.first c.first_pending-self-inside.result cleared between;
      unclaimed_within = later.within;
      unclaimed_before = later.before;
    }

pub returns-in-Some-clause-publishes : goal.returns-in-Some-clause-publishes
returns-in-Some-clause-publishes c =
    let w = (goal.at.returns-in-Some-clause-publishes c).After-set in
    rw (← c.self.view_is, c.set.ensures) (published (old w) c.args.day c.in-Some.place c.args.value c.self.invariant.columns (in_place w).0 (in_place w).1)

pub returns-in-Some-clause-count : goal.returns-in-Some-clause-count
returns-in-Some-clause-count c =
    let w = (goal.at.returns-in-Some-clause-count c).After-set in
    let new : KeptDays = record (old w) { awaits = set (old w).awaits c.in-Some.place 0; claims = set (old w).claims c.in-Some.place false; values = c.set.new.self } in
    rw (← c.self.view_is) (omega (arith, one_less w, waiting_count (old w) c.self.invariant.columns, waiting_count new (new_columns w)))

-- a pending day has a place
always_placed : In_default → ⊥
always_placed c =
    let cells : KeptDays = record { site = c.self.inside.site; start = c.self.inside.start; awaits = c.self.inside.awaits.items; claims = c.self.inside.claims.items; values = c.self.inside.values; span = c.self.inside.span } in
    let out = rw c.deref.ensures.value at c.in_default.ensures.absent in
    let has : HasCell c.args.self.now c.args.day = pending_has_cell c.args.self.now c.args.day c.requires in
    let has : HasCell cells c.args.day = rw (← c.self.view_is) at has in
    no_place cells c.args.day has out

pub returns-in_default-clause-publishes : goal.returns-in_default-clause-publishes
returns-in_default-clause-publishes c = absurd (always_placed c)

pub returns-in_default-clause-count : goal.returns-in_default-clause-count
returns-in_default-clause-count c = absurd (always_placed c)
