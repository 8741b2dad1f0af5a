use Rattle.std.specs.Prelude.{◌≤◌, true, length}
use Rattle.std.proofs.Common.{arith, refl, sym, ◌∙◌}
use Rattle.std.proofs.lemmas.Bool.{false≢true}
use Rattle.day_cells.specs.KeptDays.{KeptDays, AreColumns, waiting_of}
use Rattle.day_cells.proofs.CalendarLemmas.{first_is_found}
use Rattle.day_cells.proofs.KeptLemmas.{first_found, joined}
use Rattle.day_cells.proofs.kept_days.DayCells.first.Goals as goal

pub returns : goal.returns
returns c =
    let cells : KeptDays = record { site = c.self.inside.site; start = c.self.inside.start; awaits = c.self.inside.awaits.items; claims = c.self.inside.claims.items; values = c.self.inside.values; span = c.self.inside.span } in
    let h : AreColumns cells = c.self.invariant.columns in
    let place = c.first_pending-place.result in
    let value = c.deref.ensures.value in
    let value2 = c.deref-2.ensures.value in
    let within : place ≤ length cells.awaits = rw value at c.first_pending-place.ensures.within in
    let between = rw value at c.first_pending-place.ensures.between in
    let here = rw value at c.first_pending-place.ensures.here in
    let found = rw (value2, c.deref-3.ensures.value) at c.waiting_at.ensures.found in
    let none = rw value2 at c.waiting_at.ensures.none in
    let before = joined cells.awaits c.self.inside.first place c.self.invariant.before between in
    rw (← c.self.view_is)
    (first_found cells (λ _. true) place c.waiting_at.result h within here (λ _. refl)
    (λ k m g. absurd (false≢true (sym (before k (omega arith) m) ∙ g))) found none
    ∙ sym (first_is_found (waiting_of cells)))
