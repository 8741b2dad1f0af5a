use Rattle.std.specs.Prelude.{◌≡◌, Bool, true, false, not, ◌&&◌}
use Rattle.std.proofs.Common.{ap, get_or}
use Rattle.std.proofs.lemmas.Bool.{false≢true}
use Rattle.day_cells.specs.KeptDays.{KeptDays, AreColumns, is_edit}
use Rattle.day_cells.proofs.KeptLemmas.{first_found}
use Rattle.day_cells.proofs.kept_days.DayCells.first_unclaimed.Goals as goal

no_longer : (b out : Bool) → b ≡ true → (b && not out) ≡ false → not out ≡ false
no_longer true out e h = h
no_longer false out e h = absurd (false≢true e)

pub returns : goal.returns
returns c =
    let cells : KeptDays = record { site = c.self.inside.site; start = c.self.inside.start; awaits = c.self.inside.awaits.items; claims = c.self.inside.claims.items; values = c.self.inside.values; span = c.self.inside.span } in
    let h : AreColumns cells = c.self.invariant.columns in
    let place = c.first_unclaimed-place.result in
    let values = rw (c.deref.ensures.value, c.deref-2.ensures.value) at c.first_unclaimed-place.ensures in
    let found = rw (c.deref-3.ensures.value, c.deref-4.ensures.value) at c.waiting_at.ensures.found in
    let none = rw c.deref-3.ensures.value at c.waiting_at.ensures.none in
    rw (← c.self.view_is)
    (first_found cells (λ w. not w.out) place c.waiting_at.result h values.within values.pending (λ l. ap not (values.unclaimed l))
    (λ k m g. no_longer (is_edit (get_or cells.awaits k 0)) (get_or cells.claims k false) g (values.before k m)) found none)
