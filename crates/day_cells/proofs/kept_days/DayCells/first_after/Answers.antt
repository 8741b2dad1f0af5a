use Rattle.std.specs.Prelude.{◌≡◌, ◌≤◌, max, true, false, length, ℤ, pos, ◌+ℤ◌, ◌<ℤ◌, ◌≤ℤ◌, int_lt}
use Rattle.std.proofs.Common.{arith, sym, ◌∙◌, inl, inr}
use Rattle.std.proofs.lemmas.Bool.{cases_lt, false≢true}
use Rattle.std.proofs.lemmas.Int.{ints}
use Rattle.day_cells.specs.KeptDays.{KeptDays, AreColumns}
use Rattle.day_cells.proofs.KeptLemmas.{first_found}
use Rattle.day_cells.proofs.kept_days.DayCells.first_after.Goals as goal

after : (day other : ℤ) → day <ℤ other → int_lt day other ≡ true
after day other h = grind (arith, ints)

not_after : (day other : ℤ) → other ≤ℤ day → int_lt day other ≡ false
not_after day other h = grind (arith, ints)

pub returns : goal.returns
returns c =
    let cells : KeptDays = record { site = c.self.inside.site; start = c.self.inside.start; awaits = c.self.inside.awaits.items; claims = c.self.inside.claims.items; values = c.self.inside.values; span = c.self.inside.span } in
    let h : AreColumns cells = c.self.invariant.columns in
    let place = c.first_pending-place.result in
    let value = c.deref-2.ensures.value in
    let value2 = c.deref-3.ensures.value in
    let within : place ≤ length cells.awaits = rw value at c.first_pending-place.ensures.within in
    let between = rw value at c.first_pending-place.ensures.between in
    let here = rw value at c.first_pending-place.ensures.here in
    let found = rw (value2, c.deref-4.ensures.value) at c.waiting_at.ensures.found in
    let none = rw value2 at c.waiting_at.ensures.none in
    let behind = c.count_to-behind.result in
    let early = c.count_to-behind.ensures.earlier in
    let late = rw c.deref.ensures.value at c.count_to-behind.ensures.later in
    let most : c.max.result ≡ max c.self.inside.first behind = c.max.ensures in
    let low = c.first_pending-place.ensures.low in
    rw (← c.self.view_is)
    (first_found cells (λ w. int_lt c.args.day w.day) place c.waiting_at.result h within here
    (λ l. after c.args.day (cells.start +ℤ pos place) (late place (omega arith) l))
    (λ k m g. elim (cases_lt k behind) [
      | inl l ↦ not_after c.args.day (cells.start +ℤ pos k) (early k l)
      | inr l ↦ elim (cases_lt k c.self.inside.first) [
        | inl n ↦ absurd (false≢true (sym (c.self.invariant.before k (omega arith) n) ∙ g))
        | inr n ↦ absurd (false≢true (sym (between k (omega arith) m) ∙ g))
      ]
    ]) found none)
