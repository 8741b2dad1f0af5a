use Rattle.std.specs.Prelude.{not}
use Rattle.recompute.proofs.FoundLemmas.{found_awaits}
use Rattle.std.proofs.Common.{arith, sym, ◌∙◌}
use Rattle.recompute.proofs.StationLemmas.{found_behind}
use Rattle.recompute.proofs.cells.Cells.first_unclaimed.Goals as goal

pub returns-clause-first : goal.returns-clause-first
returns-clause-first c =
    let stations = c.self.inside.stations.items in
    let late = rw (c.split_at.ensures.back, c.deref.ensures.value) at c.first_unclaimed_in.ensures in
    let none = c.self.invariant.unclaimed_before in
    rw (← c.self.view_is)
    (late ∙ sym (found_behind (λ w. not w.out) stations c.self.inside.unclaimed (λ k z l m. none k z (omega arith) l)))

pub returns-clause-awaits : goal.returns-clause-awaits
returns-clause-awaits c =
    let stations = c.self.inside.stations.items in
    let late = rw (c.split_at.ensures.back, c.deref.ensures.value) at c.first_unclaimed_in.ensures in
    let none = c.self.invariant.unclaimed_before in
    rw (← c.self.view_is)
    (found_awaits c.first_unclaimed_in.result (λ w. not w.out) stations c.self.invariant.rising
    (late ∙ sym (found_behind (λ w. not w.out) stations c.self.inside.unclaimed (λ k z l m. none k z (omega arith) l))))
