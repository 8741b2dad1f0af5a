use Rattle.std.specs.Prelude.{true, drop}
use Rattle.std.proofs.Common.{arith, sym, ◌∙◌, get_or}
use Rattle.day_cells.specs.KeptDays.{waiting_of}
use Rattle.day_cells.proofs.CalendarLemmas.{first_is_found}
use Rattle.recompute.specs.Cells.{waiting}
use Rattle.recompute.proofs.FoundLemmas.{found_awaits}
use Rattle.recompute.proofs.StationLemmas.{found_behind}
use Rattle.recompute.proofs.cells.Cells.first.Goals as goal

pub returns-clause-first : goal.returns-clause-first
returns-clause-first c =
    let stations = c.self.inside.stations.items in
    let late = rw (c.split_at.ensures.back, c.deref.ensures.value) at c.first_in.ensures in
    let none = c.self.invariant.before in
    rw (← c.self.view_is)
    (late ∙ first_is_found (waiting (drop c.self.inside.first stations))
    ∙ sym (found_behind (λ _. true) stations c.self.inside.first
    (λ k z l m. sym (first_is_found (waiting_of (get_or stations k z))) ∙ none k z (omega arith) l))
    ∙ sym (first_is_found (waiting stations)))

pub returns-clause-awaits : goal.returns-clause-awaits
returns-clause-awaits c =
    let stations = c.self.inside.stations.items in
    let late = rw (c.split_at.ensures.back, c.deref.ensures.value) at c.first_in.ensures in
    let none = c.self.invariant.before in
    rw (← c.self.view_is)
    (found_awaits c.first_in.result (λ _. true) stations c.self.invariant.rising
    (late ∙ first_is_found (waiting (drop c.self.inside.first stations))
    ∙ sym (found_behind (λ _. true) stations c.self.inside.first
    (λ k z l m. sym (first_is_found (waiting_of (get_or stations k z))) ∙ none k z (omega arith) l))))
