use Rattle.std.specs.Prelude.{◌≤◌, List, length}
use Rattle.shared_office.specs.Holdings.{Holding}
use Rattle.shared_office.specs.Passing.{IsOf}
use Rattle.shared_office.specs.declared.entries.Entry.{Entry}
use Rattle.turnstile.specs.Passes.{seen}
use Rattle.workers.specs.Work.{IsAtWork}
use Rattle.workers.proofs.workers.worker.Given as goal

abbrev pub invariant-loop : goal.invariant-loop
invariant-loop g l =
    (goal.iterator-loop g).can_next l.iterator' × (goal.iterator-loop g).is_finite l.iterator'
    × IsOf l.lock l.pass × (l.published ≤ length (seen l.pass)) × (holdings : List (Holding (List Entry))) × IsAtWork l.lock l.fn.given l.pass holdings l.published
