-- Turns publish days, and nothing else happens.
use Rattle.std.proofs.Common.{ap, sym, subst, ◌∙◌}
use Rattle.shared_office.specs.Passages.{Passes}
use Rattle.shared_office.proofs.PassageLemmas.{passes_published}
use Rattle.desk.proofs.TurnLemmas.{published_by_turns}
use Rattle.history.specs.Accepted.{accepted}
use Rattle.history.specs.Events.{History}
use Rattle.office.proofs.DoubtLemmas.{accepted_publications}
use Rattle.table_writing.proofs.turns.make_turns.Goals as goal

pub returns-clause-records : goal.returns-clause-records
returns-clause-records g c =
    let h = c.args.office.now.register.history in
    let days = published_by_turns c.turn_often.result h c.turn_often.new.office.register.history c.args.count c.turn_often.ensures.turned c.turn_often.ensures.partly in
    ap (λ (x : History). accepted x.events) days.after_is ∙ accepted_publications h.events days.days

pub returns-clause-passed : goal.returns-clause-passed
returns-clause-passed g c =
    let only = g.met.D.Disk.only_now in
    let h = c.args.office.now.register.history in
    let after = c.turn_often.new.office.register.history in
    let days = published_by_turns c.turn_often.result h after c.args.count c.turn_often.ensures.turned c.turn_often.ensures.partly in
    subst (λ disk. Passes g.D.Disk h after c.args.office.now.disk disk) (sym c.turn_often.ensures.disk)
    (passes_published g.D.Disk h after c.args.office.now.disk (only c.args.office.now.disk) c.an_office_stands_on_its_disk.ensures.images days)
