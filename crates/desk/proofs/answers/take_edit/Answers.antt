use Rattle.std.proofs.Common.{◌≡◌, ◌+◌, ◌-◌, ◌^◌, Some, length, min, ◌∙◌, ap, rules}
use Rattle.desk.proofs.AnswerLemmas.{edits_none}
use Rattle.shared_office.proofs.PassageLemmas.{passes_published, passes_told, publishes_none}
use Rattle.desk.proofs.answers.take_edit.Goals as goal
use Rattle.history.specs.Accepted.{accepted}

-- there was no memory for the reply, and the office was not asked
pub returns-then-is_err-clause-passed : goal.returns-then-is_err-clause-passed
returns-then-is_err-clause-passed g c =
    let only = g.met.D.Disk.only_now in
    let h = c.args.office.now.register.history in
    passes_published g.D.Disk h h c.args.office.now.disk (only c.args.office.now.disk) c.an_office_stands_on_its_disk.ensures.images (publishes_none h)

pub returns-clause-answered : goal.returns-clause-answered
returns-clause-answered g c =
    let ready : c.prepare.new.self.accepts ≡ Some c.saturating_add.result = search rules in
    let number : c.saturating_add.result ≡ min (length (accepted c.args.office.now.register.history.events) + 1) (2 ^ 64 - 1) =
    rw c.edits.ensures at c.saturating_add.ensures in
    c.tell_edit.ensures.answered c.args.office.now.register.history c.take.new.self.register.history c.args.edit c.take.ensures.edited
    (ready ∙ ap Some number)

pub returns-clause-passed : goal.returns-clause-passed
returns-clause-passed g c =
    passes_told g.D.Disk c.args.office.now.register.history c.take.new.self.register.history c.args.edit c.take.result
    c.args.office.now.disk c.take.new.self.disk c.take.ensures.edited c.take.ensures.counted c.take.ensures.cause c.take.ensures.any_moment
    c.take.ensures.told

pub returns-clause-claims : goal.returns-clause-claims
returns-clause-claims g c = edits_none c.args.office.now.register c.take.new.self.register c.args.edit c.take.result c.take.ensures.claims c.requires.claims
