use Rattle.std.proofs.Common.{sym, subst, rules}
use Rattle.desk.specs.Asked.{IsReading}
use Rattle.shared_office.specs.Passages.{Passes}
use Rattle.http_api.specs.declared.asks.Ask.TheVariants as asks
use Rattle.desk.proofs.AnswerLemmas.{by_office, by_reading}
use Rattle.shared_office.proofs.PassageLemmas.{passes_published, publishes_none}
use Rattle.desk.proofs.TurnLemmas.{published_by_settlement, published_by_turns}
use Rattle.desk.proofs.answers.answer.Goals as goal

pub returns-in-Edit-clause-answered : goal.returns-in-Edit-clause-answered
returns-in-Edit-clause-answered g c = rw c.in-Edit.is c.take_edit.ensures.answered

pub returns-in-Turns-clause-answered : goal.returns-in-Turns-clause-answered
returns-in-Turns-clause-answered g c =
    rw c.in-Turns.is (by_office c.take_turns.result c.told_by.result c.args.office.now.register.history (asks.Turns c.in-Turns.count) c.take_turns.new.texts.reply
    c.take_turns.new.office.register.history
    c.take_turns.ensures.reply c.take_turns.ensures.history c.take_turns.ensures.left c.told_by.ensures.made c.told_by.ensures.not)

pub returns-in-Turns-clause-passed : goal.returns-in-Turns-clause-passed
returns-in-Turns-clause-passed g c =
    let only = g.met.D.Disk.only_now in
    let h = c.args.office.now.register.history in
    let after = c.take_turns.new.office.register.history in
    let days = published_by_turns c.take_turns.result h after c.in-Turns.count c.take_turns.ensures.history c.take_turns.ensures.left in
    subst (λ disk. Passes g.D.Disk h after c.args.office.now.disk disk) (sym c.take_turns.ensures.disk)
    (passes_published g.D.Disk h after c.args.office.now.disk (only c.args.office.now.disk) c.an_office_stands_on_its_disk.ensures.images days)

pub returns-in-Settle-clause-answered : goal.returns-in-Settle-clause-answered
returns-in-Settle-clause-answered g c =
    rw c.in-Settle.is (by_office c.settle.result c.told_by-in-Settle.result c.args.office.now.register.history asks.Settle c.settle.new.texts.reply
    c.settle.new.office.register.history
    c.settle.ensures.reply c.settle.ensures.history c.settle.ensures.left c.told_by-in-Settle.ensures.made c.told_by-in-Settle.ensures.not)

pub returns-in-Settle-clause-passed : goal.returns-in-Settle-clause-passed
returns-in-Settle-clause-passed g c =
    let only = g.met.D.Disk.only_now in
    let h = c.args.office.now.register.history in
    let after = c.settle.new.office.register.history in
    let days = published_by_settlement c.settle.result h after c.settle.ensures.history c.settle.ensures.left in
    subst (λ disk. Passes g.D.Disk h after c.args.office.now.disk disk) (sym c.settle.ensures.disk)
    (passes_published g.D.Disk h after c.args.office.now.disk (only c.args.office.now.disk) c.an_office_stands_on_its_disk.ensures.images days)

pub returns-in_default-clause-answered : goal.returns-in_default-clause-answered
returns-in_default-clause-answered g c =
    let only : IsReading c.args.ask = search rules in
    by_reading c.tell.result c.told_by-in_default.result c.args.office.now.register.history c.args.ask c.tell.new.texts.reply only
    c.tell.ensures c.told_by-in_default.ensures.made c.told_by-in_default.ensures.not

pub returns-in_default-clause-passed : goal.returns-in_default-clause-passed
returns-in_default-clause-passed g c =
    let only = g.met.D.Disk.only_now in
    let h = c.args.office.now.register.history in
    passes_published g.D.Disk h h c.args.office.now.disk (only c.args.office.now.disk) c.an_office_stands_on_its_disk.ensures.images (publishes_none h)
