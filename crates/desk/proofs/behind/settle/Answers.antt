use Rattle.desk.specs.Answering.{told_bytes}
use Rattle.shared_office.specs.Passing.{fixed_in}
use Rattle.desk.proofs.DayByDayLemmas.{settlement_answered}
use Rattle.desk.proofs.behind.settle.Goals as goal

pub returns-clause-answered : goal.returns-clause-answered
returns-clause-answered g c =
    settlement_answered (fixed_in c.args.lock.now) c.args.pass c.settle_days-back.result.0 c.settle_days-back.result.1
    (told_bytes c.tell_turned.result c.tell_turned.new.texts.reply) c.settle_days-back.ensures.settled c.tell_turned.ensures.told
    c.tell_turned.ensures.not
