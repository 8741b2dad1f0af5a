use Rattle.desk.specs.Answering.{told_bytes}
use Rattle.shared_office.specs.Passing.{fixed_in}
use Rattle.desk.proofs.DayByDayLemmas.{turns_answered}
use Rattle.desk.proofs.behind.take_turns.Goals as goal

pub returns-clause-answered : goal.returns-clause-answered
returns-clause-answered g c =
    turns_answered (fixed_in c.args.lock.now) c.args.count c.args.pass c.turn_often-back.result.0 c.turn_often-back.result.1
    (told_bytes c.tell_turned.result c.tell_turned.new.texts.reply) c.requires.some c.turn_often-back.ensures.turned c.tell_turned.ensures.told
    c.tell_turned.ensures.not
