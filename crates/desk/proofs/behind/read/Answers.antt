use Rattle.std.proofs.Common.{[], ◌∷◌}
use Rattle.shared_office.specs.Passing.{adding, fixed_in, listed}
use Rattle.shared_office.proofs.HoldingLemmas.{goes_one, left_as_found, once_reading}
use Rattle.shared_office.proofs.TaskLemmas.{history_lent}
use Rattle.desk.proofs.AtOnceLemmas.{read_in_one}
use Rattle.desk.proofs.behind.read.Goals as goal

pub returns-clause-answered : goal.returns-clause-answered
returns-clause-answered g c =
    let e = c.enter-held.ensures in let l = c.leave.ensures in let w = c.value.result.now in (
      adding (listed w) [] ∷ [],
      goes_one c.args.pass c.leave.result (adding (listed w) [])
          (once_reading c.args.pass c.leave.result c.enter-held.result w c.value.ensures e.begins e.entered e.share e.tally l.seen l.share l.tally),
      read_in_one (fixed_in c.args.lock.now) (listed w) w.office.register.history c.args.ask c.tell.result c.told_by-told.result c.tell.new.texts.reply
          (history_lent c.args.lock.now c.enter-held.result w c.value.ensures e.fixed) c.requires.ask c.tell.ensures c.told_by-told.ensures.made
          c.told_by-told.ensures.not,
    )

pub leave-requires-clause-begins : goal.leave-requires-clause-begins
leave-requires-clause-begins g c = left_as_found c.enter-held.result c.enter-held.ensures.entered
