use Rattle.std.proofs.Common.{sym, subst}
use Rattle.std.specs.Prelude.{IfOk}
use Rattle.history.specs.Events.{History}
use Rattle.shared_office.specs.Finding.{IsLooked}
use Rattle.shared_office.specs.Passing.{listed}
use Rattle.shared_office.proofs.HoldingLemmas.{left_as_found, once_reading}
use Rattle.shared_office.proofs.TaskLemmas.{history_lent}
use Rattle.shared_office.proofs.holdings.look.Goals as goal

pub returns-clause-held : goal.returns-clause-held
returns-clause-held g c =
    let e = c.enter-held.ensures in let l = c.leave.ensures in let w = c.value.result.now in (
      listed w,
      once_reading c.args.pass c.leave.result c.enter-held.result w c.value.ensures e.begins e.entered e.share e.tally l.seen l.share l.tally,
      subst (λ (h : History). IfOk c.look-looked.result (IsLooked h c.args.last))
          (sym (history_lent c.args.lock.now c.enter-held.result w c.value.ensures e.fixed)) c.look-looked.ensures,
    )

pub leave-requires-clause-begins : goal.leave-requires-clause-begins
leave-requires-clause-begins g c = left_as_found c.enter-held.result c.enter-held.ensures.entered
