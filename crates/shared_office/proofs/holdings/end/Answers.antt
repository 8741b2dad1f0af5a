use Rattle.office.specs.Offices.{Officed}
use Rattle.shared_office.specs.Entries.{fixed_part}
use Rattle.shared_office.specs.Passing.{listed}
use Rattle.std.proofs.Common.{List, ap, subst}
use Rattle.shared_office.specs.Passing.{GoesOnce}
use Rattle.shared_office.specs.declared.entries.Entry.{Entry}
use Rattle.shared_office.proofs.HoldingLemmas.{left_on, once}
use Rattle.shared_office.proofs.TaskLemmas.{end_grows, end_told, unchanged}
use Rattle.shared_office.proofs.holdings.end.Goals as goal

pub returns-clause-held : goal.returns-clause-held
returns-clause-held g c =
    let e = c.enter-held.ensures in let l = c.leave.ensures in let w = c.value_mut.result.now in let u = c.end.new.self in
    let told = end_told w u c.end.ensures.told c.end.ensures.before c.end.ensures.office in (
      listed w,
      subst (λ (to : List Entry). GoesOnce c.args.pass c.leave.result (record { from = listed w; to = to })) told
          (once c.args.pass c.leave.result c.enter-held.result w (listed u) c.value_mut.ensures.value (end_grows w u told)
          e.begins e.entered e.share e.tally l.seen l.share l.tally),
    )

pub leave-requires-clause-begins : goal.leave-requires-clause-begins
leave-requires-clause-begins g c =
    let w = c.value_mut.result.now in let u = c.end.new.self in
    left_on c.enter-held.result w u c.value_mut.ensures.value c.enter-held.ensures.entered
    (end_grows w u (end_told w u c.end.ensures.told c.end.ensures.before c.end.ensures.office))

pub leave-requires-clause-fixed : goal.leave-requires-clause-fixed
leave-requires-clause-fixed g c =
    unchanged c.args.lock.now _ c.value_mut.result.now c.end.new.self c.value_mut.ensures.value c.enter-held.ensures.fixed
    (ap (λ (o : Officed g.row.D.Denot). fixed_part o.register.history) c.end.ensures.office) c.end.ensures.begun
