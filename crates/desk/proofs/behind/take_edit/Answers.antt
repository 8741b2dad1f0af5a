use Rattle.std.proofs.Common.{◌≡◌, ◌+◌, ◌-◌, ◌^◌, min, length, [], ◌∷◌, Some, sym, ◌∙◌, ap}
use Rattle.history.specs.Accepted.{accepted}
use Rattle.desk.specs.Answering.{told_bytes}
use Rattle.shared_office.specs.Entries.{fixed_part}
use Rattle.shared_office.specs.Passing.{adding, fixed_in, listed}
use Rattle.shared_office.specs.declared.shared.Shared.{Shared}
use Rattle.shared_office.proofs.HoldingLemmas.{goes_one, left_as_found, once_adding, once_reading}
use Rattle.shared_office.proofs.TaskLemmas.{history_lent, unchanged}
use Rattle.desk.proofs.AtOnceLemmas.{edit_forgone, edit_in_one}
use Rattle.desk.proofs.behind.take_edit.Goals as goal

-- there was no memory for the reply, and the office was not asked
pub returns-in_default-clause-answered : goal.returns-in_default-clause-answered
returns-in_default-clause-answered g c =
    let e = c.enter-held.ensures in let l = c.leave.ensures in let w = c.value.result.now in (
      adding (listed w) [] ∷ [],
      goes_one c.args.pass c.leave.result (adding (listed w) [])
          (once_reading c.args.pass c.leave.result c.enter-held.result w c.value.ensures e.begins e.entered e.share e.tally l.seen l.share l.tally),
      edit_forgone (fixed_in c.args.lock.now) (listed w) c.args.edit,
    )

pub leave-requires-clause-begins : goal.leave-requires-clause-begins
leave-requires-clause-begins g c = left_as_found c.enter-held.result c.enter-held.ensures.entered

pub returns-clause-answered : goal.returns-clause-answered
returns-clause-answered g c =
    let e = c.enter-held.ensures in let l = c.leave-back.ensures in let w = c.value_mut.result.now in let u = c.take-told.new.self in
    let list = c.take-told.ensures.list in
    let read : c.value.result.now ≡ w = c.value.ensures ∙ sym c.value_mut.ensures.value in
    let number : c.saturating_add-number.result ≡ min (length (accepted c.value.result.now.office.register.history.events) + 1) (2 ^ 64 - 1) =
    rw c.edits.ensures at c.saturating_add-number.ensures in
    let due : c.prepare.new.self.accepts ≡ Some (min (length (accepted w.office.register.history.events) + 1) (2 ^ 64 - 1)) =
    c.in-Ok.ensures ∙ ap Some (number ∙ ap (λ (s : Shared g.row.D.Denot g.D.Disk). min (length (accepted s.office.register.history.events) + 1) (2 ^ 64 - 1)) read) in (
      adding (listed w) list.0 ∷ [],
      goes_one c.args.pass c.leave-back.result (adding (listed w) list.0)
          (once_adding c.args.pass c.leave-back.result c.enter-held.result w u list.0 c.value_mut.ensures.value list.1.2
          e.begins e.entered e.share e.tally l.seen l.share l.tally),
      edit_in_one (fixed_in c.args.lock.now) (listed w) w.office.register.history u.office.register.history list.0 c.args.edit
          (told_bytes c.tell_edit.result c.tell_edit.new.texts.reply)
          (history_lent c.args.lock.now c.enter-held.result w c.value_mut.ensures.value e.fixed) list.1.0
          (c.tell_edit.ensures.answered w.office.register.history u.office.register.history c.args.edit c.take-told.ensures.edited due),
    )

pub leave-back-requires-clause-fixed : goal.leave-back-requires-clause-fixed
leave-back-requires-clause-fixed g c =
    unchanged c.args.lock.now _ c.value_mut.result.now c.take-told.new.self c.value_mut.ensures.value c.enter-held.ensures.fixed
    (ap fixed_part c.take-told.ensures.list.1.0) c.take-told.ensures.begun
