use Rattle.std.proofs.Common.{◌∙◌, ℕ, List, false, true, inl, subst}
use Rattle.devices.specs.Sinks.{AreWritten}
use Rattle.fixed_units.specs.declared.readings.Reading.{Reading}
use Rattle.reading_loading.proofs.TellLemmas.{told_units}
use Rattle.reading_loading.specs.Loading.{ArePutAndTold}
use Rattle.reading_loading.proofs.loading.tell_units.Goals as goal

pub returns-then-not-tell_puts-clause-told : goal.returns-then-not-tell_puts-clause-told
returns-then-not-tell_puts-clause-told g c =
    let told = subst
    (λ (r : List Reading). (lines : List ℕ)
    × ArePutAndTold false c.args.order.now r c.args.office.now.register.history c.tell_puts.new.office.register.history lines
    × AreWritten (g.K.Sink.written c.args.sink.now) lines (g.K.Sink.written c.tell_puts.new.sink) true)
    c.as_slice.ensures c.if-not-tell_puts.ensures.told
    in
    (told.0, inl told.1, told.2)

pub returns-clause-told : goal.returns-clause-told
returns-clause-told g c =
    let told = subst
    (λ (r : List Reading). (lines : List ℕ)
    × ArePutAndTold true c.args.order.now r c.args.office.now.register.history c.tell_puts.new.office.register.history lines
    × AreWritten (g.K.Sink.written c.args.sink.now) lines (g.K.Sink.written c.tell_puts.new.sink) true)
    c.as_slice.ensures c.if-not-tell_puts.ensures.told
    in
    told_units c.args.order.now c.args.units c.args.office.now.register.history c.tell_puts.new.office.register.history c.put_all.result
    (g.K.Sink.written c.args.sink.now) (g.K.Sink.written c.tell_puts.new.sink) (g.K.Sink.written c.put_all.new.sink) told
    (subst (λ (l : List ℕ). AreWritten (g.K.Sink.written c.tell_puts.new.sink) l (g.K.Sink.written c.put_all.new.sink) c.put_all.result)
    (c.as_slice-2.ensures.value ∙ c.count_line.ensures) c.put_all.ensures.written)
