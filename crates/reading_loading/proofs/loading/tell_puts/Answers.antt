use Rattle.std.proofs.Common.{◌≡◌, ◌<◌, ◌+◌, ◌++◌, ◌∷◌, [], ℕ, List, arith, length, length-append, refl, rules, subst, sym}
use Rattle.std.specs.Fork.{slice_chunk}
use Rattle.desk.proofs.SessionLemmas.{wrote_reply}
use Rattle.shared_office.proofs.StretchLemmas.{passes_more}
use Rattle.edits.specs.Lawful.{most_readings}
use Rattle.edits.specs.declared.content.Edit.{Edit}
use Rattle.fixed_units.specs.declared.readings.Reading.{Reading}
use Rattle.reading_loading.proofs.PutLemmas.{no_puts, one_more_put}
use Rattle.reading_loading.proofs.TellLemmas.{told_few, told_puts}
use Rattle.reading_loading.specs.Lines.{end_of}
use Rattle.reading_loading.specs.Puts.{IsPut, Order, put_count}
use Rattle.told_edits.proofs.LineLemmas.{sent_more}
use Rattle.reading_loading.proofs.loading.tell_puts.Goals as goal

-- the edit of a place is the next one
put_next : (order : Order) (readings : List Reading) (place count : ℕ) (edit : Edit) → count ≡ place
    → IsPut order (place + 1) (slice_chunk readings most_readings place) edit → IsPut order (count + 1) (slice_chunk readings most_readings count) edit
put_next order readings place count edit here put =
    subst (λ (n : ℕ). IsPut order (n + 1) (slice_chunk readings most_readings n) edit) (sym here) put

pub returns-then-not-tell_put-clause-told : goal.returns-then-not-tell_put-clause-told
returns-then-not-tell_put-clause-told g c =
    let kept = c.loop-place.invariant in
    let told = c.if-not-tell_put.ensures.told in
    let left : length kept.edits < put_count (length c.args.readings.now) = omega (arith, kept.count, c.count_puts-place-end.ensures, c.loop-place-test.true) in
    told_few c.args.order.now c.args.readings.now c.args.office.now.register.history c.loop-place.office.register.history kept.edits kept.lines
    (g.K.Sink.written c.args.sink.now) (g.K.Sink.written c.loop-place.sink) kept.puts kept.sent kept.wrote
    c.tell_put.new.office.register.history told.0 told.1 (g.K.Sink.written c.tell_put.new.sink) left
    (put_next c.args.order.now c.args.readings.now c.loop-place.place (length kept.edits) told.0 kept.count told.2) told.3 told.4

pub returns-then-not-tell_put-clause-passed : goal.returns-then-not-tell_put-clause-passed
returns-then-not-tell_put-clause-passed g c =
    passes_more g.D.Disk c.args.office.now.register.history c.loop-place.office.register.history c.tell_put.new.office.register.history
    c.args.office.now.disk c.loop-place.office.disk c.tell_put.new.office.disk c.loop-place.invariant.passed c.tell_put.ensures.passed

pub returns-clause-told : goal.returns-clause-told
returns-clause-told g c =
    let kept = c.loop-place.invariant in
    let all : length kept.edits ≡ put_count (length c.args.readings.now) =
    omega (arith, kept.count, c.count_puts-place-end.ensures, c.loop-place-test.false, c.loop-place.auto.place-end)
    in
    told_puts c.args.order.now c.args.readings.now c.args.office.now.register.history c.loop-place.office.register.history kept.edits kept.lines
    (g.K.Sink.written c.args.sink.now) (g.K.Sink.written c.loop-place.sink) kept.puts kept.sent kept.wrote all

pub loop-place-preserved : goal.loop-place-preserved
loop-place-preserved g c =
    let kept = c.loop-place.invariant in
    let told = c.if-not-tell_put.ensures.told in
    let left : length kept.edits < put_count (length c.args.readings.now) = omega (arith, kept.count, c.count_puts-place-end.ensures, c.loop-place-test.true) in
    let put = put_next c.args.order.now c.args.readings.now c.loop-place.place (length kept.edits) told.0 kept.count told.2 in
    record {
      edits = kept.edits ++ told.0 ∷ [];
      lines = kept.lines ++ told.1 ∷ [];
      count = omega (arith, kept.count, length-append kept.edits (told.0 ∷ []));
      puts = one_more_put c.args.order.now c.args.readings.now kept.edits told.0 kept.puts left put;
      sent = sent_more end_of c.args.office.now.register.history c.loop-place.office.register.history c.tell_put.new.office.register.history
          kept.edits kept.lines told.0 told.1 kept.sent told.3;
      wrote = wrote_reply (g.K.Sink.written c.args.sink.now) (g.K.Sink.written c.loop-place.sink) (g.K.Sink.written c.tell_put.new.sink)
          kept.lines told.1 kept.wrote told.4;
      passed = passes_more g.D.Disk c.args.office.now.register.history c.loop-place.office.register.history c.tell_put.new.office.register.history
          c.args.office.now.disk c.loop-place.office.disk c.tell_put.new.office.disk kept.passed c.tell_put.ensures.passed;
      disk_counted = omega (arith, kept.disk_counted, c.tell_put.ensures.disk_counted);
      output_counted = omega (arith, kept.output_counted, c.tell_put.ensures.output_counted);
    }

pub loop-place-init : goal.loop-place-init
loop-place-init g c = record {
  edits = [];
  lines = [];
  count = refl;
  puts = no_puts c.args.order.now c.args.readings.now;
  sent = refl;
  wrote = search rules;
  passed = c.stands_still.ensures;
  disk_counted = omega arith;
  output_counted = omega arith;
}
