-- Record after record, until the closed gate.
use Rattle.std.proofs.Common.{rules, Err, ◌≡◌, ◌+◌, ◌∷◌, ◌++◌, [], suc, Bool, true, Some, Ok, length, length-append, arith, ap, sym, subst, refl, ◌∙◌}
use Rattle.ledger.proofs.RunLemmas.{begins, nothing_written, one_more, rose_earlier, stopped_ends, stops_no_input, whole_ends}
use Rattle.ledger.specs.Runs.{BeginsWith, GoesOn}
use Rattle.records.specs.declared.formats.Format.{Format}
use Rattle.ledger.proofs.runs.write_all.Goals as goal

pub loop-number-init : goal.loop-number-init
loop-number-init g c =
    let gate : c.args.opening.now.gate ≡ 16 = c.requires.gate in
    record {
      so_far = ([], c.requires, refl, (nothing_written (g.K.Sink.written c.args.sink.now), tt));
      place = omega (arith, gate);
      same = refl;
      counted = omega arith;
    }

pub overflow_add-number : goal.overflow_add-number
overflow_add-number g c =
    let true_is = ap (λ (b : Bool). Ok b) c.if-branch.true in
    let within = c.in_ok-write_next.ensures.within true_is in
    let place = c.loop-number.invariant.place in
    omega (arith, within, place)

pub loop-number-smaller : goal.loop-number-smaller
loop-number-smaller g c =
    let true_is = ap (λ (b : Bool). Ok b) c.if-branch.true in
    let moves = c.in_ok-write_next.ensures.moves true_is in
    let within = c.in_ok-write_next.ensures.within true_is in
    omega (arith, moves, within)

pub loop-number-preserved : goal.loop-number-preserved
loop-number-preserved g c =
    let kept = c.loop-number.invariant in
    let pieces = kept.so_far.0 in
    let is = kept.so_far.2 in
    let before = g.K.Sink.written c.loop-number.sink in
    let after = g.K.Sink.written c.write_next.new.sink in
    let next = subst (λ (b : Bool). GoesOn c.args.form c.args.choice.now c.loop-number.number pieces c.write_next.new.opening before after (Ok b)) c.if-branch.true (c.in_ok-write_next.ensures.next pieces kept.so_far.1) in
    let counted : c.loop-number.number + 1 ≡ suc (length (pieces ++ next.0 ∷ [])) = omega (arith, is, length-append pieces (next.0 ∷ [])) in
    let moves = c.in_ok-write_next.ensures.moves (ap (λ (b : Bool). Ok b) c.if-branch.true) in
    let place = kept.place in
    let faults = kept.counted in
    let more = c.in_ok-write_next.ensures.counted in
    record {
      so_far = (pieces ++ next.0 ∷ [], next.1, counted, one_more c.args.form c.args.choice.now c.loop-number.number pieces next.0 (g.K.Sink.written c.args.sink.now) before after true is kept.so_far.3 next.2);
      place = omega (arith, moves, place);
      same = c.in_ok-write_next.ensures.same ∙ kept.same;
      counted = omega (arith, faults, more);
    }

pub returns-clause-whole : goal.returns-clause-whole
returns-clause-whole g c =
    let kept = c.loop-number.invariant in
    let pieces = kept.so_far.0 in
    let bytes = c.args.opening.now.ahead.disk.bytes in
    let before = g.K.Sink.written c.loop-number.sink in
    let after = g.K.Sink.written c.write_next.new.sink in
    let next = subst (λ (b : Bool). GoesOn c.args.form c.args.choice.now c.loop-number.number pieces c.write_next.new.opening before after (Ok b)) c.if-branch.false (c.in_ok-write_next.ensures.next pieces kept.so_far.1) in
    let old = begins pieces c.loop-number.opening bytes (ap Some kept.same) kept.so_far.1 in
    whole_ends c.args.form c.args.choice.now c.loop-number.number pieces c.write_next.new.opening bytes (g.K.Sink.written c.args.sink.now) before after
    (ap Some (c.in_ok-write_next.ensures.same ∙ kept.same)) (subst (λ (f : Format). BeginsWith f pieces bytes) (sym c.in_ok-write_next.ensures.format) old) kept.so_far.2 kept.so_far.3 next

pub returns-in_err-write_next-clause-stopped : goal.returns-in_err-write_next-clause-stopped
returns-in_err-write_next-clause-stopped g c =
    let same : c.from_residual.result ≡ Err c.in_err-write_next.field-0.0 = search rules in
    let kept = c.loop-number.invariant in
    let pieces = kept.so_far.0 in
    let bytes = c.args.opening.now.ahead.disk.bytes in
    let before = g.K.Sink.written c.loop-number.sink in
    let after = g.K.Sink.written c.write_next.new.sink in
    let old = begins pieces c.loop-number.opening bytes (ap Some kept.same) kept.so_far.1 in
    rw same (stopped_ends c.args.form c.args.choice.now c.loop-number.number pieces c.write_next.new.opening bytes (g.K.Sink.written c.args.sink.now) before after
    (ap Some (c.write_next.ensures.same ∙ kept.same)) (subst (λ (f : Format). BeginsWith f pieces bytes) (sym c.write_next.ensures.format) old) kept.so_far.2 kept.so_far.3
    c.in_err-write_next.field-0.0 (c.in_err-write_next.ensures.next pieces kept.so_far.1))

pub returns-in_err-write_next-clause-input : goal.returns-in_err-write_next-clause-input
returns-in_err-write_next-clause-input g c =
    let same : c.from_residual.result ≡ Err c.in_err-write_next.field-0.0 = search rules in
    let kept = c.loop-number.invariant in
    rw same (stops_no_input c.in_err-write_next.field-0.0 c.args.form c.args.choice.now c.loop-number.number kept.so_far.0 c.write_next.new.opening
    (g.K.Sink.written c.loop-number.sink) (g.K.Sink.written c.write_next.new.sink) (c.in_err-write_next.ensures.next kept.so_far.0 kept.so_far.1))

pub returns-in_err-write_next-clause-output_cause : goal.returns-in_err-write_next-clause-output_cause
returns-in_err-write_next-clause-output_cause g c =
    let same : c.from_residual.result ≡ Err c.in_err-write_next.field-0.0 = search rules in
    rw same (λ e. rose_earlier (g.K.Sink.faults c.args.sink.now) (g.K.Sink.faults c.loop-number.sink) (g.K.Sink.faults c.write_next.new.sink) c.loop-number.invariant.counted (c.in_err-write_next.ensures.output_cause e))
