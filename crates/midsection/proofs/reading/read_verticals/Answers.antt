-- A turn reads one record.
use Rattle.std.proofs.Common.{◌≡◌, ◌∙◌, Ok, Err, List, ap, sym, refl, inl, inr, arith}
use Rattle.std.proofs.lemmas.Result.{err_from_is_err_and}
use Rattle.csv.specs.Records.{fields_of}
use Rattle.midsection.specs.Reading.{records_of}
use Rattle.midsection.proofs.StepLemmas.{counts_on, ended_empty, ended_whole, err_then, ok_then, stands_ended, stands_first, stands_more, stands_refused}
use Rattle.midsection.proofs.reading.read_verticals.Goals as goal

pub loop-row-init : goal.loop-row-init
loop-row-init c =
    let fresh = c.reader.ensures in
    let start = c.into_iter-row-iterator.ensures.into_iter_gives ∙ refl in
    let rdr = c.into_byte_records-row-items.ensures.rdr in
    rw (start, rdr, c.new-read.ensures.count, c.new-read.ensures.kept) (
      c.into_byte_records-row-items.ensures.left,
      stands_first c.args.text.now c.reader.result c.new-read.result.before fresh (omega arith),
    )

pub add-requires : goal.add-requires
add-requires c =
    let inv = c.loop-row.invariant in
    let step = rw (c.in-Some.is, c.in_ok-row.was) at ((c.next.ensures.steps inv.0 inv.1.plain).0 inv.1.ready) in
    counts_on (records_of c.args.text.now) c.loop-row.row-iterator.rdr c.next.new.self.rdr c.loop-row.read.count c.loop-row.read.before c.loop-row.read.kept.items
    (fields_of c.in_ok-row.field-0) inv.1 step.0

pub loop-row-preserved : goal.loop-row-preserved
loop-row-preserved c =
    let inv = c.loop-row.invariant in
    let step = rw (c.in-Some.is, c.in_ok-row.was) at ((c.next.ensures.steps inv.0 inv.1.plain).0 inv.1.ready) in
    rw c.add-in-loop-row.ensures.count (
      step.2,
      stands_more (records_of c.args.text.now) c.loop-row.row-iterator.rdr c.next.new.self.rdr c.loop-row.read.count c.loop-row.read.before c.loop-row.read.kept.items
          (fields_of c.in_ok-row.field-0) inv.1 step.0 tt c.add-in-loop-row.new.self.before c.add-in-loop-row.new.self.kept.items
          (step.0.3 ∙ inv.1.plain) (inl step.1) step.0.2 c.in_ok-add.ensures.names c.in_ok-add.ensures.vertical,
    )

pub returns-in_err-add-clause-err : goal.returns-in_err-add-clause-err
returns-in_err-add-clause-err c =
    let inv = c.loop-row.invariant in
    let step = rw (c.in-Some.is, c.in_ok-row.was) at ((c.next.ensures.steps inv.0 inv.1.plain).0 inv.1.ready) in
    let told = err_from_is_err_and c.from_residual-in_err-add.result c.from_residual-in_err-add.ensures.1 in
    rw (told.1, told.2) (stands_refused (records_of c.args.text.now) c.loop-row.row-iterator.rdr c.next.new.self.rdr c.loop-row.read.count c.loop-row.read.before c.loop-row.read.kept.items
    (fields_of c.in_ok-row.field-0) inv.1 step.0 c.in_err-add.field-0.0 c.add-in-loop-row.new.self.before c.add-in-loop-row.new.self.kept.items
    c.in_err-add.ensures.names c.in_err-add.ensures.vertical)

pub returns-clause-ok : goal.returns-clause-ok
returns-clause-ok c =
    let all = records_of c.args.text.now in
    let inv = c.loop-row.invariant in
    let step = rw c.in-None.is at ((c.next.ensures.steps inv.0 inv.1.plain).0 inv.1.ready) in
    let ended = stands_ended all c.loop-row.row-iterator.rdr c.next.new.self.rdr c.loop-row.read.count c.loop-row.read.before c.loop-row.read.kept.items inv.1 step in
    ok_then c.finish.result _ _ c.finish.ensures.ok
    (λ x p. ended_whole all c.loop-row.read.count c.loop-row.read.before c.loop-row.read.kept.items ended p.0 ∙ ap (λ l. Ok l) (sym p.1))

pub returns-clause-err : goal.returns-clause-err
returns-clause-err c =
    let all = records_of c.args.text.now in
    let inv = c.loop-row.invariant in
    let step = rw c.in-None.is at ((c.next.ensures.steps inv.0 inv.1.plain).0 inv.1.ready) in
    let ended = stands_ended all c.loop-row.row-iterator.rdr c.next.new.self.rdr c.loop-row.read.count c.loop-row.read.before c.loop-row.read.kept.items inv.1 step in
    err_then c.finish.result _ _ c.finish.ensures.err
    (λ f p. inr (ended_empty all c.loop-row.read.count c.loop-row.read.before c.loop-row.read.kept.items ended p.0 ∙ ap (λ x. Err x) (sym p.1)))
