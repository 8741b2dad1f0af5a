-- The first of the span stands no later than the first behind it.
use Rattle.approval.specs.Kept.{day_place}
use Rattle.approval.proofs.DayLemmas.{in_order}
use Rattle.approval.proofs.spans.take_span.Goals as goal

pub drain-requires-clause-start_le_end : goal.drain-requires-clause-start_le_end
drain-requires-clause-start_le_end c =
    let items = c.args.list.now.items in
    let a = c.deref.ensures.value in
    let b = c.deref-2.ensures.value in
    in_order day_place c.args.from c.args.to items c.count_before-first.result c.count_to-end.result c.requires.order (rw a at c.count_before-first.ensures.within)
    (rw b at c.count_to-end.ensures.within) (rw a at c.count_before-first.ensures.front) (rw b at c.count_to-end.ensures.front)
