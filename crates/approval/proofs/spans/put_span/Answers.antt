-- There is room for the span, since none more stand than before.
use Rattle.std.proofs.Common.{arith, ap, length}
use Rattle.approval.specs.Kept.{day_place}
use Rattle.approval.proofs.SpanLemmas.{no_more}
use Rattle.approval.proofs.spans.put_span.Goals as goal

pub push_span-requires-clause-room : goal.push_span-requires-clause-room
push_span-requires-clause-room c =
    let fewer = no_more day_place c.args.from c.args.to c.args.list.now.items c.requires.order in
    let same = ap length c.take_span.ensures.items in
    omega (arith, fewer, same, c.args.list.now.ok.0, c.take_span.new.list.ok.0, c.take_span.ensures.capacity, c.requires.room)
