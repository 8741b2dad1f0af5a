use Rattle.std.specs.Prelude.{length}
use Rattle.std.proofs.Common.{ap, sym, ◌∙◌}
use Rattle.std.proofs.lemmas.List.Sums.{fold_more}
use Rattle.day_cells.specs.Spans.{with_day}
use Rattle.day_cells.specs.KeptDays.{waiting_of}
use Rattle.day_cells.proofs.MarkLemmas.{marks_more, count_more}
use Rattle.day_cells.proofs.kept_days.DayCells.mark.Goals as goal

pub loop-day-preserved : goal.loop-day-preserved
loop-day-preserved c =
    let h = c.loop-day.invariant in
    let i = c.loop-day.day-index in
    let old = c.args.self.now in
    let mid = c.loop-day.self in
    let new = c.mark_day.new.self in
    let changed = c.args.changed.now in
    let day = c.day-item.result in
    let l = c.loop-day-test.true in
    record {
      marks = marks_more old mid new changed i c.args.edit day l c.day-item.is h.marks c.mark_day.ensures.marks;
      span = c.mark_day.ensures.span ∙ ap (λ s. with_day s day) h.span ∙ ap (with_day _) c.day-item.is ∙ sym (fold_more with_day old.span changed i day l);
      start = c.mark_day.ensures.start ∙ h.start;
      cells = c.mark_day.ensures.room ∙ h.cells;
      count = count_more old mid new changed i c.args.edit day (length (waiting_of old)) l c.day-item.is c.requires.rising h.marks h.count c.mark_day.ensures.count;
    }
