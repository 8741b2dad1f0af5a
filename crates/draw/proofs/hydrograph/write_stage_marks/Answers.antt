-- The parts stand one behind another.
use Rattle.std.proofs.lemmas.Result.{on_ok_weaker}
use Rattle.draw.specs.Hydrographs.{marks_of, stages_text}
use Rattle.draw.specs.declared.marks.Mark.TheVariants as mark
use Rattle.draw.proofs.JoinLemmas.{four_joined}
use Rattle.draw.proofs.hydrograph.write_stage_marks.Goals as goal

pub returns : goal.returns
unfolding stages_text
returns c =
    let table = c.args.table.now in
    let times = c.args.times.now in
    let stages = c.args.stages.now in
    on_ok_weaker c.write_marks-4.result
    (four_joined c.args.out.now (marks_of mark.Affected table times stages) (marks_of mark.Erroneous table times stages)
    (marks_of mark.MeanStage table times stages) (marks_of mark.MeasuredStage table times stages)
    c.write_marks.new.out c.write_marks-2.new.out c.write_marks-3.new.out c.write_marks-4.new.out
    c.in_ok-write_marks.ensures c.in_ok-write_marks-2.ensures c.in_ok-write_marks-3.ensures)
    c.write_marks-4.ensures
