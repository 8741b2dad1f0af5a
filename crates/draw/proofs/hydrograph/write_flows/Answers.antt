-- The parts stand one behind another.
use Rattle.std.proofs.Common.{codes}
use Rattle.std.proofs.lemmas.Result.{on_ok_weaker}
use Rattle.draw.specs.Frames.{frame_text}
use Rattle.draw.specs.Hydrographs.{flows_text, marks_of}
use Rattle.draw.specs.declared.marks.Mark.TheVariants as mark
use Rattle.draw.proofs.JoinLemmas.{four_joined}
use Rattle.draw.proofs.hydrograph.write_flows.Goals as goal

pub returns : goal.returns
unfolding flows_text
returns c =
    let table = c.args.table.now in
    let times = c.args.times.now in
    let flows = c.args.flows.now in
    on_ok_weaker c.write_marks-3.result
    (four_joined c.args.out.now (frame_text flows (codes "Discharge, cubic feet per second")) (marks_of mark.Computed table times flows)
    (marks_of mark.Estimated table times flows) (marks_of mark.MeasuredDischarge table times flows)
    c.write_frame.new.out c.write_marks.new.out c.write_marks-2.new.out c.write_marks-3.new.out
    c.in_ok-write_frame.ensures c.in_ok-write_marks.ensures c.in_ok-write_marks-2.ensures)
    c.write_marks-3.ensures
