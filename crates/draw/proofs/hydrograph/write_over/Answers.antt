-- The parts stand one behind another.
use Rattle.std.proofs.Common.{◌≡◌, ◌∙◌, ap, List, ◌++◌, codes}
use Rattle.std.proofs.lemmas.Result.{on_ok_weaker}
use Rattle.drawings.specs.declared.curves.Sample.{Sample}
use Rattle.draw.specs.Curves.{curve_text, samples_of}
use Rattle.draw.specs.Frames.{frame_text}
use Rattle.draw.specs.Hydrographs.{flows_text, over_text, stages_text}
use Rattle.draw.specs.declared.style.TheConstants.{TAIL}
use Rattle.draw.proofs.JoinLemmas.{five_joined}
use Rattle.draw.proofs.hydrograph.write_over.Goals as goal

pub returns : goal.returns
unfolding over_text
returns c =
    let table = c.args.table.now in
    let times = c.args.times.now in
    let stages = c.args.stages.now in
    let curve : c.write_stages.new.out ≡ c.write_frame.new.out ++ curve_text times stages table.station.gap (samples_of table.rows.items) =
    c.in_ok-write_stages.ensures
    ∙ ap (λ (samples : List Sample). c.write_frame.new.out ++ curve_text times stages table.station.gap samples) c.requires in
    on_ok_weaker c.push_slice.result
    (five_joined c.args.out.now (flows_text table times c.args.flows.now) (frame_text stages (codes "Stage, feet"))
    (curve_text times stages table.station.gap (samples_of table.rows.items)) (stages_text table times stages) TAIL.now
    c.write_flows.new.out c.write_frame.new.out c.write_stages.new.out c.write_stage_marks.new.out c.push_slice.new.self
    c.in_ok-write_flows.ensures c.in_ok-write_frame.ensures curve c.in_ok-write_stage_marks.ensures)
    c.push_slice.ensures.ok
