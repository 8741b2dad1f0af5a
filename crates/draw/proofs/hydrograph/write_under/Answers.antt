-- The parts stand one behind another.
use Rattle.std.proofs.Common.{◌≡◌, ◌∙◌, ap, List, ◌++◌}
use Rattle.std.proofs.lemmas.Result.{on_ok_weaker}
use Rattle.drawings.specs.declared.curves.Sample.{Sample}
use Rattle.draw.specs.Curves.{gaps_text, samples_of}
use Rattle.draw.specs.Dates.{dates_text}
use Rattle.draw.specs.Hydrographs.{areas_text, title_text, under_text, zone_text}
use Rattle.draw.specs.declared.style.TheConstants.{HEAD}
use Rattle.draw.proofs.JoinLemmas.{five_joined}
use Rattle.draw.proofs.hydrograph.write_under.Goals as goal

pub returns : goal.returns
unfolding under_text
returns c =
    let table = c.args.table.now in
    let times = c.args.times.now in
    let stages = c.args.stages.now in
    let gaps : c.write_gaps.new.out ≡ c.write_areas.new.out ++ gaps_text table.station.gap times stages (samples_of table.rows.items) =
    c.in_ok-write_gaps.ensures
    ∙ ap (λ (samples : List Sample). c.write_areas.new.out ++ gaps_text table.station.gap times stages samples) c.requires in
    on_ok_weaker c.write_dates.result
    (five_joined c.args.out.now HEAD.now (title_text table.station ++ zone_text table.station) (areas_text table times)
    (gaps_text table.station.gap times stages (samples_of table.rows.items)) (dates_text table.station.zone times)
    c.push_slice.new.self c.write_title.new.out c.write_areas.new.out c.write_gaps.new.out c.write_dates.new.out
    c.in_ok-push_slice.ensures.ok c.in_ok-write_title.ensures c.in_ok-write_areas.ensures gaps)
    c.write_dates.ensures
