-- The parts stand one behind another.
use Rattle.std.proofs.Common.{◌≡◌, ◌∙◌, ap, ℕ, List, ◌++◌, codes}
use Rattle.std.proofs.lemmas.Result.{on_ok_weaker}
use Rattle.drawings.specs.Escapes.{escaped}
use Rattle.draw.specs.Elements.{label_end, label_start}
use Rattle.draw.specs.Hydrographs.{zone_text}
use Rattle.draw.proofs.JoinLemmas.{both_between}
use Rattle.draw.proofs.hydrograph.write_zone.Goals as goal

pub returns : goal.returns
unfolding zone_text
returns c =
    let zone : c.write_escaped.new.out ≡ c.push_slice.new.self ++ escaped c.args.station.now.zone =
    c.in_ok-write_escaped.ensures.ok ∙ ap (λ (text : List ℕ). c.push_slice.new.self ++ escaped text) c.text.ensures in
    on_ok_weaker c.end_label.result
    (both_between c.args.out.now (label_start (codes "left") 1_140 74) (codes "days of the zone ") (escaped c.args.station.now.zone) label_end
    c.start_label.new.out c.push_slice.new.self c.write_escaped.new.out c.end_label.new.out
    c.in_ok-start_label.ensures c.in_ok-push_slice.ensures.ok zone)
    c.end_label.ensures
