-- The pairs are those of the stages of a day.
use Rattle.std.proofs.Common.{refl, ap, sym, ◌∙◌, subst}
use Rattle.std.specs.Prelude.{All, sum_by}
use Rattle.unit_discharge.specs.Unit.{most_corrected}
use Rattle.daily_values.specs.DayValue.{Point, neighbours, stage_point, pair_seconds, twice_areas}
use Rattle.daily_values.specs.Figures.{IsValueWithin}
use Rattle.daily_values.proofs.SumLemmas.{made-rise, made-room, pairs-keep, pairs-made, sum-is}
use Rattle.daily_values.proofs.from_scratch.sum_stages.Goals as goal

pub add_areas-requires-clause-rising : goal.add_areas-requires-clause-rising
add_areas-requires-clause-rising c =
    made-rise stage_point (λ u. refl) c.args.parts.now c.requires _
    (pairs-made stage_point c.args.parts.now _ _ _ _ c.deref.ensures.value c.in_ok-points.ensures.points c.deref-2.ensures.value c.in_ok-pairs.ensures)

pub add_areas-requires-clause-room : goal.add_areas-requires-clause-room
add_areas-requires-clause-room c =
    made-room stage_point (λ u. refl) c.args.parts.now c.requires _
    (pairs-made stage_point c.args.parts.now _ _ _ _ c.deref.ensures.value c.in_ok-points.ensures.points c.deref-2.ensures.value c.in_ok-pairs.ensures)

pub returns-clause-sum : goal.returns-clause-sum
returns-clause-sum c =
    let day = c.args.parts.now in
    let pairs = pairs-made stage_point c.args.parts.now _ _ _ _ c.deref.ensures.value c.in_ok-points.ensures.points c.deref-2.ensures.value c.in_ok-pairs.ensures in
    sum-is stage_point day c.add_areas.result
    (c.add_areas.ensures.twice ∙ ap (twice_areas day) pairs) (c.add_areas.ensures.covered ∙ ap (sum_by (pair_seconds day)) pairs)

pub returns-clause-within : goal.returns-clause-within
returns-clause-within c =
    let P = λ (p : Point). IsValueWithin most_corrected most_corrected p.1 in
    let pairs = c.deref-2.ensures.value ∙ c.in_ok-pairs.ensures ∙ ap neighbours c.deref.ensures.value in
    let kept = pairs-keep P c.in_ok-points.points.items c.in_ok-points.ensures.within in
    c.add_areas.ensures.within most_corrected most_corrected (subst (All (λ (p : Point × Point). P p.0 × P p.1)) (sym pairs) kept)
