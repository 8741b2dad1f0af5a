use Rattle.std.proofs.Common.{◌≡◌, refl, pos, get_or, SFits, to_z, of_z, arith, rules}
use Rattle.std.specs.Int.{w64}
use Rattle.std.proofs.lemmas.Int.{ints, to_z-of_z}
use Rattle.drawings.specs.Curves.{points_of}
use Rattle.drawings.specs.declared.curves.Sample.{Sample}
use Rattle.drawings.proofs.CurveLemmas.{places_more, points_done, points_more}
use Rattle.drawings.proofs.curves.points_of.Goals as goal

pub loop-sample-preserved : goal.loop-sample-preserved
loop-sample-preserved c =
    let times = c.args.times.now in
    let values = c.args.values.now in
    let samples = c.args.samples.now in
    let gap = to_z w64 (of_z w64 c.args.gap) in
    let i = c.loop-sample.sample-index in
    let none : Sample = record { at = pos 0; value = pos 0 } in
    let sample = get_or samples i none in
    let fits : SFits w64 sample.at = search rules in
    let instant : to_z w64 (of_z w64 sample.at) ≡ sample.at = to_z-of_z w64 sample.at fits in
    record {
      all =
          points_more times values gap c.loop-sample.before c.drawn_at-before.result samples i none sample c.loop-sample.points.items
          c.add_point.new.points.items (points_of times values gap samples) c.loop-sample-test.true refl
          (record {
            joined = c.is_joined.result;
            place = c.spot-place.result;
            joined_is = rw instant at c.is_joined.ensures;
            place_is = c.spot-place.ensures.spot;
            after_is = rw instant at c.drawn_at-before.ensures;
            more = c.in_ok-add_point.ensures;
          })
          c.loop-sample.invariant.all;
      places =
          places_more times values samples i none sample c.loop-sample.points.items c.add_point.new.points.items c.is_joined.result
          c.spot-place.result c.loop-sample-test.true refl c.spot-place.ensures.places c.in_ok-add_point.ensures c.loop-sample.invariant.places;
    }

pub returns-clause-points : goal.returns-clause-points
returns-clause-points c =
    let gap : to_z w64 (of_z w64 c.args.gap) ≡ c.args.gap = omega (arith, ints) in
    rw gap at
    (points_done c.args.times.now c.args.values.now (to_z w64 (of_z w64 c.args.gap)) c.loop-sample.before c.args.samples.now c.loop-sample.sample-index
    c.loop-sample.points.items (points_of c.args.times.now c.args.values.now (to_z w64 (of_z w64 c.args.gap)) c.args.samples.now) (omega arith)
    c.loop-sample.invariant.all)
