use Rattle.std.proofs.Common.{arith, sym}
use Rattle.records.proofs.CurveLemmas.{point_more, point_missing, points_read}
use Rattle.records.proofs.parsing.points_of.Goals as goal

pub returns-in_err-point : goal.returns-in_err-point
returns-in_err-point c =
    rw c.from_residual.ensures
    (point_missing c.args.count c.loop.counter c.args.bytes.now c.loop.rest.now c.loop.points.items (omega arith) (sym c.in_err-point.ensures) c.loop.invariant.1)

pub loop-preserved : goal.loop-preserved
loop-preserved c = (
  omega (arith, c.push.ensures.len, c.loop.invariant.0),
  rw c.push.ensures.items
      (point_more c.args.count c.loop.counter c.args.bytes.now c.loop.rest.now c.in_ok-point.behind.now c.loop.points.items c.in_ok-point.point (omega arith) (sym c.in_ok-point.ensures) c.loop.invariant.1),
)

pub returns : goal.returns
returns c =
    points_read c.args.count c.loop.counter c.args.bytes.now c.loop.rest.now c.loop.points.items (omega arith) c.loop.invariant.1
