-- The readings flagged so far stand between those before them and those still to flag.
use Rattle.std.specs.Prelude.{◌≡◌, ◌+◌, ◌-◌, ◌++◌, true, take, drop, map, set, length}
use Rattle.std.proofs.Common.{arith, ap, ◌∙◌, length-append, length-drop}
use Rattle.std.proofs.lemmas.List.{length-take-le, length-map}
use Rattle.gapcol.specs.Lists.{Roomy, with_spare}
use Rattle.fixed_units.specs.declared.readings.Reading.{Reading}
use Rattle.readings.specs.Readings.{flagged_where}
use Rattle.readings.proofs.RunLemmas.{changed_run}
use Rattle.readings.proofs.lists.flag_run.Goals as goal

pub get-reading-requires : goal.get-reading-requires
get-reading-requires c =
    let rs = c.args.kept.now.list in
    let front = take c.args.first rs in
    let run = take (c.loop-place.place - c.args.first) (drop c.args.first rs) in
    let flagged = map (flagged_where true c.args.flag) run in
    let back = drop c.loop-place.place rs in
    omega (
      arith,
      ap (λ (k : Roomy Reading). length k.list) c.loop-place.invariant,
      length-append front (flagged ++ back),
      length-append flagged back,
      length-map run (flagged_where true c.args.flag),
      length-take-le (c.loop-place.place - c.args.first) (drop c.args.first rs) (omega (arith, length-drop c.args.first rs)),
      length-take-le c.args.first rs (omega arith),
      length-drop c.loop-place.place rs,
    )

pub loop-place-preserved : goal.loop-place-preserved
loop-place-preserved c =
    let rs = c.args.kept.now.list in
    let f = flagged_where true c.args.flag in
    let list : set c.loop-place.kept.list c.loop-place.place (f c.get-reading.result)
    ≡ take c.args.first rs ++ (map f (take (c.loop-place.place + 1 - c.args.first) (drop c.args.first rs)) ++ drop (c.loop-place.place + 1) rs) =
    changed_run f rs c.loop-place.kept.list c.args.first c.loop-place.place c.get-reading.result c.loop-place.auto.place (omega arith)
    (ap (λ (k : Roomy Reading). k.list) c.loop-place.invariant) c.get-reading.ensures in
    let spare = ap (λ (k : Roomy Reading). k.spare) c.loop-place.invariant in
    c.set.ensures ∙ (λ i. with_spare (list i) (spare i))
