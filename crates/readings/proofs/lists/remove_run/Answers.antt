-- The readings that are left stand on both sides of those taken out so far.
use Rattle.std.specs.Prelude.{◌≡◌, ◌+◌, ◌-◌, ◌++◌, take, drop, length}
use Rattle.std.proofs.Common.{arith, ap, ◌∙◌, length-append, length-drop}
use Rattle.std.proofs.lemmas.List.{length-take-le}
use Rattle.gapcol.specs.Lists.{Roomy, with_spare}
use Rattle.fixed_units.specs.declared.readings.Reading.{Reading}
use Rattle.readings.proofs.RunLemmas.{removed}
use Rattle.readings.proofs.lists.remove_run.Goals as goal

pub remove-requires : goal.remove-requires
remove-requires c =
    let rs = c.args.kept.now.list in
    let front = take c.args.first rs in
    let back = drop c.loop.counter rs in
    omega (arith, ap (λ (k : Roomy Reading). length k.list) c.loop.invariant, length-append front back, length-take-le c.args.first rs (omega arith), length-drop c.loop.counter rs)

pub loop-preserved : goal.loop-preserved
loop-preserved c =
    let rs = c.args.kept.now.list in
    let list : take c.args.first c.loop.kept.list ++ drop (c.args.first + 1) c.loop.kept.list ≡ take c.args.first rs ++ drop (c.loop.counter + 1) rs =
    removed rs c.loop.kept.list c.args.first c.loop.counter c.loop.auto.counter (omega arith) (ap (λ (k : Roomy Reading). k.list) c.loop.invariant) in
    let spare : c.loop.kept.spare + 1 ≡ c.args.kept.now.spare + (c.loop.counter + 1 - c.args.first) =
    omega (arith, ap (λ (k : Roomy Reading). k.spare) c.loop.invariant, c.loop.auto.counter) in
    c.remove.ensures.rest ∙ (λ i. with_spare (list i) (spare i))
