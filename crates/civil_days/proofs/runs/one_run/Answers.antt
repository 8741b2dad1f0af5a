use Rattle.std.proofs.Common.{refl, FitsSigned, w32}
use Rattle.std.proofs.lemmas.Int.{to_z-of_z}
use Rattle.civil_days.proofs.RunLemmas.{one_run}
use Rattle.civil_days.proofs.runs.one_run.Goals as goal

pub returns : goal.returns
returns c =
    let fits : FitsSigned w32 c.args.offset = c.ranges.offset in
    rw (c.in_ok-push.ensures.items, c.new-runs.ensures.items, to_z-of_z w32 c.args.offset fits)
    (one_run c.args.offset _ refl refl c.requires.0 c.requires.1)
