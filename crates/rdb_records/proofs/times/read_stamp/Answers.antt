-- The instant is the local time less the hours.
use Rattle.std.proofs.Common.{◌∙◌, ap}
use Rattle.rdb_records.specs.Times.{stamp_by}
use Rattle.rdb_records.proofs.TimeLemmas.{moved_is}
use Rattle.rdb_records.proofs.times.read_stamp.Goals as goal

pub returns : goal.returns
returns c =
    let bound = c.in_ok-local.ensures.bound in
    let moved = moved_is c.in_ok-local.local c.args.hours bound.low bound.high c.requires.low c.requires.high in
    rw moved at c.stamp_at.ensures ∙ ap (stamp_by c.args.hours) c.in_ok-local.ensures.value
