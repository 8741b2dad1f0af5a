-- The instant is the local time less what the clock is ahead.
use Rattle.std.proofs.Common.{◌≡◌, ◌∙◌, ap, ◌-ℤ◌, to_z, of_z, w64, w32, arith}
use Rattle.std.proofs.lemmas.Int.{ints}
use Rattle.logger_files.specs.Times.{stamp_by}
use Rattle.logger_files.proofs.times.read_stamp.Goals as goal

pub returns : goal.returns
returns c =
    let bound = c.in_ok-local.ensures.bound in
    let local : to_z w64 (of_z w64 c.in_ok-local.local) ≡ c.in_ok-local.local = omega (arith, ints, bound.low, bound.high) in
    let clock : to_z w32 (of_z w32 c.args.clock) ≡ c.args.clock = omega (arith, ints) in
    let moved : c.moved_by.result ≡ c.in_ok-local.local -ℤ c.args.clock = rw (local, clock) at c.moved_by.ensures in
    let same : to_z w64 (of_z w64 c.moved_by.result) ≡ c.moved_by.result = omega (arith, ints) in
    rw (same, moved) at c.stamp_at.ensures ∙ ap (stamp_by c.args.clock) c.in_ok-local.ensures.value
