-- The number of the whole is that of what is left behind the number so far.
use Rattle.std.proofs.Common.{◌≡◌, ◌<◌, length}
use Rattle.logger_files.specs.Digests.{digest_from, modulus}
use Rattle.logger_files.proofs.digests.digest_from.Given as goal

abbrev pub invariant-loop-rest : goal.invariant-loop-rest
invariant-loop-rest l = record { value : digest_from l.before l.text ≡ digest_from l.digest l.rest; below : l.digest < modulus }

abbrev pub decreases-loop-rest : goal.decreases-loop-rest
decreases-loop-rest l = length l.rest
