-- The requests of the chunks that were passed are written.
use Rattle.std.proofs.Common.{◌≡◌}
use Rattle.logger_files.specs.Requests.{requests_upto}
use Rattle.logger_files.proofs.requests.write_requests.Given as goal

abbrev pub invariant-loop-place : goal.invariant-loop-place
invariant-loop-place l = l.out ≡ requests_upto l.by l.site l.readings l.place
