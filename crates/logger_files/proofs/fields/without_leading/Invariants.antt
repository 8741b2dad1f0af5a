-- What is left has the same text behind its spaces, and gets shorter.
use Rattle.std.proofs.Common.{◌≡◌, length}
use Rattle.rating_tables.specs.Rdb.{skip_spaces}
use Rattle.logger_files.proofs.fields.without_leading.Given as goal

abbrev pub invariant-loop-rest : goal.invariant-loop-rest
invariant-loop-rest l = skip_spaces l.rest ≡ skip_spaces l.text

abbrev pub decreases-loop-rest : goal.decreases-loop-rest
decreases-loop-rest l = length l.rest
