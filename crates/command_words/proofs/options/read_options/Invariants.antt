use Rattle.std.proofs.Common.{length, map, string_bytes}
use Rattle.command_words.specs.Reading.{given_by}
use Rattle.command_words.proofs.ReadLemmas.{IsReadTo}
use Rattle.command_words.proofs.options.read_options.Given as goal

abbrev pub invariant-loop-rest : goal.invariant-loop-rest
invariant-loop-rest l = IsReadTo (map string_bytes l.words) (map given_by l.given.items) (map string_bytes l.rest)

abbrev pub decreases-loop-rest : goal.decreases-loop-rest
decreases-loop-rest l = length l.rest
