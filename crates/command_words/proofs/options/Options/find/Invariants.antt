use Rattle.std.proofs.Common.{◌≡◌, length, take}
use Rattle.std.specs.List.{sum_by}
use Rattle.command_words.specs.Reading.{is_worded}
use Rattle.command_words.proofs.FindLemmas.{read_passing}
use Rattle.command_words.proofs.options.Options.find.Given as goal

abbrev pub invariant-loop-option : goal.invariant-loop-option
invariant-loop-option l =
    (l.option-index-end ≡ length l.fn.self.given.items)
    × (sum_by (read_passing (is_worded l.word)) (take l.option-index l.fn.self.given.items) ≡ 0)
