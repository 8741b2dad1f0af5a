use Rattle.std.proofs.Common.{codes, refl, ◌∙◌}
use Rattle.command_words.specs.Reading.{given_in}
use Rattle.command_words.proofs.WordLemmas.{init_lacks, init_not_so_many}
use Rattle.command_words.proofs.reading.init.Goals as goal

pub returns-in_err-journal : goal.returns-in_err-journal
returns-in_err-journal c =
    rw c.from_residual.ensures (init_lacks (given_in c.args.options.now) (codes "--journal") c.in_err-journal.ensures (λ name. (refl, refl)))

pub returns-then-count-ne1 : goal.returns-then-count-ne1
returns-then-count-ne1 c = init_not_so_many (given_in c.args.options.now) (λ many. c.if-count-ne1.true (c.count.ensures ∙ many))
