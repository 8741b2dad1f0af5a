use Rattle.std.proofs.Common.{codes, refl, ◌∙◌}
use Rattle.command_words.specs.Reading.{given_in}
use Rattle.command_words.proofs.WordLemmas.{trial_lacks, trial_not_so_many}
use Rattle.command_words.proofs.reading.trial.Goals as goal

pub returns-in_err-number : goal.returns-in_err-number
returns-in_err-number c =
    rw c.from_residual.ensures (trial_lacks (given_in c.args.options.now) (codes "--number") c.in_err-number.ensures (λ number. (refl, refl)))

pub returns-then-count-ne1 : goal.returns-then-count-ne1
returns-then-count-ne1 c = trial_not_so_many (given_in c.args.options.now) (λ many. c.if-count-ne1.true (c.count.ensures ∙ many))
