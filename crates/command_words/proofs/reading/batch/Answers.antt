use Rattle.std.proofs.Common.{codes, Contains, refl, sym, ◌∙◌}
use Rattle.std.proofs.lemmas.List.Elements.{All-from_recursion}
use Rattle.command_words.specs.Words.{Asked, Batch, options_of}
use Rattle.command_words.specs.Reading.{given_in}
use Rattle.command_words.proofs.WordLemmas.{all_its, apart, batch_lacks, journal_alone, with_workers, without_workers}
use Rattle.command_words.proofs.reading.batch.Goals as goal

pub returns-in_err-journal : goal.returns-in_err-journal
returns-in_err-journal c =
    rw c.from_residual.ensures (batch_lacks (given_in c.args.options.now) (codes "--journal") c.in_err-journal.ensures (λ name workers. (refl, refl)))

pub returns-then-count-ne1 : goal.returns-then-count-ne1
returns-then-count-ne1 c =
    without_workers (given_in c.args.options.now) c.in_default.ensures (λ many. c.if-count-ne1.true (c.count.ensures ∙ many))

pub returns-then-count-ne2 : goal.returns-then-count-ne2
returns-then-count-ne2 c =
    with_workers (given_in c.args.options.now) c.in-Some.workers c.in-Some.ensures (λ many. c.if-count-ne2.true (c.count-2.ensures ∙ many))

pub returns-in_default : goal.returns-in_default
returns-in_default c =
    (refl, tt, journal_alone (given_in c.args.options.now) c.in_ok-journal.journal.now c.in_ok-journal.ensures (sym c.count.ensures ∙ c.if-count-ne1.false))

pub returns : goal.returns
returns c =
    let asked : Asked = Batch c.in_ok-journal.journal.now c.in-Some.workers in (
      refl,
      tt,
      all_its asked (given_in c.args.options.now) (apart asked)
          (All-from_recursion (Contains (given_in c.args.options.now)) (options_of asked) (c.in_ok-journal.ensures, (c.in-Some.ensures, tt)))
          (sym c.count-2.ensures ∙ c.if-count-ne2.false),
    )
