use Rattle.std.proofs.Common.{codes, Contains, refl, sym, ◌∙◌}
use Rattle.std.proofs.lemmas.List.Elements.{All-from_recursion}
use Rattle.command_words.specs.Words.{Asked, Import, options_of}
use Rattle.command_words.specs.Reading.{given_in}
use Rattle.command_words.proofs.WordLemmas.{all_its, apart, import_lacks, import_not_so_many, reference_too_long}
use Rattle.command_words.proofs.reading.import.Goals as goal

pub returns-in_err-journal : goal.returns-in_err-journal
returns-in_err-journal c =
    rw c.from_residual.ensures (import_lacks (given_in c.args.options.now) (codes "--journal") c.in_err-journal.ensures (λ order. (refl, refl)))

pub returns-in_err-site : goal.returns-in_err-site
returns-in_err-site c =
    rw c.from_residual-in_err-site.ensures (import_lacks (given_in c.args.options.now) (codes "--site") c.in_err-site.ensures (λ order. (refl, refl)))

pub returns-in_err-column : goal.returns-in_err-column
returns-in_err-column c =
    rw c.from_residual-in_err-column.ensures (import_lacks (given_in c.args.options.now) (codes "--column") c.in_err-column.ensures (λ order. (refl, refl)))

pub returns-in_err-by : goal.returns-in_err-by
returns-in_err-by c =
    rw c.from_residual-in_err-by.ensures (import_lacks (given_in c.args.options.now) (codes "--by") c.in_err-by.ensures (λ order. (refl, refl)))

pub returns-in_err-reference : goal.returns-in_err-reference
returns-in_err-reference c =
    rw c.from_residual-in_err-reference.ensures (import_lacks (given_in c.args.options.now) (codes "--ref") c.in_err-reference.ensures (λ order. (refl, refl)))

pub returns-then-count-ne5 : goal.returns-then-count-ne5
returns-then-count-ne5 c = import_not_so_many (given_in c.args.options.now) (λ many. c.if-count-ne5.true (c.count.ensures ∙ many))

pub returns-then-reference-gt30 : goal.returns-then-reference-gt30
returns-then-reference-gt30 c =
    reference_too_long (given_in c.args.options.now) c.in_ok-reference.reference.now c.in_ok-reference.ensures c.if-reference-gt30.true

pub returns : goal.returns
returns c =
    let asked : Asked = Import (record { journal = c.in_ok-journal.journal.now; site = c.in_ok-site.site; column = c.in_ok-column.column.now; by = c.in_ok-by.by.now; reference = c.in_ok-reference.reference.now }) in (
      refl,
      c.if-reference-gt30.false,
      all_its asked (given_in c.args.options.now) (apart asked)
          (All-from_recursion (Contains (given_in c.args.options.now)) (options_of asked)
          (c.in_ok-journal.ensures, (c.in_ok-site.ensures, (c.in_ok-column.ensures, (c.in_ok-by.ensures, (c.in_ok-reference.ensures, tt))))))
          (sym c.count.ensures ∙ c.if-count-ne5.false),
    )
