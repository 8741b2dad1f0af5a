use Rattle.std.proofs.Common.{codes, Contains, refl, sym, ◌∙◌, arith}
use Rattle.std.proofs.lemmas.List.Elements.{All-from_recursion}
use Rattle.command_words.specs.Words.{Asked, Notes, options_of}
use Rattle.command_words.specs.Reading.{given_in}
use Rattle.command_words.proofs.WordLemmas.{all_its, apart, notes_lacks, notes_not_so_many, number_of_none}
use Rattle.command_words.proofs.reading.notes.Goals as goal

pub returns-in_err-journal : goal.returns-in_err-journal
returns-in_err-journal c =
    rw c.from_residual.ensures (notes_lacks (given_in c.args.options.now) (codes "--journal") c.in_err-journal.ensures (λ order. (refl, refl)))

pub returns-in_err-site : goal.returns-in_err-site
returns-in_err-site c =
    rw c.from_residual-in_err-site.ensures (notes_lacks (given_in c.args.options.now) (codes "--site") c.in_err-site.ensures (λ order. (refl, refl)))

pub returns-in_err-number : goal.returns-in_err-number
returns-in_err-number c =
    rw c.from_residual-in_err-number.ensures (notes_lacks (given_in c.args.options.now) (codes "--number") c.in_err-number.ensures (λ order. (refl, refl)))

pub returns-in_err-at : goal.returns-in_err-at
returns-in_err-at c =
    rw c.from_residual-in_err-at.ensures (notes_lacks (given_in c.args.options.now) (codes "--at") c.in_err-at.ensures (λ order. (refl, refl)))

pub returns-in_err-gage : goal.returns-in_err-gage
returns-in_err-gage c =
    rw c.from_residual-in_err-gage.ensures (notes_lacks (given_in c.args.options.now) (codes "--gage") c.in_err-gage.ensures (λ order. (refl, refl)))

pub returns-in_err-grade : goal.returns-in_err-grade
returns-in_err-grade c =
    rw c.from_residual-in_err-grade.ensures (notes_lacks (given_in c.args.options.now) (codes "--grade") c.in_err-grade.ensures (λ order. (refl, refl)))

pub returns-in_err-by : goal.returns-in_err-by
returns-in_err-by c =
    rw c.from_residual-in_err-by.ensures (notes_lacks (given_in c.args.options.now) (codes "--by") c.in_err-by.ensures (λ order. (refl, refl)))

pub returns-in_err-reference : goal.returns-in_err-reference
returns-in_err-reference c =
    rw c.from_residual-in_err-reference.ensures (notes_lacks (given_in c.args.options.now) (codes "--ref") c.in_err-reference.ensures (λ order. (refl, refl)))

pub returns-then-count-ne8 : goal.returns-then-count-ne8
returns-then-count-ne8 c = notes_not_so_many (given_in c.args.options.now) (λ many. c.if-count-ne8.true (c.count.ensures ∙ many))

pub returns-then-number-eq0 : goal.returns-then-number-eq0
returns-then-number-eq0 c =
    number_of_none (given_in c.args.options.now) c.in_ok-number.number c.in_ok-number.ensures c.if-number-eq0.true

pub returns : goal.returns
returns c =
    let asked : Asked = Notes (record { journal = c.in_ok-journal.journal.now; site = c.in_ok-site.site; number = c.in_ok-number.number; at = c.in_ok-at.at; gage = c.in_ok-gage.gage; grade = c.in_ok-grade.grade; by = c.in_ok-by.by.now; reference = c.in_ok-reference.reference.now }) in (
      refl,
      omega (arith, c.if-number-eq0.false),
      all_its asked (given_in c.args.options.now) (apart asked)
          (All-from_recursion (Contains (given_in c.args.options.now)) (options_of asked)
          (c.in_ok-journal.ensures, (c.in_ok-site.ensures, (c.in_ok-number.ensures, (c.in_ok-at.ensures, (c.in_ok-gage.ensures, (c.in_ok-grade.ensures, (c.in_ok-by.ensures, (c.in_ok-reference.ensures, tt)))))))))
          (sym c.count.ensures ∙ c.if-count-ne8.false),
    )
