use Rattle.std.proofs.Common.{codes, Contains, refl, sym, ◌∙◌}
use Rattle.std.proofs.lemmas.List.Elements.{All-from_recursion}
use Rattle.command_words.specs.Words.{Asked, Daily, options_of}
use Rattle.command_words.specs.Reading.{given_in}
use Rattle.command_words.proofs.OptionLemmas.{true_is_not_false}
use Rattle.command_words.proofs.WordLemmas.{all_its, apart, daily_lacks, daily_not_so_many, no_day, no_table_span}
use Rattle.command_words.proofs.reading.daily.Goals as goal

pub returns-in_err-journal : goal.returns-in_err-journal
returns-in_err-journal c =
    rw c.from_residual.ensures (daily_lacks (given_in c.args.options.now) (codes "--journal") c.in_err-journal.ensures (λ order. (refl, refl)))

pub returns-in_err-site : goal.returns-in_err-site
returns-in_err-site c =
    rw c.from_residual-in_err-site.ensures (daily_lacks (given_in c.args.options.now) (codes "--site") c.in_err-site.ensures (λ order. (refl, refl)))

pub returns-in_err-from : goal.returns-in_err-from
returns-in_err-from c =
    rw c.from_residual-in_err-from.ensures (daily_lacks (given_in c.args.options.now) (codes "--from") c.in_err-from.ensures (λ order. (refl, refl)))

pub returns-in_err-last : goal.returns-in_err-last
returns-in_err-last c =
    rw c.from_residual-in_err-last.ensures (daily_lacks (given_in c.args.options.now) (codes "--to") c.in_err-last.ensures (λ order. (refl, refl)))

pub returns-in_err-turns : goal.returns-in_err-turns
returns-in_err-turns c =
    rw c.from_residual-in_err-turns.ensures (daily_lacks (given_in c.args.options.now) (codes "--turns") c.in_err-turns.ensures (λ order. (refl, refl)))

pub returns-then-count-ne5 : goal.returns-then-count-ne5
returns-then-count-ne5 c = daily_not_so_many (given_in c.args.options.now) (λ many. c.if-count-ne5.true (c.count.ensures ∙ many))

pub returns-in_default : goal.returns-in_default
returns-in_default c =
    no_day (given_in c.args.options.now) c.in_ok-from.from.now c.in_ok-from.ensures
    (λ day is. let none = c.in_default.ensures in let text = c.as_bytes.ensures in absurd (cc))

pub returns-then-not-is_table_span : goal.returns-then-not-is_table_span
returns-then-not-is_table_span c =
    no_table_span (given_in c.args.options.now) c.in_ok-from.from.now c.in-Some.first c.in_ok-last.last c.in_ok-from.ensures c.in_ok-last.ensures
    (let read = c.in-Some.ensures in let text = c.as_bytes.ensures in cc) (λ is. true_is_not_false (sym (c.is_table_span.ensures.1 is) ∙ c.if-not-is_table_span.true))

pub returns : goal.returns
returns c =
    let asked : Asked = Daily (record { journal = c.in_ok-journal.journal.now; site = c.in_ok-site.site; from = c.in_ok-from.from.now; first = c.in-Some.first; last = c.in_ok-last.last; turns = c.in_ok-turns.turns }) in (
      refl,
      (let read = c.in-Some.ensures in let text = c.as_bytes.ensures in cc, c.is_table_span.ensures.0 c.if-not-is_table_span.false),
      all_its asked (given_in c.args.options.now) (apart asked)
          (All-from_recursion (Contains (given_in c.args.options.now)) (options_of asked)
          (c.in_ok-journal.ensures, (c.in_ok-site.ensures, (c.in_ok-from.ensures, (c.in_ok-last.ensures, (c.in_ok-turns.ensures, tt))))))
          (sym c.count.ensures ∙ c.if-count-ne5.false),
    )
