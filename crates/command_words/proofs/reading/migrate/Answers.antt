use Rattle.std.proofs.Common.{◌≡◌, ℕ, List, codes, Contains, refl, sym, ◌∙◌, subst}
use Rattle.std.proofs.lemmas.Slice.Eq.{bytes_eq-Decides}
use Rattle.std.proofs.lemmas.List.Elements.{All-from_recursion}
use Rattle.command_words.specs.Words.{Asked, Journal, Migrate, options_of}
use Rattle.command_words.specs.Reading.{given_in}
use Rattle.command_words.proofs.OptionLemmas.{true_is_not_false}
use Rattle.command_words.proofs.WordLemmas.{all_its, apart, migrate_lacks, migrate_not_so_many, names_alike}
use Rattle.command_words.proofs.reading.migrate.Goals as goal

pub returns-in_err-from : goal.returns-in_err-from
returns-in_err-from c =
    rw c.from_residual.ensures (migrate_lacks (given_in c.args.options.now) (codes "--from") c.in_err-from.ensures (λ from to. (refl, refl)))

pub returns-in_err-journal : goal.returns-in_err-journal
returns-in_err-journal c =
    rw c.from_residual-in_err-journal.ensures (migrate_lacks (given_in c.args.options.now) (codes "--journal") c.in_err-journal.ensures (λ from to. (refl, refl)))

pub returns-then-count-ne2 : goal.returns-then-count-ne2
returns-then-count-ne2 c = migrate_not_so_many (given_in c.args.options.now) (λ many. c.if-count-ne2.true (c.count.ensures ∙ many))

pub returns-then-eq : goal.returns-then-eq
returns-then-eq c =
    let same : c.in_ok-from.from.now ≡ c.in_ok-journal.journal.now = (bytes_eq-Decides _ _).0 (sym c.eq.ensures ∙ c.if-eq.true) in
    names_alike (given_in c.args.options.now) c.in_ok-from.from.now c.in_ok-from.ensures
    (subst (λ (name : List ℕ). Contains (given_in c.args.options.now) (Journal name)) (sym same) c.in_ok-journal.ensures)

pub returns : goal.returns
returns c =
    let asked : Asked = Migrate c.in_ok-from.from.now c.in_ok-journal.journal.now in (
      refl,
      λ same. true_is_not_false (sym ((bytes_eq-Decides _ _).1 same) ∙ sym c.eq.ensures ∙ c.if-eq.false),
      all_its asked (given_in c.args.options.now) (apart asked)
          (All-from_recursion (Contains (given_in c.args.options.now)) (options_of asked)
          (c.in_ok-from.ensures, (c.in_ok-journal.ensures, tt)))
          (sym c.count.ensures ∙ c.if-count-ne2.false),
    )
