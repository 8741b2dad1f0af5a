use Rattle.std.proofs.Common.{◌≡◌, ℕ, codes, Contains, refl, sym, ◌∙◌, subst, rules, arith}
use Rattle.std.proofs.lemmas.List.Elements.{All-from_recursion}
use Rattle.command_words.specs.Words.{Asked, Water, AreOptionsOf, options_of}
use Rattle.command_words.specs.Reading.{given_in}
use Rattle.command_words.proofs.WordLemmas.{all_its, apart, water_lacks, water_not_so_many, year_too_great}
use Rattle.command_words.proofs.reading.water.Goals as goal

pub returns-in_err-journal : goal.returns-in_err-journal
returns-in_err-journal c =
    rw c.from_residual.ensures (water_lacks (given_in c.args.options.now) (codes "--journal") c.in_err-journal.ensures (λ order. (refl, refl)))

pub returns-in_err-site : goal.returns-in_err-site
returns-in_err-site c =
    rw c.from_residual-in_err-site.ensures (water_lacks (given_in c.args.options.now) (codes "--site") c.in_err-site.ensures (λ order. (refl, refl)))

pub returns-in_err-year : goal.returns-in_err-year
returns-in_err-year c =
    rw c.from_residual-in_err-year.ensures (water_lacks (given_in c.args.options.now) (codes "--year") c.in_err-year.ensures (λ order. (refl, refl)))

pub returns-in_err-turns : goal.returns-in_err-turns
returns-in_err-turns c =
    rw c.from_residual-in_err-turns.ensures (water_lacks (given_in c.args.options.now) (codes "--turns") c.in_err-turns.ensures (λ order. (refl, refl)))

pub returns-then-count-ne4 : goal.returns-then-count-ne4
returns-then-count-ne4 c = water_not_so_many (given_in c.args.options.now) (λ many. c.if-count-ne4.true (c.count.ensures ∙ many))

pub returns-in_default : goal.returns-in_default
returns-in_default c =
    year_too_great (given_in c.args.options.now) c.in_ok-year.year c.in_ok-year.ensures (omega (arith, c.in_default.ensures))

pub returns : goal.returns
returns c =
    let asked : Asked = Water (record { journal = c.in_ok-journal.journal.now; site = c.in_ok-site.site; year = c.in_ok-year.year; turns = c.in_ok-turns.turns }) in
    let year : c.in-Ok.year ≡ c.in_ok-year.year = search (rules, c.in-Ok.ensures) in (
      refl,
      tt,
      subst (λ (y : ℕ). AreOptionsOf (Water (record { journal = c.in_ok-journal.journal.now; site = c.in_ok-site.site; year = y; turns = c.in_ok-turns.turns })) (given_in c.args.options.now)) (sym year)
          (all_its asked (given_in c.args.options.now) (apart asked)
          (All-from_recursion (Contains (given_in c.args.options.now)) (options_of asked)
          (c.in_ok-journal.ensures, (c.in_ok-site.ensures, (c.in_ok-year.ensures, (c.in_ok-turns.ensures, tt)))))
          (sym c.count.ensures ∙ c.if-count-ne4.false)),
    )
