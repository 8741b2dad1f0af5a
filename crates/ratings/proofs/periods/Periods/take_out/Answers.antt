-- What is left is apart, and nothing begins where nothing was taken.
use Rattle.std.proofs.Common.{sym, subst, ◌∙◌, ap}
use Rattle.rising.specs.Lists.{Kept, at}
use Rattle.ratings.specs.Spans.{Span}
use Rattle.ratings.specs.Periods.{AreApart, begin}
use Rattle.ratings.proofs.PeriodLemmas.{without_apart, none_begins}
use Rattle.ratings.proofs.periods.Periods.take_out.Goals as goal
use Rattle.ratings.proofs.periods.Periods.take_out.Goals.{in-Some, in-None}

pub invariant_of-self : goal.invariant_of-self
invariant_of-self c = subst AreApart (sym c.take_out.ensures.list) (without_apart c.args.from c.self.inside.list.list c.self.invariant)

pub returns-clause-err : goal.returns-clause-err
returns-clause-err c =
    elim c.match-take_out.branch [
      | in-Some w ↦ rw w.result-is tt
      | in-None w ↦
          rw w.result-is
          (none_begins c.args.from c.args.self.now.list (sym w.in-None.is ∙ c.take_out.ensures.taken ∙ ap (λ (k : Kept Span). at begin c.args.from k.list) c.self.view_is))
    ]
