-- The first of the standings stands at the day or later.
use Rattle.std.proofs.Common.{sym, ◌∙◌}
use Rattle.std.proofs.lemmas.Bool.Decides.{Decides-int_eq}
use Rattle.approval.specs.Kept.{day_place}
use Rattle.approval.proofs.DayLemmas.{first_here, first_later}
use Rattle.approval.proofs.day_lists.parted.Goals as goal

pub returns-then-eq-clause-later : goal.returns-then-eq-clause-later
returns-then-eq-clause-later c =
    first_here day_place c.args.day c.args.list.now c.in-Some.first.now c.in-Some.later.now c.requires.rising c.requires.from c.in-Some.ensures.cases.0
    ((Decides-int_eq c.in-Some.first.now.day c.args.day).0 (sym c.eq.ensures ∙ c.if-eq.true))

pub returns-else-eq-clause-here : goal.returns-else-eq-clause-here
returns-else-eq-clause-here c =
    (first_later day_place c.args.day c.args.list.now c.in-Some.first.now c.in-Some.later.now c.requires.rising c.requires.from c.in-Some.ensures.cases.0
    (λ k. let e = (Decides-int_eq c.in-Some.first.now.day c.args.day).1 k in let f = c.eq.ensures in let g = c.if-eq.false in absurd (cc))).0

pub returns-else-eq-clause-later : goal.returns-else-eq-clause-later
returns-else-eq-clause-later c =
    (first_later day_place c.args.day c.args.list.now c.in-Some.first.now c.in-Some.later.now c.requires.rising c.requires.from c.in-Some.ensures.cases.0
    (λ k. let e = (Decides-int_eq c.in-Some.first.now.day c.args.day).1 k in let f = c.eq.ensures in let g = c.if-eq.false in absurd (cc))).1
