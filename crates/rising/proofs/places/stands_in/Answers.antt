use Rattle.std.specs.Prelude.{length, nat_lt}
use Rattle.std.specs.Ordering.{int_eq}
use Rattle.std.proofs.Common.{arith, ◌∙◌, ap}
use Rattle.std.proofs.lemmas.Bool.Decides.{nat_tests}
use Rattle.rising.proofs.Placing.{told, told_none}
use Rattle.rising.proofs.places.stands_in.Goals as goal

pub returns-then-place-list : goal.returns-then-place-list
returns-then-place-list g c =
    let place = g.T.Keyed.place in
    let n = g.T.Keyed.number c.args.key in
    let h = told place n c.args.list.now c.args.place c.index-list-place.result c.is_at.result c.requires.rising c.requires.front c.requires.back (omega arith)
    (c.is_at.ensures ∙ ap (λ x. int_eq (place x) n) c.index-list-place.is) in
    record { found = h.found; none = h.none; within = λ _. omega arith; here = h.here; elsewhere = h.elsewhere }

pub returns-else-place-list-clause-none : goal.returns-else-place-list-clause-none
returns-else-place-list-clause-none g c =
    (told_none g.T.Keyed.place (g.T.Keyed.number c.args.key) c.args.list.now c.args.place (nat_lt c.args.place (length c.args.list.now)) c.requires.rising c.requires.front c.requires.back (omega arith) (grind (arith, nat_tests))).none

pub returns-else-place-list-clause-elsewhere : goal.returns-else-place-list-clause-elsewhere
returns-else-place-list-clause-elsewhere g c =
    (told_none g.T.Keyed.place (g.T.Keyed.number c.args.key) c.args.list.now c.args.place (nat_lt c.args.place (length c.args.list.now)) c.requires.rising c.requires.front c.requires.back (omega arith) (grind (arith, nat_tests))).elsewhere
