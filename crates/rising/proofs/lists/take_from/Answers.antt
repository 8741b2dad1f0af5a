use Rattle.std.proofs.Common.{sym, ◌∙◌}
use Rattle.rising.proofs.Selecting.{slice_get_at}
use Rattle.rising.proofs.lists.take_from.Goals as goal

pub returns-then-stands_in-clause-taken : goal.returns-then-stands_in-clause-taken
returns-then-stands_in-clause-taken g c =
    let is = c.deref-2.ensures.value in
    let found = rw is at (c.stands_in.ensures.found c.if-stands_in.true) in
    let within = rw is at (c.stands_in.ensures.within c.if-stands_in.true) in
    sym (found ∙ slice_get_at c.args.list.now.items c.count_before-place.result c.remove.result within (sym c.remove.ensures.value))
