-- Where an element stands at the key it is written over, and else one is put before those after it.
use Rattle.std.specs.Prelude.{◌≡◌, ◌+◌, ◌<◌, take, drop, length}
use Rattle.std.proofs.Common.{rules, sym, subst}
use Rattle.rising.specs.Lists.{IsRising, before, after, put}
use Rattle.rising.proofs.Placing.{write_is_put, put_rises}
use Rattle.rising.proofs.lists.put_in.Goals as goal

pub returns-then-stands_in-clause-items : goal.returns-then-stands_in-clause-items
returns-then-stands_in-clause-items g c =
    let place = g.T.Keyed.place in
    let n = c.key-key.ensures in
    let front : take c.count_before-place.result c.args.list.now.items ≡ before place (place c.args.element) c.args.list.now.items =
    rw (c.deref.ensures.value, n) at c.count_before-place.ensures.front in
    let back : drop (c.count_before-place.result + 1) c.args.list.now.items ≡ after place (place c.args.element) c.args.list.now.items =
    rw (c.deref-2.ensures.value, n) at (c.stands_in.ensures.here c.if-stands_in.true) in
    let within : c.count_before-place.result < length c.args.list.now.items =
    rw c.deref-2.ensures.value at (c.stands_in.ensures.within c.if-stands_in.true) in
    write_is_put place c.args.element c.args.list.now.items c.count_before-place.result within front back

pub returns-then-stands_in-clause-rising : goal.returns-then-stands_in-clause-rising
returns-then-stands_in-clause-rising g c =
    let place = g.T.Keyed.place in
    subst (IsRising place) (sym (returns-then-stands_in-clause-items g c)) (put_rises place c.args.element c.args.list.now.items c.requires.rising)

pub returns-clause-rising : goal.returns-clause-rising
returns-clause-rising g c =
    let place = g.T.Keyed.place in
    let items : c.insert-done.new.self.items ≡ put place c.args.element c.args.list.now.items = search rules in
    subst (IsRising place) (sym items) (put_rises place c.args.element c.args.list.now.items c.requires.rising)
