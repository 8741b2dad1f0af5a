-- The place is found behind those passed already; there the reading is written or put in.
use Rattle.std.specs.Prelude.{◌≡◌, ◌+◌, ◌++◌, ◌∷◌, length, take, drop, set}
use Rattle.std.proofs.Common.{arith, ap, sym, ◌∙◌, subst}
use Rattle.rising.specs.Lists.{Kept}
use Rattle.gapcol.specs.Lists.{Roomy}
use Rattle.fixed_units.specs.declared.readings.Reading.{Reading}
use Rattle.readings.specs.Readings.{IsRising, before_instant, put}
use Rattle.readings.proofs.WindowLemmas.{put_rises}
use Rattle.readings.proofs.PuttingLemmas.{place_of, all_within, written, inserted}
use Rattle.readings.proofs.lists.Readings.put_from.Goals as goal
use Rattle.readings.proofs.lists.Readings.put_from.Goals.{then-stands_in, else-stands_in}

pub behind-requires : goal.behind-requires
behind-requires c = omega (arith, c.requires.passed, all_within c.args.reading.at c.args.self.now.list)

pub stands_in-requires : goal.stands_in-requires
stands_in-requires c =
    place_of c.args.reading.at c.args.self.now.list _ c.args.from c.count_before.result (subst (λ (k : Kept Reading). IsRising k.list) c.self.view_is c.self.invariant)
    c.requires.passed c.behind.ensures.list c.count_before.ensures.within c.count_before.ensures.front

pub insert-requires-clause-within : goal.insert-requires-clause-within
insert-requires-clause-within c =
    let stand : c.args.from + c.count_before.result ≡ length (before_instant c.args.reading.at c.args.self.now.list) =
    place_of c.args.reading.at c.args.self.now.list _ c.args.from c.count_before.result (subst (λ (k : Kept Reading). IsRising k.list) c.self.view_is c.self.invariant)
    c.requires.passed c.behind.ensures.list c.count_before.ensures.within c.count_before.ensures.front in
    omega (arith, stand, all_within c.args.reading.at c.args.self.now.list, ap (λ (k : Kept Reading). length k.list) c.self.view_is)

pub invariant_of-self : goal.invariant_of-self
invariant_of-self c =
    let r = c.args.reading in
    let rs = c.args.self.now.list in
    let rising : IsRising rs = subst (λ (k : Kept Reading). IsRising k.list) c.self.view_is c.self.invariant in
    let place = c.args.from + c.count_before.result in
    let stand : place ≡ length (before_instant r.at rs) =
    place_of r.at rs _ c.args.from c.count_before.result rising c.requires.passed c.behind.ensures.list c.count_before.ensures.within c.count_before.ensures.front in
    let list : c.set.new.self.list ≡ put r rs =
    ap (λ (k : Roomy Reading). k.list) c.set.ensures ∙ ap (λ (k : Kept Reading). set k.list place r) c.self.view_is
    ∙ written r rs place rising stand (c.stands_in.ensures.within c.if-stands_in.true) (c.stands_in.ensures.here c.if-stands_in.true) in
    subst IsRising (sym list) (put_rises r rs rising)

pub invariant_of-self-else-stands_in : goal.invariant_of-self-else-stands_in
invariant_of-self-else-stands_in c =
    let r = c.args.reading in
    let rs = c.args.self.now.list in
    let rising : IsRising rs = subst (λ (k : Kept Reading). IsRising k.list) c.self.view_is c.self.invariant in
    let place = c.args.from + c.count_before.result in
    let stand : place ≡ length (before_instant r.at rs) =
    place_of r.at rs _ c.args.from c.count_before.result rising c.requires.passed c.behind.ensures.list c.count_before.ensures.within c.count_before.ensures.front in
    let list : c.insert.new.self.list ≡ put r rs =
    ap (λ (k : Roomy Reading). k.list) c.insert.ensures ∙ ap (λ (k : Kept Reading). take place k.list ++ r ∷ drop place k.list) c.self.view_is
    ∙ inserted r rs place rising stand (c.stands_in.ensures.elsewhere c.if-stands_in.false) in
    subst IsRising (sym list) (put_rises r rs rising)

pub overflow_add-result : goal.overflow_add-result
overflow_add-result c =
    let stand : c.args.from + c.count_before.result ≡ length (before_instant c.args.reading.at c.args.self.now.list) =
    place_of c.args.reading.at c.args.self.now.list _ c.args.from c.count_before.result (subst (λ (k : Kept Reading). IsRising k.list) c.self.view_is c.self.invariant)
    c.requires.passed c.behind.ensures.list c.count_before.ensures.within c.count_before.ensures.front in
    omega (arith, stand, all_within c.args.reading.at c.args.self.now.list, c.behind.ensures.range)

pub returns-clause-list : goal.returns-clause-list
returns-clause-list c =
    let r = c.args.reading in
    let rs = c.args.self.now.list in
    let rising : IsRising rs = subst (λ (k : Kept Reading). IsRising k.list) c.self.view_is c.self.invariant in
    let place = c.args.from + c.count_before.result in
    let stand : place ≡ length (before_instant r.at rs) =
    place_of r.at rs _ c.args.from c.count_before.result rising c.requires.passed c.behind.ensures.list c.count_before.ensures.within c.count_before.ensures.front in
    elim c.if-stands_in.branch [
      | then-stands_in w ↦ ap (λ (k : Kept Reading). k.list) w.self-is ∙ ap (λ (k : Roomy Reading). k.list) w.set.ensures
          ∙ ap (λ (k : Kept Reading). set k.list place r) c.self.view_is
          ∙ written r rs place rising stand (c.stands_in.ensures.within w.if-stands_in.true) (c.stands_in.ensures.here w.if-stands_in.true)
      | else-stands_in w ↦ ap (λ (k : Kept Reading). k.list) w.self-is ∙ ap (λ (k : Roomy Reading). k.list) w.insert.ensures
          ∙ ap (λ (k : Kept Reading). take place k.list ++ r ∷ drop place k.list) c.self.view_is
          ∙ inserted r rs place rising stand (c.stands_in.ensures.elsewhere w.if-stands_in.false)
    ]

pub returns-clause-next : goal.returns-clause-next
returns-clause-next c =
    ap (λ n. n + 1)
    (place_of c.args.reading.at c.args.self.now.list _ c.args.from c.count_before.result (subst (λ (k : Kept Reading). IsRising k.list) c.self.view_is c.self.invariant)
    c.requires.passed c.behind.ensures.list c.count_before.ensures.within c.count_before.ensures.front)
