-- One more of the list is put, and the next stands behind it.
use Rattle.std.specs.Prelude.{◌≡◌, ◌+◌, ◌∷◌, ◌++◌, ◌≤◌, List, length, drop, get_or}
use Rattle.std.proofs.Common.{arith, ap, sym, ◌∙◌, subst}
use Rattle.fixed_units.specs.declared.readings.Reading.{Reading}
use Rattle.gapcol.specs.Lists.{Roomy}
use Rattle.rising.specs.Lists.{Kept}
use Rattle.readings.specs.Readings.{IsRising, before_instant, put_all}
use Rattle.readings.proofs.PuttingLemmas.{next_is, passed_next, put_all_rises}
use Rattle.readings.proofs.lists.Readings.put_all.Goals as goal

pub loop-reading-preserved : goal.loop-reading-preserved
loop-reading-preserved c =
    let list = c.args.list.now in
    let i = c.loop-reading.reading-index in
    let r = c.reading-item.result in
    let rs = c.loop-reading.self.list in
    let rest = drop (i + 1) list in
    let next : drop i list ≡ r ∷ rest = next_is list i r c.loop-reading-test.true c.reading-item.is in
    record {
      list = ap (put_all rest) c.put_from-from.ensures.list ∙ sym (ap (λ (l : List Reading). put_all l rs) next) ∙ c.loop-reading.invariant.list;
      room = c.put_from-from.ensures.room ∙ c.loop-reading.invariant.room;
      spare = omega (arith, c.put_from-from.ensures.spare, c.loop-reading.invariant.spare);
      passed = λ d l. subst (λ (x : List Reading). c.put_from-from.result ≤ length (before_instant (get_or list (i + 1) d).at x)) (sym c.put_from-from.ensures.list)
          (passed_next list rs i c.put_from-from.result r d c.requires.rising c.loop-reading-test.true c.reading-item.is l c.put_from-from.ensures.next);
    }

pub invariant_of-self : goal.invariant_of-self
invariant_of-self c =
    let rs = c.args.self.now.list in
    let list = c.args.list.now in
    let rising : IsRising rs = subst (λ (k : Kept Reading). IsRising k.list) c.self.view_is c.self.invariant in
    let all : c.append.new.self.list ≡ rs ++ list =
    ap (λ (k : Roomy Reading). k.list) c.append.ensures ∙ ap (λ (k : Kept Reading). k.list ++ list) c.self.view_is in
    subst IsRising (sym (all ∙ sym (c.ends_before.ensures c.if-ends_before.true))) (put_all_rises list rs rising)
