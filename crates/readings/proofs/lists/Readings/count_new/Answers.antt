-- One more of the list is counted, where none stands at its instant among the rest, nor among all.
use Rattle.std.specs.Prelude.{◌≡◌, ◌+◌, ◌∷◌, true, false, not, is_some, List, cond, length, drop, int_le, ◌≤ℤ◌, All}
use Rattle.std.proofs.Common.{arith, ap, sym, ◌∙◌, subst}
use Rattle.std.proofs.lemmas.List.Elements.{All-head}
use Rattle.rising.proofs.Placing.{filter_rises, from_is_from}
use Rattle.fixed_units.specs.declared.readings.Reading.{Reading}
use Rattle.readings.specs.Halves.{joined}
use Rattle.readings.specs.Readings.{IsRising, instant_of, at_instant, put_all}
use Rattle.readings.proofs.PuttingLemmas.{next_is, is_new, one_more, rest_found, found_behind, none_told, drop_rises}
use Rattle.readings.proofs.lists.Readings.count_new.Goals as goal
use Rattle.readings.proofs.lists.Readings.count_new.Goals.{then-not-begins_at, else-not-begins_at}

pub begins_at-requires-clause-rising : goal.begins_at-requires-clause-rising
begins_at-requires-clause-rising c =
    subst IsRising (sym c.split_at_key.ensures.from)
    (filter_rises instant_of (λ s. int_le c.reading-item.result.at s.at) (joined c.loop-reading.rest) c.loop-reading.invariant.rising)

pub begins_at-requires-clause-from : goal.begins_at-requires-clause-from
begins_at-requires-clause-from c =
    let n = c.reading-item.result.at in
    subst (λ (l : List Reading). All (λ r. n ≤ℤ r.at) l) (sym c.split_at_key.ensures.from) (from_is_from instant_of n (joined c.loop-reading.rest))

pub loop-reading-preserved : goal.loop-reading-preserved
loop-reading-preserved c =
    let list = c.args.list.now in
    let rs = c.args.self.now.list in
    let i = c.loop-reading.reading-index in
    let r = c.reading-item.result in
    let rest = drop (i + 1) list in
    let next : drop i list ≡ r ∷ rest = next_is list i r c.loop-reading-test.true c.reading-item.is in
    let rises : IsRising (r ∷ rest) = subst IsRising next (drop_rises i list c.requires) in
    let all : IsRising rs = subst IsRising c.halves-rest.ensures.list c.halves-rest.ensures.rising in
    let here : All (λ s. at_instant s.at (joined c.loop-reading.rest) ≡ at_instant s.at rs) (r ∷ rest) =
    subst (λ (l : List Reading). All (λ s. at_instant s.at (joined c.loop-reading.rest) ≡ at_instant s.at rs) l) next c.loop-reading.invariant.rest in
    let found : at_instant r.at (joined c.split_at_key.result.1) ≡ at_instant r.at rs =
    found_behind r.at (joined c.loop-reading.rest) (joined c.split_at_key.result.1) c.split_at_key.ensures.from
    ∙ All-head (λ s. at_instant s.at (joined c.loop-reading.rest) ≡ at_instant s.at rs) r rest here in
    let more : length (put_all (drop i list) rs) ≡ length (put_all rest rs) + cond (is_new rs r) 1 0 =
    ap (λ (l : List Reading). length (put_all l rs)) next ∙ one_more r rest rs rises all in
    let told : is_new rs r ≡ not c.begins_at.result = none_told (at_instant r.at rs) c.begins_at.result (c.begins_at.ensures ∙ ap is_some found) in
    let counted : c.if-not-begins_at.count ≡ c.loop-reading.count + cond (is_new rs r) 1 0 =
    elim c.if-not-begins_at.branch [
      | then-not-begins_at w ↦ (let k = w.if-not-begins_at.true in let new : is_new rs r ≡ true = cc in w.count-is ∙ ap (λ b. c.loop-reading.count + cond b 1 0) (sym new))
      | else-not-begins_at w ↦ (let k = w.if-not-begins_at.false in let old : is_new rs r ≡ false = cc in
          w.count-is ∙ omega arith ∙ ap (λ b. c.loop-reading.count + cond b 1 0) (sym old))
    ] in
    record {
      count = omega (arith, c.loop-reading.invariant.count, more, counted);
      small = elim c.if-not-begins_at.branch [
        | then-not-begins_at w ↦ omega (arith, w.count-is, c.loop-reading.invariant.small)
        | else-not-begins_at w ↦ omega (arith, w.count-is, c.loop-reading.invariant.small)
      ];
      rising = subst IsRising (sym c.split_at_key.ensures.from) (filter_rises instant_of (λ s. int_le r.at s.at) (joined c.loop-reading.rest) c.loop-reading.invariant.rising);
      rest = rest_found r rest (joined c.loop-reading.rest) (joined c.split_at_key.result.1) rs rises c.split_at_key.ensures.from here;
    }
