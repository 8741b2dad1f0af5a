-- The next sheet is the same too.
use Rattle.std.proofs.Common.{rules, ◌≡◌, ℕ, ◌<◌, length, get_or, sym, ◌∙◌, ap, subst, arith}
use Rattle.std.proofs.lemmas.List.{take_more_same}
use Rattle.migration.proofs.matching.are_same.Goals as goal

pub loop-place-preserved : goal.loop-place-preserved
loop-place-preserved c =
    let one = c.args.one.now in
    let other = c.args.other.now in
    let place = c.loop-place.place in
    let lengths : length one ≡ length other = search rules in
    let same : c.index-one-place.result ≡ c.index-other-place.result = search rules in
    let there : get_or one place c.index-one-place.result ≡ get_or other place c.index-one-place.result =
    sym c.index-one-place.is ∙ same ∙ c.index-other-place.is ∙ ap (get_or other place) (sym same) in
    record {
      within = omega arith;
      alike =
          take_more_same one other place c.index-one-place.result c.loop-place-test.true (subst (λ (n : ℕ). place < n) lengths c.loop-place-test.true)
          c.loop-place.invariant.alike there;
    }
