-- The end is searched among the readings from the start on.
use Rattle.std.specs.Prelude.{◌≡◌, ◌+◌, length, int_le}
use Rattle.std.proofs.Common.{ap, sym, ◌∙◌}
use Rattle.rising.specs.Lists.{up_to}
use Rattle.rising.proofs.Selecting.{filter_both}
use Rattle.readings.specs.Halves.{joined}
use Rattle.readings.specs.Readings.{instant_of, in_span}
use Rattle.readings.proofs.HalvesLemmas.{taken}
use Rattle.readings.proofs.lists.Readings.places.Goals as goal

pub returns-clause-end : goal.returns-clause-end
returns-clause-end c =
    let from = c.args.from in
    let to = c.args.to in
    let all = joined c.halves-all.result in
    let rest = joined c.split_at.result.1 in
    let count : length (up_to instant_of to rest) ≡ c.count_to.result =
    taken rest (up_to instant_of to rest) c.count_to.result c.count_to.ensures.within c.count_to.ensures.front in
    let span : up_to instant_of to rest ≡ in_span from to all =
    ap (up_to instant_of to) (c.split_at.ensures.back ∙ c.count_before-first.ensures.back) ∙ filter_both (λ r. int_le from r.at) (λ r. int_le r.at to) all in
    ap (λ n. c.count_before-first.result + n) (sym count ∙ ap length span ∙ ap (λ l. length (in_span from to l)) c.halves-all.ensures.list)
