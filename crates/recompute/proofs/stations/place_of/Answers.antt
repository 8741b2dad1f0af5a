use Rattle.std.specs.Prelude.{◌≡◌, ℕ, pos}
use Rattle.std.proofs.Common.{arith, ap, sym, ◌∙◌}
use Rattle.std.proofs.lemmas.List.{get_or_default}
use Rattle.rising.specs.Lists.{before, from}
use Rattle.fixed_units.specs.Quantities.{site_place}
use Rattle.day_cells.specs.Sites.{station_rank}
use Rattle.recompute.proofs.StationLemmas.{at_place, at_gap}
use Rattle.recompute.proofs.stations.place_of.Goals as goal

pub returns-clause-found : goal.returns-clause-found
returns-clause-found c =
    let stations = c.args.stations.now in
    let place = c.count_before-place.result in
    let key = c.rank-key.ensures in
    at_place stations c.args.site place c.index-stations-place.result c.requires
    (c.count_before-place.ensures.front ∙ ap (λ n. before station_rank n stations) key)
    (c.count_before-place.ensures.back ∙ ap (λ n. from station_rank n stations) key)
    c.if-place-stations.false
    (ap station_rank (sym c.index-stations-place.is) ∙ ap site_place (sym c.site.ensures) ∙ sym c.rank.ensures ∙ ap (λ n. pos n) c.if-rank-key.false ∙ key)

pub returns-then-place-stations-clause-absent : goal.returns-then-place-stations-clause-absent
returns-then-place-stations-clause-absent c =
    let stations = c.args.stations.now in
    let key = c.rank-key.ensures in
    let past = c.if-place-stations.true in
    at_gap stations c.args.site c.count_before-place.result c.requires c.count_before-place.ensures.within
    (c.count_before-place.ensures.front ∙ ap (λ n. before station_rank n stations) key)
    (c.count_before-place.ensures.back ∙ ap (λ n. from station_rank n stations) key)
    (λ l. absurd (omega arith))

same_pos : (a b : ℕ) → pos a ≡ pos b → a ≡ b
same_pos a b e = cc

pub returns-then-rank-key-clause-absent : goal.returns-then-rank-key-clause-absent
returns-then-rank-key-clause-absent c =
    let stations = c.args.stations.now in
    let place = c.count_before-place.result in
    let key = c.rank-key.ensures in
    let l = c.if-place-stations.false in
    at_gap stations c.args.site place c.requires c.count_before-place.ensures.within
    (c.count_before-place.ensures.front ∙ ap (λ n. before station_rank n stations) key)
    (c.count_before-place.ensures.back ∙ ap (λ n. from station_rank n stations) key)
    (λ m d e. c.if-rank-key.true (same_pos _ _ (c.rank.ensures ∙ ap site_place c.site.ensures ∙ ap station_rank c.index-stations-place.is
    ∙ ap station_rank (get_or_default stations place c.index-stations-place.result d m) ∙ e ∙ sym key)))
