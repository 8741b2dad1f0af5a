-- Each route adds its row.
use Rattle.std.proofs.Common.{◌≡◌, sym, ◌∙◌, ap, ℕ, ◌+◌, ◌<◌, [], take, get_or}
use Rattle.std.specs.List.{fold}
use Rattle.std.proofs.lemmas.List.{take_all}
use Rattle.std.proofs.lemmas.List.Sums.{fold_more}
use Rattle.matchit.specs.Rows.{RowsOf}
use Rattle.matchit.specs.Router.{RouteOf}
use Rattle.http_api.specs.Routes.{with_route, all_routes, route_rows}
use Rattle.http_api.specs.declared.routes.Route.{Route}
use Rattle.http_api.proofs.routes.rows.Goals as goal

one_more : (i : ℕ) (other : Route) (rows next : RowsOf (RouteOf Route)) → rows ≡ fold with_route [] (take i all_routes) → i < 11
    → next ≡ with_route rows (get_or all_routes i other) → next ≡ fold with_route [] (take (i + 1) all_routes)
one_more i other rows next before within added =
    added ∙ ap (λ (some : RowsOf (RouteOf Route)). with_route some (get_or all_routes i other)) before
    ∙ sym (fold_more with_route [] all_routes i other within)

pub loop-route-preserved : goal.loop-route-preserved
loop-route-preserved c =
    one_more c.loop-route.route-index _ c.loop-route.rows c.add.new.rows c.loop-route.invariant c.loop-route-test.true c.in_ok-add.ensures

pub returns : goal.returns
unfolding route_rows
returns c =
    c.loop-route.invariant
    ∙ ap (λ routes. fold with_route [] routes) (take_all c.loop-route.route-index all_routes c.loop-route-test.false)
