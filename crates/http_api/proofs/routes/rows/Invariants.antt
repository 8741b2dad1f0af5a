use Rattle.std.proofs.Common.{◌≡◌, [], take}
use Rattle.std.specs.List.{fold}
use Rattle.http_api.specs.Routes.{with_route, all_routes}
use Rattle.http_api.proofs.routes.rows.Given as goal

abbrev pub invariant-loop-route : goal.invariant-loop-route
invariant-loop-route l = l.rows ≡ fold with_route [] (take l.route-index all_routes)
