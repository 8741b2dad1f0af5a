-- A route that is taken stands in its place.
use Rattle.std.proofs.Common.{◌≡◌, inl, inr, Result, Ok, Err, OnOk}
use Rattle.matchit.specs.Rows.{RowsOf}
use Rattle.matchit.specs.Route.{Scan}
use Rattle.matchit.specs.Router.{RouteOf, InsertsRead}
use Rattle.matchit.specs.declared.error.InsertError.{InsertError}
use Rattle.http_api.specs.Routes.{placed_by, with_route}
use Rattle.http_api.specs.declared.routes.Route.{Route}
use Rattle.http_api.proofs.routes.add.Goals as goal

taken : (read : Result Scan InsertError) (route : Route) (old new : RowsOf (RouteOf Route)) (r : Result (Unit {0}) InsertError)
    → InsertsRead read route old new r → OnOk r (new ≡ placed_by read route old)
taken (Ok scan) route old new (Ok u) h = h.1
taken (Ok scan) route old new (Err e) h = tt
taken (Err e) route old new (Ok u) h = elim h.1 [ inl p ↦ absurd (cc) | inr p ↦ absurd (cc) ]
taken (Err e) route old new (Err f) h = tt

pub returns : goal.returns
unfolding with_route
returns c = rw (← c.spelling.ensures) (taken _ _ _ _ _ c.insert.ensures)
