-- The routes: which targets there are, and what a target of each names.
use Rattle.std.specs.Prelude.{◌≡◌, ◌↔◌, ◌<◌, ℕ, ℤ, Bool, true, false, ◌==◌, List, [], ◌∷◌, ◌++◌, length, fold, codes, Option, Some, None, option_map, option_and_then, Result, Ok, Err, if◌then◌else◌}
use Rattle.std.specs.List.{list_all}
use Rattle.std.specs.Char.{is_ascii}
use Rattle.matchit.specs.Rows.{RowsOf, param_token}
use Rattle.matchit.specs.Route.{Scan, parse_route}
use Rattle.matchit.specs.Router.{RouteOf, route_from}
use Rattle.matchit.specs.Order.{placed}
use Rattle.matchit.specs.Params.{walk}
use Rattle.matchit.specs.Seek.{first, has_slash}
use Rattle.matchit.specs.declared.error.InsertError.{InsertError}
use Rattle.edits.specs.Lawful.{IsRatingNumber}
use Rattle.fixed_units.specs.Quantities.{SiteNumber}
use Rattle.http_api.specs.Parameters.{Parameters, by_in, count_in, day_in, edit_number_in, from_in, is_table_span, measurement_in, rating_in, reference_in, site_in, to_in}
use Rattle.wire.specs.declared.messages.Verb.{Verb}
use Rattle.wire.specs.declared.messages.Verb.TheVariants.{Get, Post}
use Rattle.http_api.specs.declared.routes.Route.{Route}
use Rattle.http_api.specs.declared.routes.Route.TheVariants as routes
use Rattle.http_api.specs.declared.routes.Target.{Target}
use Rattle.http_api.specs.declared.routes.Target.TheVariants as targets

-- how the targets of a route are spelled, with each parameter in braces
abbrev pub spelling : Route → List ℕ
spelling routes.Edits = codes "/edits"
spelling routes.Rating = codes "/ratings/{site}/{rating}/{by}/{ref}"
spelling routes.Turns = codes "/turns/{count}"
spelling routes.Settle = codes "/settle"
spelling routes.Status = codes "/status"
spelling routes.Station = codes "/stations/{site}"
spelling routes.DayOf = codes "/stations/{site}/days/{day}"
spelling routes.SheetOf = codes "/stations/{site}/days/{day}/sheet"
spelling routes.Daily = codes "/stations/{site}/daily/{from}/{to}"
spelling routes.Measurement = codes "/stations/{site}/measurements/{number}"
spelling routes.EditOf = codes "/edits/{number}"

-- the routes that there are
abbrev pub all_routes : List Route
all_routes =
    routes.Edits ∷ routes.Rating ∷ routes.Turns ∷ routes.Settle ∷ routes.Status ∷ routes.Station ∷ routes.DayOf ∷ routes.SheetOf ∷ routes.Daily
    ∷ routes.Measurement ∷ routes.EditOf ∷ []

-- the rows of `matchit` with that of a route, where the spelling reads as one
abbrev pub placed_by : Result Scan InsertError → Route → RowsOf (RouteOf Route) → RowsOf (RouteOf Route)
placed_by (Ok scan) route rows = placed (scan.pattern, route_from scan route) rows
placed_by (Err fault) route rows = rows

unfoldable pub with_route : RowsOf (RouteOf Route) → Route → RowsOf (RouteOf Route)
with_route rows route = placed_by (parse_route (spelling route)) route rows

-- the rows of all routes
unfoldable pub route_rows : RowsOf (RouteOf Route)
route_rows = fold with_route [] all_routes

-- what a parameter may take of a target: one byte at least, and no slash
pub record IsPart (part : List ℕ) : Type 0 where
  pub some : 0 < length part
  pub one : has_slash part ≡ false

-- the target begins with what a token stands for, itself or a part, and what is behind it goes on so
abbrev pub Begins : Bool → ℕ → (List ℕ → Type 0) → List ℕ → Type 0
Begins true token GoesOn target = (part : List ℕ) × (rest : List ℕ) × (target ≡ part ++ rest) × IsPart part × GoesOn rest
Begins false token GoesOn target = (rest : List ℕ) × (target ≡ token ∷ rest) × GoesOn rest

-- the target is spelled by these tokens, which are bytes and parameters
abbrev pub IsSpelled : List ℕ → List ℕ → Type 0
IsSpelled [] target = target ≡ []
IsSpelled (token ∷ tokens) target = Begins (token == param_token) token (IsSpelled tokens) target

-- the tokens of a spelling, where it reads as one
abbrev pub tokens_by : Result Scan InsertError → List ℕ
tokens_by (Ok scan) = scan.pattern
tokens_by (Err fault) = []

unfoldable pub tokens_of : Route → List ℕ
tokens_of route = tokens_by (parse_route (spelling route))

-- the target is spelled as those of the route
abbrev pub Fits : Route → List ℕ → Type 0
Fits route target = IsSpelled (tokens_of route) target

-- a target fits one route at most
abbrev pub RoutesAreApart : Type 0
RoutesAreApart = (one other : Route) (target : List ℕ) → Fits one target → Fits other target → one ≡ other

-- a target has the row of the route that it fits
abbrev pub RowsAreThoseThatFit : Type 0
RowsAreThoseThatFit =
    (target : List ℕ) (route : Route)
    → option_map (λ (row : RouteOf Route). row.value) (first route_rows target) ≡ Some route ↔ Fits route target

-- the rating of a number that a person adds to a station under a reference, if each is there
abbrev pub rating_target : Option SiteNumber → Option ℕ → Option (List ℕ) → Option (List ℕ) → Option Target
rating_target None rating by reference = None
rating_target (Some site) None by reference = None
rating_target (Some site) (Some rating) None reference = None
rating_target (Some site) (Some rating) (Some by) None = None
rating_target (Some site) (Some rating) (Some by) (Some reference) = Some (targets.Rating site rating by reference)

-- the daily table of a station from a day to another, if each is there and the table has 1 to 366 days
abbrev pub daily_target : Option SiteNumber → Option ℤ → Option ℤ → Option Target
daily_target None from to = None
daily_target (Some site) None to = None
daily_target (Some site) (Some from) None = None
daily_target (Some site) (Some from) (Some to) = if is_table_span from to then Some (targets.Daily site from to) else None

-- what a target of a route names, if each of its parameters is of its grammar
abbrev pub target_by : Route → Parameters → Option Target
target_by routes.Edits taken = Some targets.Edits
target_by routes.Rating taken = rating_target (site_in taken) (rating_in taken) (by_in taken) (reference_in taken)
target_by routes.Turns taken = option_map targets.Turns (count_in taken)
target_by routes.Settle taken = Some targets.Settle
target_by routes.Status taken = Some targets.Status
target_by routes.Station taken = option_map targets.Station (site_in taken)
target_by routes.DayOf taken = option_and_then (λ site. option_map (targets.DayOf site) (day_in taken)) (site_in taken)
target_by routes.SheetOf taken = option_and_then (λ site. option_map (targets.SheetOf site) (day_in taken)) (site_in taken)
target_by routes.Daily taken = daily_target (site_in taken) (from_in taken) (to_in taken)
target_by routes.Measurement taken =
    option_and_then (λ site. option_map (targets.Measurement site) (measurement_in taken)) (site_in taken)
target_by routes.EditOf taken = option_map targets.EditOf (edit_number_in taken)

-- the method of the requests for it
abbrev pub verb_of : Target → Verb
verb_of targets.Edits = Post
verb_of (targets.Rating site rating by reference) = Post
verb_of (targets.Turns count) = Post
verb_of targets.Settle = Post
verb_of targets.Status = Get
verb_of (targets.Station site) = Get
verb_of (targets.DayOf site day) = Get
verb_of (targets.SheetOf site day) = Get
verb_of (targets.Daily site from to) = Get
verb_of (targets.Measurement site number) = Get
verb_of (targets.EditOf number) = Get

-- the number of a rating is one, wherever a target names it
abbrev pub NamesRating : Target → Type 0
NamesRating targets.Edits = Unit {0}
NamesRating (targets.Rating site rating by reference) = IsRatingNumber rating
NamesRating (targets.Turns count) = Unit {0}
NamesRating targets.Settle = Unit {0}
NamesRating targets.Status = Unit {0}
NamesRating (targets.Station site) = Unit {0}
NamesRating (targets.DayOf site day) = Unit {0}
NamesRating (targets.SheetOf site day) = Unit {0}
NamesRating (targets.Daily site from to) = Unit {0}
NamesRating (targets.Measurement site number) = Unit {0}
NamesRating (targets.EditOf number) = Unit {0}

-- what a target names by its row, whose parameters take their parts of it
abbrev pub target_at : Option (RouteOf Route) → List ℕ → Option Target
target_at None target = None
target_at (Some row) target = target_by row.value (walk row.pattern row.text target row.names 0 0)

-- what a target names: by the row that `matchit` states for it, as it stands
abbrev pub target_of : List ℕ → Option Target
target_of target = if list_all is_ascii target then target_at (first route_rows target) target else None
