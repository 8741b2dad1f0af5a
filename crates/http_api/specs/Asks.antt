-- What a request asks, by its method, its target and its body.
use Rattle.std.specs.Prelude.{◌≡◌, ℕ, ℤ, Bool, true, false, List, [], Option, Some, None, Result, Ok, Err, IsOk, IsSomeAnd, if◌then◌else◌}
use Rattle.edit_bodies.specs.Bodies.{Parts, parts, edit_of}
use Rattle.edit_bodies.specs.declared.faults.BodyFault.{BodyFault}
use Rattle.edit_bodies.specs.declared.faults.BodyFault.TheVariants as faults
use Rattle.edits.specs.declared.content.What.TheVariants.{AddRating}
use Rattle.fixed_units.specs.Quantities.{SiteNumber}
use Rattle.rating_tables.specs.Rdb.{rdb_of}
use Rattle.rating_tables.specs.Table.{Row}
use Rattle.rating_tables.specs.declared.rdb.RdbFault.{RdbFault}
use Rattle.wire.specs.declared.messages.Verb.{Verb}
use Rattle.wire.specs.declared.messages.Verb.TheVariants.{Get, Post, Other}
use Rattle.http_api.specs.Routes.{verb_of, target_of}
use Rattle.http_api.specs.declared.asks.Ask.{Ask}
use Rattle.http_api.specs.declared.asks.Ask.TheVariants as asks
use Rattle.http_api.specs.declared.asks.Denied.{Denied}
use Rattle.http_api.specs.declared.asks.Denied.TheVariants.{NoRoute, NotAllowed, Json, Body, Rdb, NoMemory}
use Rattle.http_api.specs.declared.routes.Target.{Target}
use Rattle.http_api.specs.declared.routes.Target.TheVariants as targets

-- what is asked, with the parts of an edit
pub data Question : Type 0 where
  edit : Parts → Question
  station : SiteNumber → Question
  day_of : SiteNumber → ℤ → Question
  sheet_of : SiteNumber → ℤ → Question
  daily : SiteNumber → ℤ → ℤ → Question
  measurement : SiteNumber → ℕ → Question
  accepted_edit : ℕ → Question
  turns : ℕ → Question
  settle : Question
  counts : Question

-- what an ask asks
abbrev pub question : Ask → Question
question (asks.Edit given) = edit (parts given)
question (asks.Station site) = station site
question (asks.DayOf site day) = day_of site day
question (asks.SheetOf site day) = sheet_of site day
question (asks.Daily site from to) = daily site from to
question (asks.Measurement site number) = measurement site number
question (asks.EditOf number) = accepted_edit number
question (asks.Turns count) = turns count
question asks.Settle = settle
question asks.Counts = counts

-- asks of one question are equal
abbrev pub AreTold : Type 0
AreTold = (one other : Ask) → question one ≡ question other → one ≡ other

-- the edit of a body, or why there is none
abbrev pub asked_edit : Result Parts BodyFault → Result Question Denied
asked_edit (Ok given) = Ok (edit given)
asked_edit (Err faults.Json) = Err Json
asked_edit (Err (faults.Body name)) = Err (Body name)
asked_edit (Err faults.NoMemory) = Err NoMemory

-- the edit that adds the rating of an RDB text, which has an empty comment, or the fault of the text
abbrev pub asked_rating : SiteNumber → ℕ → List ℕ → List ℕ → Result (List Row) RdbFault → Result Question Denied
asked_rating site rating by reference (Ok rows) =
    Ok (edit (record { by = by; reference = reference; site = site; comment = []; what = AddRating rating rows }))
asked_rating site rating by reference (Err fault) = Err (Rdb fault)

-- what is asked by what the target names; the body counts of an edit alone
abbrev pub asked_by : Target → List ℕ → Result Question Denied
asked_by targets.Edits body = asked_edit (edit_of body)
asked_by (targets.Rating site rating by reference) body = asked_rating site rating by reference (rdb_of body)
asked_by (targets.Turns count) body = Ok (turns count)
asked_by targets.Settle body = Ok settle
asked_by targets.Status body = Ok counts
asked_by (targets.Station site) body = Ok (station site)
asked_by (targets.DayOf site day) body = Ok (day_of site day)
asked_by (targets.SheetOf site day) body = Ok (sheet_of site day)
asked_by (targets.Daily site from to) body = Ok (daily site from to)
asked_by (targets.Measurement site number) body = Ok (measurement site number)
asked_by (targets.EditOf number) body = Ok (accepted_edit number)

-- a rating in JSON without a comment and one in RDB of equal values ask the same
abbrev pub RatingsAreOneEdit : Type 0
RatingsAreOneEdit =
    (site : SiteNumber) (rating : ℕ) (by reference json text : List ℕ) (rows : List Row)
    → edit_of json ≡ Ok (record { by = by; reference = reference; site = site; comment = []; what = AddRating rating rows })
    → rdb_of text ≡ Ok rows
    → asked_by targets.Edits json ≡ asked_by (targets.Rating site rating by reference) text

-- the method is the one that would do
abbrev pub is_verb : Verb → Verb → Bool
is_verb Get Get = true
is_verb Get Post = false
is_verb Get Other = false
is_verb Post Get = false
is_verb Post Post = true
is_verb Post Other = false
is_verb Other verb = false

-- what is asked, where the target names something
abbrev pub asked_at : Verb → Option Target → List ℕ → Result Question Denied
asked_at verb None body = Err NoRoute
asked_at verb (Some target) body =
    if is_verb (verb_of target) verb then asked_by target body else Err (NotAllowed (verb_of target))

-- what a request asks, or why it asks nothing
unfoldable pub ask_of : Verb → List ℕ → List ℕ → Result Question Denied
ask_of verb target body = asked_at verb (target_of target) body

-- want of memory comes only in place of what the body of an edit states, and of the rating that an RDB text states
abbrev pub WantsMemory : Target → List ℕ → Type 0
WantsMemory targets.Edits body = Unit {0}
WantsMemory (targets.Rating site rating by reference) body = IsOk (rdb_of body)
WantsMemory (targets.Turns count) body = ⊥
WantsMemory targets.Settle body = ⊥
WantsMemory targets.Status body = ⊥
WantsMemory (targets.Station site) body = ⊥
WantsMemory (targets.DayOf site day) body = ⊥
WantsMemory (targets.SheetOf site day) body = ⊥
WantsMemory (targets.Daily site from to) body = ⊥
WantsMemory (targets.Measurement site number) body = ⊥
WantsMemory (targets.EditOf number) body = ⊥

-- an RDB text that is denied so: by its fault, or for want of memory where it has none
abbrev pub IsTextDenial : Result (List Row) RdbFault → Denied → Type 0
IsTextDenial read NoMemory = IsOk read
IsTextDenial read NoRoute = ⊥
IsTextDenial read (NotAllowed _) = ⊥
IsTextDenial read Json = ⊥
IsTextDenial read (Body _) = ⊥
IsTextDenial read (Rdb fault) = read ≡ Err fault

-- a request that is denied so
abbrev pub IsDenialBy : Target → List ℕ → Denied → Type 0
IsDenialBy target body NoMemory = WantsMemory target body
IsDenialBy target body NoRoute = asked_by target body ≡ Err NoRoute
IsDenialBy target body (NotAllowed due) = asked_by target body ≡ Err (NotAllowed due)
IsDenialBy target body Json = asked_by target body ≡ Err Json
IsDenialBy target body (Body name) = asked_by target body ≡ Err (Body name)
IsDenialBy target body (Rdb fault) = asked_by target body ≡ Err (Rdb fault)

abbrev pub IsDenialAt : Verb → Target → List ℕ → Denied → Type 0
IsDenialAt verb target body NoMemory = (verb ≡ Post) × WantsMemory target body
IsDenialAt verb target body NoRoute = asked_at verb (Some target) body ≡ Err NoRoute
IsDenialAt verb target body (NotAllowed due) = asked_at verb (Some target) body ≡ Err (NotAllowed due)
IsDenialAt verb target body Json = asked_at verb (Some target) body ≡ Err Json
IsDenialAt verb target body (Body name) = asked_at verb (Some target) body ≡ Err (Body name)
IsDenialAt verb target body (Rdb fault) = asked_at verb (Some target) body ≡ Err (Rdb fault)

abbrev pub IsDenial : Verb → List ℕ → List ℕ → Denied → Type 0
IsDenial verb target body NoMemory = (verb ≡ Post) × IsSomeAnd (target_of target) (λ named. WantsMemory named body)
IsDenial verb target body NoRoute = ask_of verb target body ≡ Err NoRoute
IsDenial verb target body (NotAllowed due) = ask_of verb target body ≡ Err (NotAllowed due)
IsDenial verb target body Json = ask_of verb target body ≡ Err Json
IsDenial verb target body (Body name) = ask_of verb target body ≡ Err (Body name)
IsDenial verb target body (Rdb fault) = ask_of verb target body ≡ Err (Rdb fault)
