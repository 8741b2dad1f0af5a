-- The failures: of each reply that is no answer, its status, its code and what it tells beside.
use Rattle.std.specs.Prelude.{ℕ, ℤ, List, [], ◌++◌, codes, decimal, Option, Some, None}
use Rattle.civil_days.specs.Texts.{day_text, instant_text}
use Rattle.edit_bodies.specs.Members.{member_text}
use Rattle.rating_tables.specs.Rdb.{line_of}
use Rattle.office_inputs.specs.declared.refusals.Which.{Which}
use Rattle.office_inputs.specs.declared.refusals.Which.TheVariants.{Stations, Readings, DayReadings, Ratings, Entries, Periods, Measurements, Editions}
use Rattle.office_inputs.specs.declared.refusals.Full.{Full}
use Rattle.office_inputs.specs.declared.refusals.Full.TheVariants.{Events, Cells}
use Rattle.office_inputs.specs.declared.refusals.Refusal.{Refusal}
use Rattle.office_inputs.specs.declared.refusals.Refusal.TheVariants as refusals
use Rattle.wire.specs.declared.messages.Verb.{Verb}
use Rattle.wire.specs.declared.messages.Verb.TheVariants.{Get, Post, Other}
use Rattle.http_api.specs.JsonTexts.{bool_text}
use Rattle.http_api.specs.declared.asks.Denied.{Denied}
use Rattle.http_api.specs.declared.asks.Denied.TheVariants as denials
use Rattle.http_api.specs.declared.failures.Detail.{Detail}
use Rattle.http_api.specs.declared.failures.Detail.TheVariants as details
use Rattle.http_api.specs.declared.replies.Reply.{Reply}
use Rattle.http_api.specs.declared.replies.Reply.TheVariants as replies

-- a failure: the status, the method that is allowed where another one was used, the code and what stands beside it
pub record FailureRow : Type 0 where
  pub status : ℕ
  pub allow : Option Verb
  pub code : List ℕ
  pub detail : Detail

abbrev pub failure_row : ℕ → List ℕ → Detail → FailureRow
failure_row status code detail = record { status = status; allow = None; code = code; detail = detail }

-- another method would do: GET or POST, since no target has any other one
abbrev pub not_allowed : Verb → FailureRow
not_allowed Get = record { status = 405; allow = Some Get; code = codes "NotAllowed"; detail = details.Nothing }
not_allowed Post = record { status = 405; allow = Some Post; code = codes "NotAllowed"; detail = details.Nothing }
not_allowed Other = failure_row 404 (codes "NoRoute") details.Nothing

-- why a request asks nothing
abbrev pub denial_row : Denied → FailureRow
denial_row denials.NoRoute = failure_row 404 (codes "NoRoute") details.Nothing
denial_row (denials.NotAllowed verb) = not_allowed verb
denial_row denials.Json = failure_row 400 (codes "Json") details.Nothing
denial_row (denials.Body member) = failure_row 400 (codes "Body") (details.Member member)
denial_row (denials.Rdb fault) = failure_row 400 (codes "Rdb") (details.Line (line_of fault))
denial_row denials.NoMemory = failure_row 507 (codes "NoMemory") details.Nothing

-- why an edit is refused
abbrev pub refusal_row : Refusal → FailureRow
refusal_row (refusals.RefReused edit) = failure_row 409 (codes "RefReused") (details.Edit edit)
refusal_row refusals.NoStation = failure_row 409 (codes "NoStation") details.Nothing
refusal_row refusals.StationExists = failure_row 409 (codes "StationExists") details.Nothing
refusal_row (refusals.Limit which) = failure_row 409 (codes "Limit") (details.Limit which)
refusal_row refusals.NoRating = failure_row 409 (codes "NoRating") details.Nothing
refusal_row refusals.RatingExists = failure_row 409 (codes "RatingExists") details.Nothing
refusal_row (refusals.PeriodOverlap from) = failure_row 409 (codes "PeriodOverlap") (details.From from)
refusal_row refusals.NoEntry = failure_row 409 (codes "NoEntry") details.Nothing
refusal_row (refusals.NotInReview day) = failure_row 409 (codes "NotInReview") (details.Day day)
refusal_row (refusals.SamePerson day) = failure_row 409 (codes "SamePerson") (details.Day day)
refusal_row (refusals.Awaits day edit) = failure_row 409 (codes "Awaits") (details.Awaits day edit)
refusal_row (refusals.NotApproved day) = failure_row 409 (codes "NotApproved") (details.Day day)
refusal_row (refusals.AlreadyApproved day) = failure_row 409 (codes "AlreadyApproved") (details.Day day)
refusal_row (refusals.Locked day) = failure_row 423 (codes "Locked") (details.Day day)
refusal_row (refusals.HistoryFull full) = failure_row 409 (codes "HistoryFull") (details.Full full)
refusal_row refusals.NoComments = failure_row 409 (codes "NoComments") details.Nothing
refusal_row refusals.JournalFull = failure_row 409 (codes "JournalFull") details.Nothing
refusal_row refusals.NoMemory = failure_row 507 (codes "NoMemory") details.Nothing
refusal_row (refusals.JournalFault in_doubt) = failure_row 503 (codes "JournalFault") (details.InDoubt in_doubt)

-- the failure that a reply tells, unless it is an answer
abbrev pub failure_of : Reply → Option FailureRow
failure_of (replies.Edit number repeated) = None
failure_of (replies.Turned pending published) = None
failure_of (replies.Counts edits pending) = None
failure_of (replies.Station station) = None
failure_of (replies.Day day) = None
failure_of (replies.Daily days) = None
failure_of (replies.Sheet text) = None
failure_of (replies.SheetPending edit) = None
failure_of (replies.Measurement departure) = None
failure_of (replies.EditOf edit) = None
failure_of replies.NoStation = Some (failure_row 404 (codes "NoStation") details.Nothing)
failure_of replies.NoMeasurement = Some (failure_row 404 (codes "NoMeasurement") details.Nothing)
failure_of replies.NoEdit = Some (failure_row 404 (codes "NoEdit") details.Nothing)
failure_of (replies.Denied denied) = Some (denial_row denied)
failure_of (replies.Refused refusal) = Some (refusal_row refusal)
failure_of replies.NoLength = Some (failure_row 411 (codes "NoLength") details.Nothing)
failure_of replies.TooLarge = Some (failure_row 413 (codes "TooLarge") details.Nothing)
failure_of replies.Malformed = Some (failure_row 400 (codes "Malformed") details.Nothing)
failure_of replies.NoMemory = Some (failure_row 507 (codes "NoMemory") details.Nothing)

-- the names of limits, and of what is full
abbrev pub which_text : Which → List ℕ
which_text Stations = codes "Stations"
which_text Readings = codes "Readings"
which_text DayReadings = codes "DayReadings"
which_text Ratings = codes "Ratings"
which_text Entries = codes "Entries"
which_text Periods = codes "Periods"
which_text Measurements = codes "Measurements"
which_text Editions = codes "Editions"

abbrev pub full_text : Full → List ℕ
full_text Events = codes "Events"
full_text Cells = codes "Cells"

-- the members for the number of an edit, and for a day
abbrev pub edit_member : ℕ → List ℕ
edit_member edit = codes ",\"edit\":" ++ decimal edit

abbrev pub day_member : ℤ → List ℕ
day_member day = codes ",\"day\":\"" ++ day_text day ++ codes "\""

-- what stands behind the code
abbrev pub detail_text : Detail → List ℕ
detail_text details.Nothing = []
detail_text (details.Edit edit) = edit_member edit
detail_text (details.Day day) = day_member day
detail_text (details.Awaits day edit) = day_member day ++ edit_member edit
detail_text (details.From from) = codes ",\"from\":\"" ++ instant_text from ++ codes "\""
detail_text (details.Line line) = codes ",\"line\":" ++ decimal line
detail_text (details.Limit which) = codes ",\"limit\":\"" ++ which_text which ++ codes "\""
detail_text (details.Full full) = codes ",\"full\":\"" ++ full_text full ++ codes "\""
detail_text (details.Member member) = codes ",\"member\":\"" ++ member_text member ++ codes "\""
detail_text (details.InDoubt in_doubt) = codes ",\"in_doubt\":" ++ bool_text in_doubt

-- the body of a failure
abbrev pub failure_text : FailureRow → List ℕ
failure_text failure = codes "{\"code\":\"" ++ failure.code ++ codes "\"" ++ detail_text failure.detail ++ codes "}"
