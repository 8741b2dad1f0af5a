-- The daily table: comma-separated lines, a line of names and a row for each day.
use Rattle.std.specs.Prelude.{ℕ, ℤ, List, [], ◌∷◌, codes, decimal, Bool, true, false, Option, Some, None, is_some}
use Rattle.std.specs.List.{flat_map}
use Rattle.approval.specs.declared.status.Status.{Status}
use Rattle.approval.specs.declared.status.Status.TheVariants.{Working, InReview, Approved}
use Rattle.civil_days.specs.Texts.{day_text}
use Rattle.csv.specs.Writing.{row_text, default_writer}
use Rattle.daily_values.specs.Figures.{mean_stage, published_discharge}
use Rattle.daily_values.specs.declared.day_values.DayValue.{DayValue}
use Rattle.daily_values.specs.declared.day_values.DayValue.TheVariants as values
use Rattle.fixed_units.specs.PublishedText.{published_text}
use Rattle.fixed_units.specs.declared.published.Published.{Published}
use Rattle.http_api.specs.declared.days.DayAnswer.{DayAnswer}
use Rattle.http_api.specs.declared.days.DayAnswer.TheVariants.{Pending, Computed}
use Rattle.http_api.specs.declared.days.DayReply.{DayReply}

-- a row: the texts of its fields
abbrev pub Row : Type 0
Row = List (List ℕ)

-- the names of the columns
abbrev pub names : Row
names =
    codes "day" ∷ codes "answer" ∷ codes "edit" ∷ codes "discharge" ∷ codes "stage" ∷ codes "mark" ∷ codes "estimated" ∷ []

-- approved days are marked `A`, all others, which are provisional, `P`
abbrev pub mark : Status → List ℕ
mark Working = codes "P"
mark (InReview by) = codes "P"
mark (Approved by) = codes "A"

-- a number, or an empty field
abbrev pub number_or_empty : Option ℕ → List ℕ
number_or_empty None = []
number_or_empty (Some number) = decimal number

-- a published value, or an empty field
abbrev pub published_or_empty : Option Published → List ℕ
published_or_empty None = []
published_or_empty (Some value) = published_text value

-- `e` where the discharge is an estimate
abbrev pub estimate_mark : Bool → List ℕ
estimate_mark true = codes "e"
estimate_mark false = []

-- the row of a day: what is answered for it, the edit that it awaits, its published discharge and mean stage, its status, and whether the
-- discharge is an estimate
abbrev pub row : ℤ → List ℕ → Option ℕ → Option Published → Option Published → Status → Bool → Row
row day answer edit discharge stage status estimated =
    day_text day ∷ answer ∷ number_or_empty edit ∷ published_or_empty discharge ∷ published_or_empty stage ∷ mark status
    ∷ estimate_mark estimated ∷ []

-- that of a day that awaits an edit, and of one that was computed
abbrev pub pending_row : ℤ → ℕ → Status → Row
pending_row day edit status = row day (codes "pending") (Some edit) None None status false

abbrev pub value_row : ℤ → DayValue → Status → Row
value_row day values.Empty status = row day (codes "empty") None None None status false
value_row day (values.Day figures) status =
    row day (codes "computed") None (published_discharge figures) (mean_stage figures) status (is_some figures.estimate)

abbrev pub answer_row : ℤ → DayAnswer → Status → Row
answer_row day (Pending edit) status = pending_row day edit status
answer_row day (Computed value) status = value_row day value.now status

abbrev pub row_of : DayReply → Row
row_of day = answer_row day.day day.answer day.status

-- the table: a line of names and one of each row, as `csv` writes them
abbrev pub table_text : List Row → List ℕ
table_text rows = flat_map (row_text default_writer) (names ∷ rows)
