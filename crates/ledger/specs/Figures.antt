-- The figures of an edit: what it says beside its sender, each by the name that a body has for it.
use Rattle.std.specs.Prelude.{ℕ, Bool, true, false, List, [], ◌∷◌, ◌++◌, codes, decimal, flat_map, map, Option, Some, None, ℤ}
use Rattle.civil_days.specs.Texts.{day_text, instant_text}
use Rattle.edit_bodies.specs.Members.{member_text}
use Rattle.edit_bodies.specs.declared.members.Member.{Member}
use Rattle.edit_bodies.specs.declared.members.Member.TheVariants.{Name, Zone, Gap, StageArray, DischargeArray, Readings, To, Flag, Set, At, Points, Prorate, Rating, Rows, From, Until, Day, Number, Gage, Discharge, Grade, Decision, Least}
use Rattle.edits.specs.declared.content.What.{What}
use Rattle.edits.specs.declared.content.What.TheVariants.{AddStation, SetStation, PutReadings, DropReadings, FlagReadings, PutCorrection, DropCorrection, PutShift, DropShift, AddRating, PutPeriod, DropPeriod, PutEstimate, DropEstimate, PutMeasurement, DropMeasurement, Review, Decide, SetEdition}
use Rattle.edits.specs.declared.decisions.Decision.TheVariants.{Approve, Rescind}
use Rattle.edits.specs.declared.decisions.Decision as decisions
use Rattle.edits.specs.declared.measurements.Grade as grades
use Rattle.edits.specs.declared.measurements.Grade.TheVariants.{Excellent, Good, Fair, Poor}
use Rattle.fixed_units.specs.PublishedText.{micro_text}
use Rattle.fixed_units.specs.declared.readings.Flag as flags
use Rattle.fixed_units.specs.declared.readings.Flag.TheVariants.{Usable, Erroneous, Affected}
use Rattle.fixed_units.specs.declared.readings.Reading.{Reading}
use Rattle.json.specs.Print.{quoted}
use Rattle.ledger.specs.declared.figures.Style.{Style}
use Rattle.ledger.specs.declared.figures.Style.TheVariants.{OfABody, OfALine}
use Rattle.ledger.specs.declared.figures.Value.{Value}
use Rattle.ledger.specs.declared.figures.Value.TheVariants as values

-- what a figure states: a word, which has no character that JSON escapes, any other text, a whole number, yes or no, nothing, or rows of words
pub data Stated : Type 0 where
  word : List ℕ → Stated
  text : List ℕ → Stated
  whole : ℕ → Stated
  mark : Bool → Stated
  nothing : Stated
  rows : List (List (List ℕ)) → Stated

abbrev pub Figure : Type 0
Figure = Member × Stated

-- the words of flags, grades and decisions
abbrev pub flag_text : flags.Flag → List ℕ
flag_text Usable = codes "ok"
flag_text Erroneous = codes "erroneous"
flag_text Affected = codes "affected"

abbrev pub grade_text : grades.Grade → List ℕ
grade_text Excellent = codes "excellent"
grade_text Good = codes "good"
grade_text Fair = codes "fair"
grade_text Poor = codes "poor"

abbrev pub decision_text : decisions.Decision → List ℕ
decision_text Approve = codes "approve"
decision_text Rescind = codes "rescind"

-- an instant, a day, and a quantity with all its six decimals
abbrev pub instant : ℤ → Stated
instant at = word (instant_text at)

abbrev pub day : ℤ → Stated
day number = word (day_text number)

abbrev pub quantity : ℤ → Stated
quantity millionths = word (micro_text millionths)

-- what may lack
abbrev pub optional : {A : Type 0} → (A → Stated) → Option A → Stated
optional states None = nothing
optional states (Some x) = states x

-- a reading as a row: its instant, its stage, and its flag unless it is usable
abbrev pub flag_cells : flags.Flag → List (List ℕ)
flag_cells Usable = []
flag_cells Erroneous = flag_text Erroneous ∷ []
flag_cells Affected = flag_text Affected ∷ []

abbrev pub reading_row : Reading → List (List ℕ)
reading_row reading = instant_text reading.at ∷ micro_text reading.raw ∷ flag_cells reading.flag

-- a point of a curve, or a row of a rating: two quantities
abbrev pub pair_row : ℤ × ℤ → List (List ℕ)
pair_row pair = micro_text pair.0 ∷ micro_text pair.1 ∷ []

abbrev pub pairs : List (ℤ × ℤ) → Stated
pairs ps = rows (map pair_row ps)

-- the figures of each kind of edit
abbrev pub figures : What → List Figure
figures (AddStation name zone gap stage_array discharge_array) =
    (Name, text name) ∷ (Zone, text zone) ∷ (Gap, whole gap) ∷ (StageArray, word stage_array) ∷ (DischargeArray, word discharge_array) ∷ []
figures (SetStation name gap stage_array discharge_array) =
    (Name, text name) ∷ (Gap, whole gap) ∷ (StageArray, word stage_array) ∷ (DischargeArray, word discharge_array) ∷ []
figures (PutReadings readings) = (Readings, rows (map reading_row readings)) ∷ []
figures (DropReadings from to) = (From, instant from) ∷ (To, instant to) ∷ []
figures (FlagReadings from to flag) = (From, instant from) ∷ (To, instant to) ∷ (Flag, word (flag_text flag)) ∷ []
figures (PutCorrection set at curve prorate) = (Set, whole set) ∷ (At, instant at) ∷ (Points, pairs curve) ∷ (Prorate, mark prorate) ∷ []
figures (DropCorrection set at) = (Set, whole set) ∷ (At, instant at) ∷ []
figures (PutShift at curve prorate) = (At, instant at) ∷ (Points, pairs curve) ∷ (Prorate, mark prorate) ∷ []
figures (DropShift at) = (At, instant at) ∷ []
figures (AddRating rating table) = (Rating, whole rating) ∷ (Rows, pairs table) ∷ []
figures (PutPeriod period) = (Rating, whole period.rating) ∷ (From, instant period.from) ∷ (Until, optional instant period.until) ∷ []
figures (DropPeriod from) = (From, instant from) ∷ []
figures (PutEstimate estimate) = (Day, day estimate.day) ∷ (Discharge, quantity estimate.discharge) ∷ []
figures (DropEstimate number) = (Day, day number) ∷ []
figures (PutMeasurement m) =
    (Number, whole m.number) ∷ (At, instant m.at) ∷ (Gage, quantity m.gage) ∷ (Discharge, quantity m.discharge) ∷ (Grade, word (grade_text m.grade)) ∷ []
figures (DropMeasurement number) = (Number, whole number) ∷ []
figures (Review from to) = (From, day from) ∷ (To, day to) ∷ []
figures (Decide from to decision) = (From, day from) ∷ (To, day to) ∷ (Decision, word (decision_text decision)) ∷ []
figures (SetEdition number least) = (Day, day number) ∷ (Least, optional whole least) ∷ []

-- texts with commas between
abbrev pub joined : List (List ℕ) → List ℕ
joined [] = []
joined (first ∷ others) = first ++ flat_map (λ other. 44 ∷ other) others

-- a word in quotes, and a row of words
abbrev pub word_text : List ℕ → List ℕ
word_text letters = 34 ∷ letters ++ 34 ∷ []

abbrev pub row_text : List (List ℕ) → List ℕ
row_text cells = codes "[" ++ joined (map word_text cells) ++ codes "]"

abbrev pub mark_text : Bool → List ℕ
mark_text true = codes "true"
mark_text false = codes "false"

-- how the row of a reading ends
abbrev pub row_end : flags.Flag → List ℕ
row_end Usable = codes "]"
row_end Erroneous = codes ",\"erroneous\"]"
row_end Affected = codes ",\"affected\"]"

-- what a figure states, as JSON spells it
abbrev pub stated_text : Stated → List ℕ
stated_text (word letters) = word_text letters
stated_text (text letters) = quoted letters
stated_text (whole n) = decimal n
stated_text (mark truth) = mark_text truth
stated_text nothing = codes "null"
stated_text (rows cells) = codes "[" ++ joined (map row_text cells) ++ codes "]"

-- a figure behind others: as a member of a body, or as a field of a line
abbrev pub figure_text : Style → Figure → List ℕ
figure_text OfABody figure = codes ",\"" ++ member_text figure.0 ++ codes "\":" ++ stated_text figure.1
figure_text OfALine figure = codes "\t" ++ member_text figure.0 ++ codes "=" ++ stated_text figure.1

-- all figures of an edit
abbrev pub figures_text : Style → What → List ℕ
figures_text style what = flat_map (figure_text style) (figures what)

-- what a figure of the code states
abbrev pub stated : Value → Stated
stated (values.Word letters) = word letters.now
stated (values.Text letters) = text letters.now
stated (values.Array digits) = word digits
stated (values.Instant at) = instant at
stated (values.Day number) = day number
stated (values.Quantity millionths) = quantity millionths
stated (values.Whole n) = whole n
stated (values.Mark truth) = mark truth
stated values.Nothing = nothing
stated (values.Readings readings) = rows (map reading_row readings.now)
stated (values.Pairs ps) = pairs ps.now

abbrev pub figure : Member × Value → Figure
figure held = (held.0, stated held.1)
