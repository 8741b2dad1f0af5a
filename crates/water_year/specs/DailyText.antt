-- The text of daily values, as the web pages of the U.S. Geological Survey write them: a line of names, one of formats, and a row for each
-- day, whose fields stand between tabs (RDB).
use Rattle.std.specs.Prelude.{ℕ, Bool, true, false, List, [], ◌∷◌, ◌++◌, codes, decimal, flat_map, if◌then◌else◌}
use Rattle.std.specs.List.{join_with_byte}
use Rattle.civil_days.specs.Texts.{day_text}
use Rattle.fixed_units.specs.PublishedText.{published_text}
use Rattle.fixed_units.specs.Quantities.{SiteNumber}
use Rattle.site_texts.specs.SiteText.{site_text}
use Rattle.water_year.specs.declared.rows.DailyRow.{DailyRow}
use Rattle.water_year.specs.declared.rows.RowState.{RowState}
use Rattle.water_year.specs.declared.rows.RowState.TheVariants as states

-- a line of these fields
abbrev pub fields_line : List (List ℕ) → List ℕ
fields_line fields = join_with_byte 9 fields ++ codes "\n"

-- what stands before the rows
abbrev pub names : List (List ℕ)
names = codes "agency_cd" ∷ codes "site_no" ∷ codes "datetime" ∷ codes "discharge" ∷ codes "discharge_cd" ∷ []

abbrev pub formats : List (List ℕ)
formats = codes "5s" ∷ codes "15s" ∷ codes "20d" ∷ codes "14n" ∷ codes "10s" ∷ []

abbrev pub head_text : List ℕ
head_text = codes "# daily values\n" ++ fields_line names ++ fields_line formats

-- the published discharge, which is empty where there is none
abbrev pub discharge_text : RowState → List ℕ
discharge_text (states.Pending edit) = []
discharge_text (states.Value value) = published_text value
discharge_text states.Absent = []

-- an approved day or a provisional one, and behind that whether the discharge is an estimate
abbrev pub state_code : Bool → Bool → List ℕ
state_code approved estimated = (if approved then codes "A" else codes "P") ++ (if estimated then codes ":e" else [])

-- the code of a day: the edit that it awaits, or else its state
abbrev pub code_text : RowState → Bool → Bool → List ℕ
code_text (states.Pending edit) approved estimated = codes "PEND:" ++ decimal edit
code_text (states.Value value) approved estimated = state_code approved estimated
code_text states.Absent approved estimated = state_code approved estimated

-- the row of a day
abbrev pub row_fields : SiteNumber → DailyRow → List (List ℕ)
row_fields site row =
    codes "LOCAL" ∷ site_text site ∷ day_text row.day ∷ discharge_text row.state ∷ code_text row.state row.approved row.estimated ∷ []

abbrev pub row_text : SiteNumber → DailyRow → List ℕ
row_text site row = fields_line (row_fields site row)

-- the whole text
abbrev pub daily_text : SiteNumber → List DailyRow → List ℕ
daily_text site rows = head_text ++ flat_map (row_text site) rows
