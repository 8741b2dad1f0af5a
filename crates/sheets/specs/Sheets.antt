-- The text of a primary computation sheet: what a day's value says, in lines of ASCII.
use Rattle.std.specs.Prelude.{ℕ, ◌≤◌, ℤ, Bool, true, false, List, [], ◌∷◌, ◌++◌, codes, decimal, Option, Some, None, is_some}
use Rattle.std.specs.List.{flat_map}
use Rattle.fixed_units.specs.PublishedText.{micro_text, published_text}
use Rattle.fixed_units.specs.Quantities.{SiteNumber}
use Rattle.site_texts.specs.SiteText.{site_text}
use Rattle.fixed_units.specs.declared.published.Published.{Published}
use Rattle.civil_days.specs.Texts.{day_text, instant_text}
use Rattle.unit_discharge.specs.declared.unit_values.Unit.{Unit}
use Rattle.daily_values.specs.DayValue.{discharge_of}
use Rattle.daily_values.specs.Figures.{DayFigures, mean_discharge, mean_stage, published_discharge}
use Rattle.daily_values.specs.declared.counts.Counts.{Counts}
use Rattle.daily_values.specs.declared.day_values.DayValue.{DayValue}
use Rattle.daily_values.specs.declared.day_values.DayValue.TheVariants as values
use Rattle.daily_values.specs.declared.extremes.Extremes.{Extremes}

-- the site and the day
unfoldable pub title_line : SiteNumber → ℤ → List ℕ
title_line site day = codes "PRIMARY COMPUTATION " ++ site_text site ++ codes " " ++ day_text day

-- the day is approved, or all of it is provisional
abbrev pub state_line : Bool → List ℕ
state_line true = codes "STATE A"
state_line false = codes "STATE P"

-- a number behind its name
abbrev pub count_line : List ℕ → ℕ → List ℕ
count_line name count = name ++ codes " " ++ decimal count

-- the edition that the day's means go by: the first, of the whole day, or the second, of a least cover in minutes
abbrev pub edition_line : Option ℕ → List ℕ
edition_line None = codes "EDITION 1"
edition_line (Some least) = codes "EDITION 2 LEAST " ++ decimal least

-- the readings that have no discharge, by the reason
unfoldable pub missing_line : Counts → List ℕ
missing_line counts =
    codes "MISSING AFFECTED " ++ decimal counts.affected ++ codes " NORATING " ++ decimal counts.no_rating
    ++ codes " BELOW " ++ decimal counts.below ++ codes " ABOVE " ++ decimal counts.above

-- a published value, or a dash
abbrev pub published_or_dash : Option Published → List ℕ
published_or_dash None = codes "-"
published_or_dash (Some value) = published_text value

-- a mean behind its name, and the seconds that it covers
abbrev pub mean_line : List ℕ → Option Published → ℕ → List ℕ
mean_line name mean covered = name ++ codes " " ++ published_or_dash mean ++ codes " COVERED " ++ decimal covered

-- a quantity with its six decimals, or a dash
abbrev pub amount_or_dash : Option ℤ → List ℕ
amount_or_dash None = codes "-"
amount_or_dash (Some amount) = micro_text amount

-- a unit value whole: its instant, the stage as read, its correction, the corrected stage, the shift and the discharge
unfoldable pub unit_text : Unit → List ℕ
unit_text u =
    instant_text u.at ++ codes " RAW " ++ micro_text u.raw ++ codes " CORR " ++ micro_text u.correction
    ++ codes " STAGE " ++ micro_text u.stage ++ codes " SHIFT " ++ micro_text u.shift ++ codes " DISCHARGE " ++ amount_or_dash (discharge_of u)

-- an extreme behind its name, or a dash
abbrev pub unit_or_dash : Option Unit → List ℕ
unit_or_dash None = codes "-"
unit_or_dash (Some u) = unit_text u

abbrev pub extreme_line : List ℕ → Option Unit → List ℕ
extreme_line name extreme = name ++ codes " " ++ unit_or_dash extreme

-- what is published for the day, marked where a person estimated it
abbrev pub estimate_mark : Bool → List ℕ
estimate_mark true = codes " e"
estimate_mark false = []

unfoldable pub published_line : Option Published → Bool → List ℕ
published_line value estimated = codes "PUBLISHED " ++ published_or_dash value ++ estimate_mark estimated

-- the lines of a day with figures: its length, its edition and its readings, its means, its extremes, and what is published for it
unfoldable pub counts_lines : ℕ → Option ℕ → Counts → List (List ℕ)
counts_lines seconds least counts =
    count_line (codes "LENGTH") seconds ∷ edition_line least ∷ count_line (codes "READINGS") counts.readings ∷ missing_line counts ∷ []

unfoldable pub means_lines : DayFigures → List (List ℕ)
means_lines figures =
    mean_line (codes "STAGE") (mean_stage figures) figures.stage.covered
    ∷ mean_line (codes "DISCHARGE") (mean_discharge figures) figures.discharge.covered ∷ []

unfoldable pub extremes_lines : Extremes → List (List ℕ)
extremes_lines extremes =
    extreme_line (codes "MAX STAGE") extremes.max_stage ∷ extreme_line (codes "MIN STAGE") extremes.min_stage
    ∷ extreme_line (codes "MAX DISCHARGE") extremes.max_discharge ∷ extreme_line (codes "MIN DISCHARGE") extremes.min_discharge ∷ []

abbrev pub figures_lines : DayFigures → List (List ℕ)
figures_lines figures =
    counts_lines figures.length figures.least figures.counts ++ means_lines figures ++ extremes_lines figures.extremes
    ++ published_line (published_discharge figures) (is_some figures.estimate) ∷ []

abbrev pub value_lines : DayValue → List (List ℕ)
value_lines values.Empty = codes "EMPTY" ∷ []
value_lines (values.Day figures) = figures_lines figures

-- the lines of a sheet
abbrev pub sheet_lines : SiteNumber → ℤ → DayValue → Bool → List (List ℕ)
sheet_lines site day value approved = title_line site day ∷ state_line approved ∷ value_lines value

-- its text: each line with a line feed behind it
abbrev pub ended : List ℕ → List ℕ
ended line = line ++ codes "\n"

abbrev pub sheet : SiteNumber → ℤ → DayValue → Bool → List ℕ
sheet site day value approved = flat_map ended (sheet_lines site day value approved)

-- how many bytes a sheet may have
pub record IsSheetSize (bytes : ℕ) : Type 0 where
  pub some : 1 ≤ bytes
  pub most : bytes ≤ 2400
