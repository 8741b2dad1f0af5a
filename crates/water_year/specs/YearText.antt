-- The text of the table of a water year, in lines of ASCII.
use Rattle.std.specs.Prelude.{ℕ, ◌*◌, ◌==◌, ◌^◌, Bool, true, false, List, [], ◌∷◌, ◌++◌, codes, decimal, flat_map, map, zip, if◌then◌else◌, ℤ, pos, ◌*ℤ◌}
use Rattle.fixed_units.specs.Published.{published}
use Rattle.fixed_units.specs.PublishedText.{micro_text, published_text}
use Rattle.fixed_units.specs.Quantities.{SiteNumber}
use Rattle.fixed_units.specs.Rounding.{round}
use Rattle.site_texts.specs.SiteText.{site_text}
use Rattle.water_year.specs.declared.tables.Month.{Month}
use Rattle.water_year.specs.declared.tables.Year.{Year}

-- the names of the months of a water year, in order
abbrev pub month_names : List (List ℕ)
month_names =
    codes "OCT" ∷ codes "NOV" ∷ codes "DEC" ∷ codes "JAN" ∷ codes "FEB" ∷ codes "MAR" ∷ codes "APR" ∷ codes "MAY" ∷ codes "JUN" ∷ codes "JUL"
    ∷ codes "AUG" ∷ codes "SEP" ∷ []

-- the volume of a total of daily discharges in whole acre-feet, rounded once: a cubic foot per second for a day is 86,400 cubic feet, an
-- acre-foot is 43,560, and the total is in millionths
abbrev pub acre_feet : ℤ → ℤ
acre_feet total = round (total *ℤ pos 240) (pos (121 * 10 ^ 6))

-- a whole number, with a minus where it is below 0
abbrev pub whole_text : ℤ → List ℕ
whole_text number = published_text (record { units = number; places = 0 })

-- the mean of a total over so many days, published
abbrev pub mean_text : List ℕ → ℤ → ℕ → List ℕ
mean_text array total days = published_text (published array total (pos days))

-- the figures of a month of which no day is missing: the total and the mean, the extremes, the volume
abbrev pub sums_text : List ℕ → Month → List ℕ
sums_text array month = codes " TOTAL " ++ micro_text month.total ++ codes " MEAN " ++ mean_text array month.total month.days

abbrev pub extremes_text : Month → List ℕ
extremes_text month = codes " MAX " ++ micro_text month.most ++ codes " MIN " ++ micro_text month.least

abbrev pub volume_text : Month → List ℕ
volume_text month = codes " ACFT " ++ whole_text (acre_feet month.total)

abbrev pub figures_text : List ℕ → Month → List ℕ
figures_text array month = sums_text array month ++ extremes_text month ++ volume_text month

-- these, or how many days are missing
abbrev pub told_text : List ℕ → Month → List ℕ
told_text array month = if month.missing == 0 then figures_text array month else codes " MISSING " ++ decimal month.missing

-- the line of a month, or of the whole year, behind its name
abbrev pub month_line : List ℕ → List ℕ × Month → List ℕ
month_line array named = named.0 ++ codes " DAYS " ++ decimal named.1.days ++ told_text array named.1 ++ codes "\n"

-- the line of the year and the site, and that of the state
abbrev pub title_line : ℕ → SiteNumber → List ℕ
title_line year site = codes "WATER YEAR " ++ decimal year ++ codes " " ++ site_text site ++ codes "\n"

abbrev pub state_line : Bool → List ℕ
state_line true = codes "STATE A\n"
state_line false = codes "STATE P\n"

-- the whole text
abbrev pub year_text : ℕ → SiteNumber → List ℕ → Year → List ℕ
year_text year site array table =
    title_line year site ++ flat_map (month_line array) (zip month_names table.months) ++ month_line array (codes "YEAR", table.whole)
    ++ state_line table.approved
