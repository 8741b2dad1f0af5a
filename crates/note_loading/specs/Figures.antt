-- The lines that tell the discharges of notes.
use Rattle.std.specs.Prelude.{ℕ, suc, ◌+◌, List, [], ◌∷◌, ◌++◌, slice_get, Option, None, Some, option_map, unwrap_or, codes, decimal, ℤ}
use Rattle.std.specs.List.{concat}
use Rattle.fixed_units.specs.PublishedText.{hundredths_text, micro_text}
use Rattle.midsection.specs.Midsection.{discharges, share_of, total}
use Rattle.midsection.specs.declared.verticals.Vertical.{Vertical}

-- the front of a vertical's line, with its number from 1
abbrev pub place_text : ℕ → List ℕ
place_text number = codes "VERTICAL " ++ decimal number

-- its discharge, with six decimals
abbrev pub discharge_text : ℤ → List ℕ
discharge_text discharge = codes " Q " ++ micro_text discharge

-- its share of the total with two decimals, or a dash where there is none, and the end of the line
abbrev pub share_text : Option ℤ → List ℕ
share_text None = codes "-"
share_text (Some hundredths) = hundredths_text hundredths

abbrev pub share_end : Option ℤ → List ℕ
share_end share = codes " SHARE " ++ share_text share ++ codes "\n"

abbrev pub vertical_line : ℕ → ℤ → Option ℤ → List ℕ
vertical_line number discharge share = place_text number ++ discharge_text discharge ++ share_end share

-- the lines of discharges that are counted from a number on
unfoldable pub lines_from : ℕ → ℤ → List ℤ → List (List ℕ)
lines_from number total [] = []
lines_from number total (q ∷ qs) = vertical_line number q (share_of total q) ∷ lines_from (suc number) total qs

abbrev pub verticals_text : List Vertical → List ℕ
verticals_text verticals = concat (lines_from 1 (total verticals) (discharges verticals))

-- the line of the vertical at a place
abbrev pub line_of : ℕ → ℤ → Option ℤ → List ℕ
line_of number total None = []
line_of number total (Some q) = vertical_line number q (share_of total q)

abbrev pub line_at : List Vertical → ℕ → List ℕ
line_at verticals place = line_of (place + 1) (total verticals) (slice_get (discharges verticals) place)

-- the line of the total
abbrev pub total_line : ℤ → List ℕ
total_line total = codes "TOTAL " ++ micro_text total ++ codes "\n"

-- all lines of notes
abbrev pub figures_text : List Vertical → List ℕ
figures_text verticals = verticals_text verticals ++ total_line (total verticals)
