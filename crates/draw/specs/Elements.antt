-- The elements of a picture, as SVG 1.1 has them: paths (section 8.3) and texts (section 10.4).
use Rattle.std.specs.Prelude.{ℕ, List, ◌++◌, codes, decimal}

-- a path of a class, around its marks
unfoldable pub start_text : List ℕ → List ℕ
start_text class = codes "<path class=\"" ++ (class ++ codes "\" d=\"")

unfoldable pub end_text : List ℕ
end_text = codes "\"/>\n"

abbrev pub path_around : List ℕ → List ℕ → List ℕ
path_around class marks = start_text class ++ (marks ++ end_text)

-- a move to a place
unfoldable pub move_text : ℕ → ℕ → List ℕ
move_text x y = codes "M" ++ (decimal x ++ (codes " " ++ decimal y))

-- a level line from one place across to another, and an upright one
unfoldable pub level_text : ℕ → ℕ → ℕ → List ℕ
level_text from to y = move_text from y ++ (codes "H" ++ decimal to)

unfoldable pub upright_text : ℕ → ℕ → ℕ → List ℕ
upright_text x from to = move_text x from ++ (codes "V" ++ decimal to)

-- an area from one place across to another, between two heights
unfoldable pub area_text : ℕ → ℕ → ℕ → ℕ → List ℕ
area_text from to top bottom =
    level_text from to top ++ (codes "V" ++ (decimal bottom ++ (codes "H" ++ (decimal from ++ codes "Z"))))

-- a tick of ten units, downwards
unfoldable pub tick_text : ℕ → ℕ → List ℕ
tick_text x y = move_text x y ++ codes "v10"

-- a cross whose middle is at a place
unfoldable pub cross_text : ℕ → ℕ → List ℕ
cross_text x y = move_text x y ++ codes "m-6-6l12 12m0-12l-12 12"

-- a text of a class that stands at a place
unfoldable pub place_text : ℕ → ℕ → List ℕ
place_text x y = codes "\" x=\"" ++ (decimal x ++ (codes "\" y=\"" ++ (decimal y ++ codes "\">")))

unfoldable pub label_start : List ℕ → ℕ → ℕ → List ℕ
label_start class x y = codes "<text class=\"" ++ (class ++ place_text x y)

unfoldable pub label_end : List ℕ
label_end = codes "</text>\n"

abbrev pub label : List ℕ → ℕ → ℕ → List ℕ → List ℕ
label class x y text = label_start class x y ++ (text ++ label_end)
