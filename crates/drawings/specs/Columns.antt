-- Points thinned by columns: of those that stand one above another and are joined, a line from the least to the greatest is the picture.
use Rattle.std.specs.Prelude.{ℕ, Bool, true, false, ◌&&◌, ◌==◌, min, max, decimal, if◌then◌else◌, List, [], ◌∷◌, ◌++◌, codes, flat_map, fold, map}
use Rattle.drawings.specs.declared.columns.Point.{Point}
use Rattle.drawings.specs.declared.columns.Stroke.{Stroke}

-- a point goes on a column at x
abbrev pub goes_on : ℕ → Point → Bool
goes_on x p = p.joined && (p.x == x)

-- a point in front of the columns behind it: of the first of them where that goes on at its x, or of a column of its own
abbrev pub in_front : Point → List (List Point) → List (List Point)
in_front p [] = (p ∷ []) ∷ []
in_front p ([] ∷ columns) = (p ∷ []) ∷ columns
in_front p ((q ∷ column) ∷ columns) = if goes_on p.x q then (p ∷ q ∷ column) ∷ columns else (p ∷ []) ∷ (q ∷ column) ∷ columns

-- the columns of points, in order
unfoldable pub columns : List Point → List (List Point)
columns [] = []
columns (p ∷ points) = in_front p (columns points)

-- the least, the greatest and the last of the heights of points, behind one height
abbrev pub heights : List Point → List ℕ
heights points = map (λ p. p.y) points

abbrev pub lowest : ℕ → List Point → ℕ
lowest y points = fold min y (heights points)

abbrev pub highest : ℕ → List Point → ℕ
highest y points = fold max y (heights points)

abbrev pub final : ℕ → List Point → ℕ
final y points = fold (λ before height. height) y (heights points)

-- what is kept of a column that begins with a point: the first, the least, the greatest and the last height
abbrev pub stroke_from : Point → List Point → Stroke
stroke_from p points =
    record { x = p.x; joined = p.joined; first = p.y; low = lowest p.y points; high = highest p.y points; last = final p.y points }

abbrev pub strokes_of : List Point → List Stroke
strokes_of [] = []
strokes_of (p ∷ points) = stroke_from p points ∷ []

-- the strokes of all columns
abbrev pub thinned : List Point → List Stroke
thinned points = flat_map strokes_of (columns points)

-- the text of a stroke, as a path has it: from the stroke before with a line (`L`) or none (`M`), then up and down (`V`), where that
-- leads anywhere
abbrev pub letter : Bool → List ℕ
letter true = codes "L"
letter false = codes "M"

abbrev pub turn : ℕ → ℕ → List ℕ
turn from to = if from == to then [] else codes "V" ++ decimal to

abbrev pub start_text : Stroke → List ℕ
start_text s = letter s.joined ++ (decimal s.x ++ (codes " " ++ decimal s.first))

abbrev pub turns_text : Stroke → List ℕ
turns_text s = turn s.first s.low ++ (turn s.low s.high ++ turn s.high s.last)

abbrev pub stroke_text : Stroke → List ℕ
stroke_text s = start_text s ++ turns_text s

-- the text of a path of points
abbrev pub path_text : List Point → List ℕ
path_text points = flat_map stroke_text (thinned points)
