-- The frames of a picture: their axes, the lines of their grids, and the numbers beside them.
use Rattle.std.specs.Prelude.{◌≡◌, ⊤, ℕ, zero, suc, ◌+◌, ◌-◌, if◌then◌else◌, List, [], ◌++◌, codes, Option, None, Some, ℤ, pos, ◌-ℤ◌, ◌≤ℤ◌, IsSomeAnd}
use Rattle.std.specs.Int.{int_div_euclid, int_rem_euclid}
use Rattle.std.specs.Ordering.{int_eq}
use Rattle.drawings.specs.Axes.{place}
use Rattle.drawings.specs.Ranges.{above, floor_to, round_step, tick}
use Rattle.drawings.specs.declared.axes.Axis.{Axis}
use Rattle.drawings.specs.declared.ranges.Range.{Range}
use Rattle.fixed_units.specs.PublishedText.{published_text}
use Rattle.fixed_units.specs.declared.published.Published.{Published}
use Rattle.draw.specs.Elements.{area_text, label, level_text, path_around}
use Rattle.draw.specs.declared.frames.Frame.{Frame}
use Rattle.draw.specs.declared.frames.Numbers.{Numbers}

-- time goes from the first instant of a span to the last one, from the left side of the frames to the right one
pub record IsTimeAxisFrom (first last : ℤ) (axis : Axis) : Type 0 where
  pub least : axis.least ≡ first
  pub greatest : axis.greatest ≡ last
  pub start : axis.start ≡ 100
  pub end : axis.end ≡ 1_140

abbrev pub IsTimeAxis : Option (ℤ × ℤ) → Axis → Type 0
IsTimeAxis None axis = ⊥
IsTimeAxis (Some span) axis = IsTimeAxisFrom span.0 span.1 axis

-- there are no two instants
abbrev pub IsNoSpan : Option (ℤ × ℤ) → Type 0
IsNoSpan None = ⊤
IsNoSpan (Some span) = span.1 ≤ℤ span.0

-- the numbers of a spread have the round range around it, and go from the lower side of a frame to the upper one
pub record IsNumbers (spread : ℤ × ℤ) (top bottom : ℕ) (numbers : Numbers) : Type 0 where
  pub step : numbers.range.step ≡ round_step (spread.1 -ℤ spread.0)
  pub least : numbers.range.least ≡ floor_to numbers.range.step spread.0
  pub greatest : numbers.range.greatest ≡ above numbers.range.step spread.1
  pub from : numbers.axis.least ≡ numbers.range.least
  pub to : numbers.axis.greatest ≡ numbers.range.greatest
  pub start : numbers.axis.start ≡ bottom
  pub end : numbers.axis.end ≡ top

abbrev pub IsNumbersOf : Option (ℤ × ℤ) → ℕ → ℕ → Option Numbers → Type 0
IsNumbersOf None top bottom numbers = numbers ≡ None
IsNumbersOf (Some spread) top bottom numbers = IsSomeAnd numbers (IsNumbers spread top bottom)

pub record IsFrame (spread : Option (ℤ × ℤ)) (top bottom : ℕ) (frame : Frame) : Type 0 where
  pub top_is : frame.top ≡ top
  pub bottom_is : frame.bottom ≡ bottom
  pub numbers : IsNumbersOf spread top bottom frame.numbers

-- where a number stands in a frame, if there is one
abbrev pub height_in : Option Numbers → Option ℤ → Option ℕ
height_in None number = None
height_in (Some numbers) None = None
height_in (Some numbers) (Some n) = place numbers.axis n

abbrev pub height_of : Frame → Option ℤ → Option ℕ
height_of frame number = height_in frame.numbers number

-- a number of millionths with as many decimals as the step has
unfoldable pub shown : ℤ → ℤ → Published
shown n step =
    if int_eq (int_rem_euclid step (pos 1_000_000)) (pos 0) then record { units = int_div_euclid n (pos 1_000_000); places = 0 }
    else (if int_eq (int_rem_euclid step (pos 10_000)) (pos 0) then record { units = int_div_euclid n (pos 10_000); places = 2 }
    else record { units = n; places = 6 })

-- a line at the height of a number, and the number beside it
unfoldable pub amount : Published → ℕ → List ℕ
amount number y = label (codes "left") 92 (y + 4) (published_text number)

unfoldable pub number_text_at : Published → ℕ → List ℕ
number_text_at number y = path_around (codes "grid") (level_text 100 1_140 y) ++ amount number y

unfoldable pub number_at : Published → Option ℕ → List ℕ
number_at number None = []
number_at number (Some y) = number_text_at number y

unfoldable pub number_on : Numbers → Option ℤ → List ℕ
number_on numbers None = []
number_on numbers (Some n) = number_at (shown n numbers.range.step) (place numbers.axis n)

unfoldable pub number_text : Numbers → ℕ → List ℕ
number_text numbers k = number_on numbers (tick numbers.range k)

-- the first n of texts
unfoldable pub first_texts : (ℕ → List ℕ) → ℕ → List ℕ
first_texts text zero = []
first_texts text (suc n) = first_texts text n ++ text n

abbrev pub numbers_in : Option Numbers → List ℕ
numbers_in None = []
numbers_in (Some numbers) = first_texts (number_text numbers) 12

unfoldable pub numbers_text : Frame → List ℕ
numbers_text frame = numbers_in frame.numbers

unfoldable pub outline_text : Frame → List ℕ
outline_text frame = path_around (codes "frame") (area_text 100 1_140 frame.top frame.bottom)

unfoldable pub axis_name : Frame → List ℕ → List ℕ
axis_name frame name = label (codes "axis") 100 (frame.top - 10) name

-- a frame: its grid, what its numbers are, and its outline
unfoldable pub frame_text : Frame → List ℕ → List ℕ
frame_text frame name = numbers_text frame ++ (axis_name frame name ++ outline_text frame)
