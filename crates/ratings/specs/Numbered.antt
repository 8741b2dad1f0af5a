-- Ratings under their numbers.
use Rattle.std.specs.Prelude.{ℕ, List, [], Option, None, Some, option_map, ℤ, pos, All, IsSome}
use Rattle.rising.specs.Lists as lists
use Rattle.ratings.specs.Periods.{AreApart, begin, in_force}
use Rattle.ratings.specs.Spans.{Span}
use Rattle.rating_tables.specs.Table.{Row, IsRating}

-- a rating as contracts see it: the rows of a table under a number
pub record Numbered : Type 0 where
  pub number : ℕ
  pub rows : List Row

-- the number that a rating stands at
abbrev pub number_of : Numbered → ℤ
number_of rating = pos rating.number

-- the rating of a number
abbrev pub rating_of : ℕ → List Numbered → Option Numbered
rating_of number ratings = lists.at number_of (pos number) ratings

-- the rows of a rating of a number, none where there is no such rating
abbrev pub rows_found : Option Numbered → List Row
rows_found None = []
rows_found (Some rating) = rating.rows

abbrev pub rows_of : ℕ → List Numbered → List Row
rows_of number ratings = rows_found (rating_of number ratings)

-- the ratings of a station and the periods in which they are in force
pub record StationRatings : Type 0 where
  pub tables : List Numbered
  pub periods : List Span

-- what they keep to: the ratings rise by number, each with a table of stages and discharges in range; the periods are apart, and each is one of a
-- rating that is there
pub record AreRatings (ratings : StationRatings) : Type 0 where
  pub rising : lists.IsRising number_of ratings.tables
  pub rows : All (λ r. IsRating r.rows) ratings.tables
  pub apart : AreApart ratings.periods
  pub known : All (λ p. IsSome (rating_of p.rating ratings.tables)) ratings.periods

-- the period that begins at an instant
abbrev pub period_from : ℤ → List Span → Option Span
period_from from periods = lists.at begin from periods

-- the rows of the rating that is in force at an instant
abbrev pub rows_in_force : ℤ → StationRatings → Option (List Row)
rows_in_force at ratings = option_map (λ (p : Span). rows_of p.rating ratings.tables) (in_force at ratings.periods)

-- tables with one more; one that stands under its number is never replaced
abbrev pub with_table : Option Numbered → Numbered → List Numbered → List Numbered
with_table None rating tables = lists.put number_of rating tables
with_table (Some kept) rating tables = tables

-- ratings with one more, with a period put among theirs, and without the one of a start
abbrev pub with_rating : Numbered → StationRatings → StationRatings
with_rating rating ratings = record { tables = with_table (rating_of rating.number ratings.tables) rating ratings.tables; periods = ratings.periods }

abbrev pub with_period : Span → StationRatings → StationRatings
with_period period ratings = record { tables = ratings.tables; periods = lists.put begin period ratings.periods }

abbrev pub without_period : ℤ → StationRatings → StationRatings
without_period from ratings = record { tables = ratings.tables; periods = lists.without begin from ratings.periods }

-- ratings as they are kept, and for how many more ratings and periods there is room
pub record KeptRatings : Type 0 where
  pub ratings : StationRatings
  pub rating_room : ℕ
  pub period_room : ℕ
