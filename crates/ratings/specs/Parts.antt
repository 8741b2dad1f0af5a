-- The parts of rating periods that a day is rated by: periods cut to the time between two instants, with their tables.
use Rattle.std.specs.Prelude.{ℕ, Bool, ◌&&◌, List, find, filter, map, All, AllPairs, Option, None, Some, ℤ, pos, ◌+ℤ◌, int_le, int_lt, ◌≤ℤ◌, ◌<ℤ◌}
use Rattle.std.specs.Int.{int_max, int_min}
use Rattle.ratings.specs.Numbered.{Numbered, rows_of}
use Rattle.ratings.specs.Periods.{is_before_end}
use Rattle.ratings.specs.Spans.{Span}
use Rattle.rating_tables.specs.Table.{Row, IsRating}

-- a part of a period as contracts see it: from its start until its end, that one excluded, a rating is in force
pub record Part : Type 0 where
  pub from : ℤ
  pub until : ℤ
  pub rating : ℕ
  pub rows : List Row

-- a period is in force at some instant from lo to hi
abbrev pub meets : ℤ → ℤ → Span → Bool
meets lo hi p = int_le p.from hi && is_before_end lo p.until

-- where a period ends that is cut right behind an instant
abbrev pub cut_end : ℤ → Option ℤ → ℤ
cut_end hi None = hi +ℤ pos 1
cut_end hi (Some until) = int_min until (hi +ℤ pos 1)

-- a period cut to the time from lo to hi, both included, with the rows of its rating
abbrev pub part_of : ℤ → ℤ → List Numbered → Span → Part
part_of lo hi ratings p = record {
  from = int_max p.from lo;
  until = cut_end hi p.until;
  rating = p.rating;
  rows = rows_of p.rating ratings;
}

-- the parts of the periods that meet the time from lo to hi
abbrev pub parts : ℤ → ℤ → List Numbered → List Span → List Part
parts lo hi ratings periods = map (part_of lo hi ratings) (filter (meets lo hi) periods)

-- a part is in force from its start until its end, that one excluded
abbrev pub holds : ℤ → Part → Bool
holds at p = int_le p.from at && int_lt at p.until

-- the part in force at an instant
abbrev pub part_at : ℤ → List Part → Option Part
part_at at parts = find (holds at) parts

-- what the parts of a day keep to: each has a rating's table and ends after it begins, and each ends before the next begins
pub record AreParts (parts : List Part) : Type 0 where
  pub tables : All (λ p. IsRating p.rows) parts
  pub ordered : All (λ p. p.from <ℤ p.until) parts
  pub apart : AllPairs (λ p q. p.until ≤ℤ q.from) parts
