-- The least cover of a day, and the cover that a mean needs (this project's choice).
use Rattle.std.specs.Prelude.{ℕ, ◌*◌, ◌≤◌, min, Bool, true, false, ◌==◌, Option, Some, None}

-- the greatest least cover in minutes: a day of 24 hours
abbrev pub most_least_cover : ℕ
most_least_cover = 1_440

-- a least cover is 1 to 1,440 minutes
pub record IsLeastCover (minutes : ℕ) : Type 0 where
  pub least : 1 ≤ minutes
  pub greatest : minutes ≤ most_least_cover

-- the need of a mean: how many seconds of a day it has to cover. Without a least cover that is the whole length of the day, and with
-- one, in minutes, the smaller of the two
abbrev pub need : ℕ → Option ℕ → ℕ
need length None = length
need length (Some minutes) = min length (60 * minutes)

-- the least covers are one, or there is none
abbrev pub same_least : Option ℕ → Option ℕ → Bool
same_least None None = true
same_least (Some least) (Some its_least) = least == its_least
same_least _ _ = false
