-- The periods in which ratings are in force.
use Rattle.std.specs.Prelude.{◌≡◌, All, Bool, true, false, ◌&&◌, not, List, find, Option, None, Some, option_map, ℤ, int_lt, int_le, AllPairs}
use Rattle.std.specs.Ordering.{int_eq}
use Rattle.rising.specs.Lists.{IsRising}
use Rattle.ratings.specs.Spans.{Span, EndsLater}
pub use Rattle.ratings.specs.Spans.{begin}

-- what ends at an instant, if at all, has not ended before that instant, which is excluded
abbrev pub is_before_end : ℤ → Option ℤ → Bool
is_before_end at None = true
is_before_end at (Some until) = int_lt at until

-- a period is in force from its start until its end, that one excluded
abbrev pub is_in_force : ℤ → Span → Bool
is_in_force at p = int_le p.from at && is_before_end at p.until

-- two periods share an instant where each begins before the other ends
abbrev pub share : Span → Span → Bool
share p q = is_before_end p.from q.until && is_before_end q.from p.until

-- a kept period stands in the way of another one where it has another start and shares an instant with it
abbrev pub stands_in_the_way : Span → Span → Bool
stands_in_the_way p kept = not (int_eq kept.from p.from) && share kept p

-- the start of the first kept period that stands in the way
abbrev pub overlap : Span → List Span → Option ℤ
overlap p kept = option_map (λ (q : Span). q.from) (find (stands_in_the_way p) kept)

-- kept periods end after they begin, rise by their starts and share no instant
pub record AreApart (kept : List Span) : Type 0 where
  pub ordered : All EndsLater kept
  pub rising : IsRising begin kept
  pub apart : AllPairs (λ p q. share p q ≡ false) kept

-- the period in force at an instant
abbrev pub in_force : ℤ → List Span → Option Span
in_force at kept = find (is_in_force at) kept
