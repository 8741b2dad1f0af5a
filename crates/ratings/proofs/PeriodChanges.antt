-- Which parts a period changes that is put or taken out: those of the time between two instants stay exactly where its own part does.
use Rattle.std.specs.Prelude.{Bool, true, false, not, ◌&&◌, ◌==◌, Option, Some, None, List, ℤ}
use Rattle.std.specs.Ordering.{int_eq}
use Rattle.ratings.specs.Numbered.{period_from}
use Rattle.ratings.specs.Parts.{cut_end, meets}
use Rattle.ratings.specs.Spans.{Span}

-- two periods of one start are cut alike: both end there, or behind it, and are of one rating
abbrev pub cut_alike : ℤ → Span → Span → Bool
cut_alike hi p q = int_eq (cut_end hi p.until) (cut_end hi q.until) && (p.rating == q.rating)

-- the part of a period stays with another one of its start in its place: neither meets the time, or both do and are cut alike
abbrev pub stays_in_place : ℤ → ℤ → Bool → Bool → Span → Span → Bool
stays_in_place lo hi true true p q = cut_alike hi p q
stays_in_place lo hi true false p q = false
stays_in_place lo hi false true p q = false
stays_in_place lo hi false false p q = true

-- the parts stay with a period put in place of the one of its start, if there is one
abbrev pub stays_with : ℤ → ℤ → Span → Option Span → Bool
stays_with lo hi p None = not (meets lo hi p)
stays_with lo hi p (Some kept) = stays_in_place lo hi (meets lo hi kept) (meets lo hi p) kept p

abbrev pub stays_with_period : ℤ → ℤ → Span → List Span → Bool
stays_with_period lo hi p periods = stays_with lo hi p (period_from p.from periods)

-- the parts stay without a period, if there is one
abbrev pub stays_without : ℤ → ℤ → Option Span → Bool
stays_without lo hi None = true
stays_without lo hi (Some kept) = not (meets lo hi kept)

abbrev pub stays_without_period : ℤ → ℤ → ℤ → List Span → Bool
stays_without_period lo hi from periods = stays_without lo hi (period_from from periods)
