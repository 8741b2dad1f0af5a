-- Ratings with one more, with a period put among theirs and without one keep to what ratings do.
use Rattle.std.specs.Prelude.{◌≡◌, ℕ, List, None, IsSome, Option, ℤ, pos}
use Rattle.std.proofs.Common.{arith, refl, sym, subst}
use Rattle.std.proofs.lemmas.Int.{ints, by_lt_z}
use Rattle.std.proofs.lemmas.List.Elements.{All-weaker}
use Rattle.rising.proofs.Placing.{put_rises, put_keeps, without_keeps, at_put, at_put_other}
use Rattle.rising.specs.Lists.{put}
use Rattle.ratings.specs.Numbered.{Numbered, StationRatings, AreRatings, number_of, rating_of, with_period, without_period}
use Rattle.ratings.specs.Periods.{begin, overlap}
use Rattle.ratings.specs.Spans.{Span, EndsLater}
use Rattle.rating_tables.specs.Table.{IsRating}
use Rattle.ratings.proofs.CuttingLemmas.{IsKnown}
use Rattle.ratings.proofs.PeriodLemmas.{put_apart, without_apart}

-- a rating that is there is still there
still_elsewhere : (x : Numbered) (n : ℕ) (tables : List Numbered) → (pos x.number ≡ pos n → ⊥) → IsSome (rating_of n tables) → IsSome (rating_of n (put number_of x tables))
still_elsewhere x n tables other h = subst (λ (o : Option Numbered). IsSome o) (sym (at_put_other number_of x (pos n) tables other)) h

still_there : (x : Numbered) (n : ℕ) (tables : List Numbered) → IsSome (rating_of n tables) → IsSome (rating_of n (put number_of x tables))
still_there x n tables h =
    by_lt_z (pos x.number) (pos n)
    (λ l. still_elsewhere x n tables (λ e. omega (arith, ints)) h)
    (λ l. by_lt_z (pos n) (pos x.number)
    (λ m. still_elsewhere x n tables (λ e. omega (arith, ints)) h)
    (λ m. subst (λ (k : ℕ). IsSome (rating_of k (put number_of x tables))) (let same : x.number ≡ n = omega (arith, ints) in same)
    (subst (λ (o : Option Numbered). IsSome o) (sym (at_put number_of x tables)) refl)))

pub more_ratings_are : (x : Numbered) (ratings : StationRatings) → AreRatings ratings → IsRating x.rows
    → AreRatings (record { tables = put number_of x ratings.tables; periods = ratings.periods })
more_ratings_are x ratings h rating =
    record {
      rising = put_rises number_of x ratings.tables h.rising;
      rows = put_keeps number_of (λ r. IsRating r.rows) x ratings.tables rating h.rows;
      apart = h.apart;
      known =
          All-weaker (IsKnown ratings.tables) (IsKnown (put number_of x ratings.tables)) (λ p k. still_there x p.rating ratings.tables k) ratings.periods h.known;
    }

pub with_period_are : (p : Span) (ratings : StationRatings) → AreRatings ratings → EndsLater p → IsSome (rating_of p.rating ratings.tables) → overlap p ratings.periods ≡ None
    → AreRatings (with_period p ratings)
with_period_are p ratings h ordered known free =
    record {
      rising = h.rising;
      rows = h.rows;
      apart = put_apart p ratings.periods h.apart ordered free;
      known = put_keeps begin (IsKnown ratings.tables) p ratings.periods known h.known;
    }

pub without_period_are : (from : ℤ) (ratings : StationRatings) → AreRatings ratings → AreRatings (without_period from ratings)
without_period_are from ratings h =
    record {
      rising = h.rising;
      rows = h.rows;
      apart = without_apart from ratings.periods h.apart;
      known = without_keeps begin (IsKnown ratings.tables) from ratings.periods h.known;
    }
