-- What is put is of a rating that is there, and shares no instant with what is kept.
use Rattle.std.specs.Prelude.{◌≡◌, None, IsSome, IfSome, ◌<ℤ◌, List}
use Rattle.std.proofs.Common.{subst, sym}
use Rattle.ratings.specs.Numbered.{KeptRatings, AreRatings, rating_of}
use Rattle.ratings.specs.Periods.{overlap}
use Rattle.ratings.specs.Spans.{Span}
use Rattle.ratings.proofs.RatingsLemmas.{with_period_are}
use Rattle.ratings.proofs.station_ratings.Ratings.put_period.Goals as goal

pub invariant_of-self : goal.invariant_of-self
invariant_of-self c =
    let ordered = subst (λ (s : Span). IfSome s.until (λ until. s.from <ℤ until)) c.period.view_is c.period.invariant in
    let known = subst (λ (k : KeptRatings). IsSome (rating_of c.args.period.rating k.ratings.tables)) (sym c.self.view_is) c.requires.known in
    let free = subst (λ (k : KeptRatings). overlap c.args.period k.ratings.periods ≡ None) (sym c.self.view_is) c.requires.apart in
    subst (λ (l : List Span). AreRatings (record { tables = c.self.inside.tables.list; periods = l })) (sym c.put.ensures.list)
    (with_period_are c.args.period (record { tables = c.self.inside.tables.list; periods = c.self.inside.periods.list }) c.self.invariant ordered known free)
