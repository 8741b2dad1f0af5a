-- What is put shares no instant with what is kept.
use Rattle.std.proofs.Common.{◌≡◌, sym, subst, None, ◌<ℤ◌}
use Rattle.std.specs.Option.{IfSome}
use Rattle.rising.specs.Lists.{Kept}
use Rattle.ratings.specs.Spans.{Span}
use Rattle.ratings.specs.Periods.{AreApart, overlap}
use Rattle.ratings.proofs.PeriodLemmas.{put_apart}
use Rattle.ratings.proofs.periods.Periods.put.Goals as goal

pub invariant_of-self : goal.invariant_of-self
invariant_of-self c =
    let ordered = subst (λ (s : Span). IfSome s.until (λ until. s.from <ℤ until)) c.period.view_is c.period.invariant in
    let free = subst (λ (k : Kept Span). overlap c.args.period k.list ≡ None) (sym c.self.view_is) c.requires.apart in
    subst AreApart (sym c.put.ensures.list) (put_apart c.args.period c.self.inside.list.list c.self.invariant ordered free)
