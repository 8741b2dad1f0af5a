-- What touches nothing of any station has no day in its interval.
use Rattle.std.proofs.Common.{refl}
use Rattle.depend.proofs.TouchedDays.{no_interval}
use Rattle.depend.proofs.laws.reviews_and_decisions_change_no_day.Goals as goal

pub returns : goal.returns
returns c = record {
  review = λ stations edit from to e. no_interval stations edit _ e (λ s. refl);
  decision = λ stations edit from to decision e. no_interval stations edit _ e (λ s. refl);
}
