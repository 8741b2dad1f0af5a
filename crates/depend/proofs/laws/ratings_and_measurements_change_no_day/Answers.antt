-- What touches nothing of any station has no day in its interval.
use Rattle.std.proofs.Common.{refl}
use Rattle.depend.proofs.TouchedDays.{no_interval}
use Rattle.depend.proofs.laws.ratings_and_measurements_change_no_day.Goals as goal

pub returns : goal.returns
returns c = record {
  rating = λ stations edit rating table e. no_interval stations edit _ e (λ s. refl);
  put = λ stations edit measurement e. no_interval stations edit _ e (λ s. refl);
  dropped = λ stations edit number e. no_interval stations edit _ e (λ s. refl);
}
