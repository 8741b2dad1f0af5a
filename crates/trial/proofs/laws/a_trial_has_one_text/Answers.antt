use Rattle.trial.proofs.FollowLemmas.{same_text}
use Rattle.trial.proofs.laws.a_trial_has_one_text.Goals as goal

pub returns : goal.returns
returns c number a b f g = same_text number a b f g
