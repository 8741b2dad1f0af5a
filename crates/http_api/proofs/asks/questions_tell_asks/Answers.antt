use Rattle.http_api.proofs.AskLemmas.{are_told}
use Rattle.http_api.proofs.asks.questions_tell_asks.Goals as goal

pub returns : goal.returns
returns c = are_told
