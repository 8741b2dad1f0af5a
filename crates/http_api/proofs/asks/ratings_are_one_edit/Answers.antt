use Rattle.http_api.proofs.AskLemmas.{ratings_are_one}
use Rattle.http_api.proofs.asks.ratings_are_one_edit.Goals as goal

pub returns : goal.returns
returns c = ratings_are_one
