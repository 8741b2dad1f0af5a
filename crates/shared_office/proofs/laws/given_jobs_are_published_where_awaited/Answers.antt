use Rattle.shared_office.proofs.GivenLemmas.{given_comes_out}
use Rattle.shared_office.proofs.laws.given_jobs_are_published_where_awaited.Goals as goal

pub returns : goal.returns
returns g c = λ given published task later job outcome gives is on. given_comes_out c.args.lock.now given published task later job outcome gives is on
