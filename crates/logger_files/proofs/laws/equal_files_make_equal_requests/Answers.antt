use Rattle.logger_files.proofs.LawLemmas.{made_once}
use Rattle.logger_files.proofs.laws.equal_files_make_equal_requests.Goals as goal

pub returns : goal.returns
returns c = made_once
