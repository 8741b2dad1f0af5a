use Rattle.std.proofs.Common.{sym, ◌∙◌}
use Rattle.http_api.proofs.RdbLemmas.{memory_told}
use Rattle.http_api.proofs.rdb_bodies.table_in.Goals as goal

pub returns-in-Err-NoMemory-clause-denied : goal.returns-in-Err-NoMemory-clause-denied
returns-in-Err-NoMemory-clause-denied c = memory_told c.args.text.now (sym c.in-Err-NoMemory.field-0-is ∙ c.in-Err-NoMemory.ensures.err)
