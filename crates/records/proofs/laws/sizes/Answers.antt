use Rattle.std.proofs.Common.{arith}
use Rattle.records.proofs.LawLemmas.{few_bytes, encoded_bytes}
use Rattle.records.proofs.laws.sizes.Goals as goal

pub returns-clause-bytes : goal.returns-clause-bytes
returns-clause-bytes c format piece g texts = encoded_bytes format piece g texts

pub returns-clause-longest : goal.returns-clause-longest
returns-clause-longest c format piece g = few_bytes format piece g

pub returns-clause-most : goal.returns-clause-most
returns-clause-most c format piece g = let few = few_bytes format piece g in omega (arith, few)
