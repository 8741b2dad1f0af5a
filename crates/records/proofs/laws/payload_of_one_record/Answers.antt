use Rattle.records.proofs.Records.{one_record}
use Rattle.records.proofs.laws.payload_of_one_record.Goals as goal

pub returns : goal.returns
returns c format a b g h e = one_record format a b g h e
