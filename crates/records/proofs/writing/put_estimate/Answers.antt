use Rattle.records.proofs.WritingLemmas.{put_last}
use Rattle.records.proofs.writing.put_estimate.Goals as goal

pub returns : goal.returns
returns c = put_last c.put_micro.result _ _ _ _ _ c.put_micro.ensures c.in_ok-put_day.ensures
