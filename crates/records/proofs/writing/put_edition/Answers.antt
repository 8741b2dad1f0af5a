use Rattle.records.proofs.WritingLemmas.{put_last}
use Rattle.records.proofs.writing.put_edition.Goals as goal

pub returns : goal.returns
returns c = put_last c.put_least.result _ _ _ _ _ c.put_least.ensures c.in_ok-put_day.ensures
