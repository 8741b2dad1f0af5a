-- The status of a reply is a status.
use Rattle.wire.proofs.ReplyLemmas.{reply_status_is_code}
use Rattle.wire.proofs.replies.phrase.Goals as goal

pub returns-in-Err : goal.returns-in-Err
returns-in-Err c = absurd (c.in-Err.ensures (reply_status_is_code c.args.status c.requires))
