use Rattle.http_api.specs.Replies.{bytes_of}
use Rattle.http_api.proofs.replies.constants_are_replies.Goals as goal

pub returns-clause-no_memory : goal.returns-clause-no_memory
unfolding bytes_of
returns-clause-no_memory c = c.constants_are_replies.ensures.no_memory

pub returns-clause-malformed : goal.returns-clause-malformed
unfolding bytes_of
returns-clause-malformed c = c.constants_are_replies.ensures.malformed
