use Rattle.desk.proofs.RepliesLemmas.{replied_denied}
use Rattle.desk.specs.Answering.{told_bytes}
use Rattle.desk.proofs.sessions.reply_to.Goals as goal

pub returns-in-Err-clause-replied : goal.returns-in-Err-clause-replied
returns-in-Err-clause-replied g c =
    replied_denied g.A.Asked.answers c.args.asked.now c.args.verb c.args.target.now c.args.body.now
    (told_bytes c.tell.result c.tell.new.self.reply) c.in-Err.denied c.in-Err.ensures.denied c.tell.ensures
