use Rattle.register.proofs.LimitLemmas.{edit_keeps_to, publication_keeps_to, refused_keeps_to, settled_keep_to, some_keep_to, turned_keep_to}
use Rattle.register.proofs.laws.events_and_pending_days_keep_to_the_limit.Goals as goal

pub returns-clause-edit : goal.returns-clause-edit
returns-clause-edit c h edit v = edit_keeps_to h edit v

pub returns-clause-fault : goal.returns-clause-fault
returns-clause-fault c h edit left v = refused_keeps_to h edit left v

pub returns-clause-publication : goal.returns-clause-publication
returns-clause-publication c h d k day pending = publication_keeps_to h d k day pending

pub returns-clause-turn : goal.returns-clause-turn
returns-clause-turn c h k = turned_keep_to h k

pub returns-clause-settlement : goal.returns-clause-settlement
returns-clause-settlement c h k = settled_keep_to h k

pub returns-clause-partly : goal.returns-clause-partly
returns-clause-partly c h count k = some_keep_to h count k
