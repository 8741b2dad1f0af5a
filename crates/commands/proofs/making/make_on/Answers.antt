use Rattle.commands.proofs.MakingLemmas.{makes_on}
use Rattle.commands.proofs.making.make_on.Goals as goal

pub returns-clause-makes : goal.returns-clause-makes
returns-clause-makes g c =
    makes_on g.D.Disk (g.D.Disk.content c.args.disk) (g.D.Disk.may_leave c.args.disk)
    c.init-made.result c.init-made.new.disk c.init-made.ensures.answer c.init-made.ensures.left

pub returns-clause-any_moment : goal.returns-clause-any_moment
returns-clause-any_moment g c = c.init-made.ensures.any_moment

pub returns-clause-cause : goal.returns-clause-cause
returns-clause-cause g c = c.init-made.ensures.cause
