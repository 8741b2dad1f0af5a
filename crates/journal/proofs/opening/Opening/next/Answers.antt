use Rattle.journal.proofs.Moments.{started}
use Rattle.journal.proofs.opening.Opening.next.Goals as goal

-- the end was reached before: nothing is done
pub returns-then-self-clause-any_moment : goal.returns-then-self-clause-any_moment
returns-then-self-clause-any_moment g c =
    let laws = g.met.D.Disk in
    started g.D.Disk c.args.self.now.ahead.disk (g.D.Disk.may_leave c.args.self.now.ahead.disk) (laws.only_now c.args.self.now.ahead.disk)

-- what was read on leaves the disk
pub returns-in-Ok-clause-same : goal.returns-in-Ok-clause-same
returns-in-Ok-clause-same g c = c.read_on.ensures.disk.same

pub returns-in-Ok-clause-images : goal.returns-in-Ok-clause-images
returns-in-Ok-clause-images g c = c.read_on.ensures.disk.images

pub returns-in-Ok-clause-any_moment : goal.returns-in-Ok-clause-any_moment
returns-in-Ok-clause-any_moment g c = c.read_on.ensures.disk.any_moment

pub returns-in-Ok-clause-counted : goal.returns-in-Ok-clause-counted
returns-in-Ok-clause-counted g c = c.read_on.ensures.disk.counted

pub returns-in-Err-Fault-clause-same : goal.returns-in-Err-Fault-clause-same
returns-in-Err-Fault-clause-same g c = c.read_on.ensures.disk.same

pub returns-in-Err-Fault-clause-images : goal.returns-in-Err-Fault-clause-images
returns-in-Err-Fault-clause-images g c = c.read_on.ensures.disk.images

pub returns-in-Err-Fault-clause-any_moment : goal.returns-in-Err-Fault-clause-any_moment
returns-in-Err-Fault-clause-any_moment g c = c.read_on.ensures.disk.any_moment

pub returns-in-Err-Fault-clause-counted : goal.returns-in-Err-Fault-clause-counted
returns-in-Err-Fault-clause-counted g c = c.read_on.ensures.disk.counted

pub returns-in-Err-NoRecord-clause-same : goal.returns-in-Err-NoRecord-clause-same
returns-in-Err-NoRecord-clause-same g c = c.read_on.ensures.disk.same

pub returns-in-Err-NoRecord-clause-images : goal.returns-in-Err-NoRecord-clause-images
returns-in-Err-NoRecord-clause-images g c = c.read_on.ensures.disk.images

pub returns-in-Err-NoRecord-clause-any_moment : goal.returns-in-Err-NoRecord-clause-any_moment
returns-in-Err-NoRecord-clause-any_moment g c = c.read_on.ensures.disk.any_moment

pub returns-in-Err-NoRecord-clause-counted : goal.returns-in-Err-NoRecord-clause-counted
returns-in-Err-NoRecord-clause-counted g c = c.read_on.ensures.disk.counted

pub returns-in-Err-NoMemory-clause-same : goal.returns-in-Err-NoMemory-clause-same
returns-in-Err-NoMemory-clause-same g c = c.read_on.ensures.disk.same

pub returns-in-Err-NoMemory-clause-images : goal.returns-in-Err-NoMemory-clause-images
returns-in-Err-NoMemory-clause-images g c = c.read_on.ensures.disk.images

pub returns-in-Err-NoMemory-clause-any_moment : goal.returns-in-Err-NoMemory-clause-any_moment
returns-in-Err-NoMemory-clause-any_moment g c = c.read_on.ensures.disk.any_moment

pub returns-in-Err-NoMemory-clause-counted : goal.returns-in-Err-NoMemory-clause-counted
returns-in-Err-NoMemory-clause-counted g c = c.read_on.ensures.disk.counted
