use Rattle.journal.proofs.OnlyReading.{reads_nothing, reads_once}
use Rattle.journal.proofs.read_ahead.ReadAhead.fill.Goals as goal

pub returns-then-has-clause-disk : goal.returns-then-has-clause-disk
returns-then-has-clause-disk g c =
    let laws = g.met.D.Disk in
    reads_nothing g.D.Disk c.args.self.now.disk (laws.only_now c.args.self.now.disk)

pub returns-in_err-resize-clause-disk : goal.returns-in_err-resize-clause-disk
returns-in_err-resize-clause-disk g c =
    let laws = g.met.D.Disk in
    reads_nothing g.D.Disk c.args.self.now.disk (laws.only_now c.args.self.now.disk)

pub returns-in_err-read_at-clause-disk : goal.returns-in_err-read_at-clause-disk
returns-in_err-read_at-clause-disk g c =
    let laws = g.met.D.Disk in
    let disk = c.args.self.now.disk in
    let read = c.read_at.ensures in
    reads_once g.D.Disk disk c.read_at.new.self (laws.only_now disk) read.same read.images read.time read.counted

pub returns-clause-disk : goal.returns-clause-disk
returns-clause-disk g c =
    let laws = g.met.D.Disk in
    let disk = c.args.self.now.disk in
    let read = c.read_at.ensures in
    reads_once g.D.Disk disk c.read_at.new.self (laws.only_now disk) read.same read.images read.time read.counted
