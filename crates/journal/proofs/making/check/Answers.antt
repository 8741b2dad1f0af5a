use Rattle.journal.proofs.OnlyReading.{reads_once, reads_joined}
use Rattle.journal.proofs.making.check.Goals as goal

pub returns-in_err-len-clause-disk : goal.returns-in_err-len-clause-disk
returns-in_err-len-clause-disk g c =
    let laws = g.met.D.Disk in
    reads_once g.D.Disk c.args.disk.now c.len.new.self (laws.only_now c.args.disk.now) c.len.ensures.same c.len.ensures.images c.len.ensures.time c.len.ensures.counted

pub returns-then-len-lt17-clause-disk : goal.returns-then-len-lt17-clause-disk
returns-then-len-lt17-clause-disk g c =
    let laws = g.met.D.Disk in
    reads_once g.D.Disk c.args.disk.now c.len.new.self (laws.only_now c.args.disk.now) c.len.ensures.same c.len.ensures.images c.len.ensures.time c.len.ensures.counted

pub returns-in_err-read_at-clause-disk : goal.returns-in_err-read_at-clause-disk
returns-in_err-read_at-clause-disk g c =
    let laws = g.met.D.Disk in
    let one = reads_once g.D.Disk c.args.disk.now c.len.new.self (laws.only_now c.args.disk.now) c.len.ensures.same c.len.ensures.images c.len.ensures.time c.len.ensures.counted in
    let two = reads_once g.D.Disk c.len.new.self c.read_at.new.self (laws.only_now c.len.new.self) c.read_at.ensures.same c.read_at.ensures.images c.read_at.ensures.time c.read_at.ensures.counted in
    reads_joined g.D.Disk c.args.disk.now c.len.new.self c.read_at.new.self one two

pub returns-clause-disk : goal.returns-clause-disk
returns-clause-disk g c =
    let laws = g.met.D.Disk in
    let one = reads_once g.D.Disk c.args.disk.now c.len.new.self (laws.only_now c.args.disk.now) c.len.ensures.same c.len.ensures.images c.len.ensures.time c.len.ensures.counted in
    let two = reads_once g.D.Disk c.len.new.self c.read_at.new.self (laws.only_now c.len.new.self) c.read_at.ensures.same c.read_at.ensures.images c.read_at.ensures.time c.read_at.ensures.counted in
    reads_joined g.D.Disk c.args.disk.now c.len.new.self c.read_at.new.self one two
