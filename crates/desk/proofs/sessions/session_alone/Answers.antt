use Rattle.desk.proofs.AloneLemmas.{Since, since_replies, served_alone}
use Rattle.std.proofs.Common.{arith}
use Rattle.desk.proofs.sessions.session_alone.Goals as goal

pub returns-clause-served : goal.returns-clause-served
returns-clause-served g c =
    served_alone g.D.Disk c.args.office.now c.serve.new.asked c.serve.result
    (g.S.Source.left c.args.source.now) (g.S.Source.left c.serve.new.source) (g.K.Sink.written c.args.sink.now) (g.K.Sink.written c.serve.new.sink)
    c.serve.ensures.served

pub returns-clause-passed : goal.returns-clause-passed
returns-clause-passed g c =
    let served = c.serve.ensures.served in
    let start : Since g.D.Disk c.args.office.now c.args.office.now = record { passed = c.stands_still.ensures; counted = omega arith } in
    (since_replies g.D.Disk c.args.office.now c.serve.new.asked served.messages served.replies served.answers start).passed

pub returns-clause-disk_counted : goal.returns-clause-disk_counted
returns-clause-disk_counted g c =
    let served = c.serve.ensures.served in
    let start : Since g.D.Disk c.args.office.now c.args.office.now = record { passed = c.stands_still.ensures; counted = omega arith } in
    (since_replies g.D.Disk c.args.office.now c.serve.new.asked served.messages served.replies served.answers start).counted
