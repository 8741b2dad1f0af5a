use denote.Param.Send.{sendable}
use Rattle.std.proofs.Crossing.{crosses}
use Rattle.atomic_table.proofs.send_lease.SendLease.TheSendSync as lease
use Rattle.atomic_table.proofs.shared.Seat.TheSendSync as seat
use Rattle.atomic_table.proofs.shared.Shared.TheSendSync as table
use Rattle.serving.proofs.SendLemmas.{shared_sent}
use Rattle.serving.proofs.crews.begin.Goals as goal

pub start-requires-send-O : goal.start-requires-send-O
start-requires-send-O g c κs within =
    let d = c.type_bounds.send-D in let a = c.type_bounds.send-G in let s = shared_sent c.a_register_may_be_sent.ensures in
    search (sendable, crosses, s, seat.the_send) depth 60

pub start-requires-send-F : goal.start-requires-send-F
start-requires-send-F g c κs within =
    let d = c.type_bounds.send-D in let a = c.type_bounds.send-G in let r = c.type_bounds.send-R in let s = shared_sent c.a_register_may_be_sent.ensures in
    search (sendable, crosses, s, seat.the_send, table.the_send, table.the_sync, lease.the_send, lease.the_sync) depth 60
