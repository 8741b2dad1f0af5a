use Rattle.std.proofs.Common.{◌∙◌, arith}
use Rattle.turnstile.specs.Parties.{joined}
use Rattle.turnstile.proofs.TurnLemmas.{joins_in, learns_of}
use Rattle.turnstile.proofs.lock.Turnstile.join.Goals as goal

pub join_seat-requires : goal.join_seat-requires
join_seat-requires g c =
    let p = c.requires.one.0 in let q = c.requires.other.0 in let t = c.args.self.now.table.shared in let m = c.args.one in let o = c.args.other in
    (p.0, q.0, q.1, omega (arith, c.args.self.now.counts.0), joins_in g.T.Kept.history g.T.Kept.fixed t.key.value m.id m.me.0 o.id o.me.0 p.2 q.2 p.4 q.4 p.3)

pub load-requires : goal.load-requires
load-requires g c =
    let p = c.requires.one.0 in let t = c.args.self.now.table.shared in
    (c.join_seat.ensures.0 ∙ p.0, omega (arith, c.args.self.now.counts.0), rw (c.join_seat.ensures.2, p.1) (learns_of g.T.Kept.history g.T.Kept.fixed t.key.value t.table_id.slots c.join_seat.new.seat.id (joined c.args.one.me.0 c.args.other.me.0) p.2))
