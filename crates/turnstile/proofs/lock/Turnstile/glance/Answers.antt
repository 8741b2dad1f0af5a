use Rattle.std.proofs.Common.{arith}
use Rattle.turnstile.proofs.TurnLemmas.{glances_at}
use Rattle.turnstile.proofs.lock.Turnstile.glance.Goals as goal

pub load-requires : goal.load-requires
load-requires g c =
    let p = c.requires.0 in let t = c.args.self.now.table.shared in let m = c.args.pass.now in
    (p.0, omega (arith, c.args.self.now.counts.0), rw p.1 (glances_at g.T.Kept.history g.T.Kept.fixed t.key.value t.table_id.slots m.id m.me.0 p.2 p.4))
