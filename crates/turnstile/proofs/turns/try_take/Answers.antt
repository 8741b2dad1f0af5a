use Rattle.std.proofs.Common.{arith}
use Rattle.turnstile.proofs.TurnLemmas.{takes_turn}
use Rattle.turnstile.proofs.turns.try_take.Goals as goal

pub compare_exchange-requires : goal.compare_exchange-requires
compare_exchange-requires g c =
    let p = c.requires.pass in
    (p.0, omega (arith, c.requires.table.0), rw p.1 (takes_turn g.T.Kept.history g.T.Kept.fixed c.args.table.now.key.value c.args.table.now.table_id.slots c.args.pass.now.id c.args.pass.now.me.0 p.2 p.3))
