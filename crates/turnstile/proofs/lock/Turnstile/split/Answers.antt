use Rattle.std.proofs.Common.{arith}
use Rattle.turnstile.proofs.TurnLemmas.{splits_off}
use Rattle.turnstile.proofs.lock.Turnstile.split.Goals as goal

pub split_seat-other-requires : goal.split_seat-other-requires
split_seat-other-requires g c =
    let p = c.requires.pass.0 in let t = c.args.self.now.table.shared in let m = c.args.pass in
    (p.0, omega (arith, c.args.self.now.counts.0), splits_off g.T.Kept.history g.T.Kept.fixed t.key.value m.id m.me.0 p.2 c.requires.share)
