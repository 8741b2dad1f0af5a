use Rattle.std.proofs.Common.{◌≡◌, [], ◌∷◌, Some, sym, ap, ◌∙◌, arith}
use Rattle.atomic_table.specs.Table.{rest}
use Rattle.turnstile.proofs.TurnLemmas.{closes_for}
use Rattle.turnstile.proofs.lock.Turnstile.close.Goals as goal

pub compare_exchange-requires : goal.compare_exchange-requires
compare_exchange-requires g c =
    let p = c.requires.pass.0 in let t = c.args.self.now.table.shared in let m = c.args.pass in
    (p.0, omega (arith, c.args.self.now.counts.0), rw p.1 (closes_for g.T.Kept.history g.T.Kept.fixed t.key.value t.table_id.slots m.id m.me.0 p.2 c.requires.share p.4))

pub exchange-requires : goal.exchange-requires
exchange-requires g c =
    let p = c.requires.pass.0 in let v = c.compare_exchange.ensures.2 in
    let me : c.compare_exchange.new.seat.me.1 ≡ (0, Some v.0) ∷ [] = v.1 ∙ ap (λ l. (0, Some v.0) ∷ l) p.1 in
    (c.compare_exchange.ensures.0 ∙ p.0, (Some v.0, me ∙ ap (λ l. (0, Some v.0) ∷ l) (sym (ap rest me))))
