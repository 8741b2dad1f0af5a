use Rattle.std.proofs.Common.{◌≡◌, [], ◌∷◌, Some, refl, ap, ◌∙◌, arith}
use Rattle.atomic_table.specs.Table.{rest}
use Rattle.turnstile.specs.Parties.{wrote}
use Rattle.turnstile.specs.Plays.{history_in}
use Rattle.turnstile.proofs.TurnLemmas.{writes_length, gives_back}
use Rattle.turnstile.proofs.turns.put.Goals as goal

pub store-requires : goal.store-requires
store-requires g c =
    let p = c.requires.holding in let t = c.args.table.now in let e = c.exchange-nothing.ensures in let me = c.args.pass.now.me in
    let me_is : c.exchange-nothing.new.seat.me ≡ (me.0, (0, Some c.args.value) ∷ []) = e.3 ∙ ap (λ l. (me.0, (0, Some c.args.value) ∷ rest l)) p.1 in
    (e.0 ∙ p.0, omega (arith, c.requires.table.0), rw me_is (writes_length g.T.Kept.history g.T.Kept.fixed t.key.value t.table_id.slots c.exchange-nothing.new.seat.id c.args.events me.0 c.args.value p.2 c.requires.begins c.requires.length))

pub store-requires-2 : goal.store-requires-2
store-requires-2 g c =
    let p = c.requires.holding in let t = c.args.table.now in let e = c.exchange-nothing.ensures in let me = c.args.pass.now.me in
    let me_is : c.exchange-nothing.new.seat.me ≡ (me.0, (0, Some c.args.value) ∷ []) = e.3 ∙ ap (λ l. (me.0, (0, Some c.args.value) ∷ rest l)) p.1 in
    let now_is : c.store.new.seat.me ≡ (wrote me.0 (g.T.Kept.history c.args.value), (0, Some c.args.value) ∷ []) = c.store.ensures.2 ∙ ap (λ y. (wrote y.0 (history_in g.T.Kept.history y.1), y.1)) me_is in
    (c.store.ensures.0 ∙ e.0 ∙ p.0, omega (arith, c.requires.table.0), rw now_is (gives_back g.T.Kept.history g.T.Kept.fixed t.key.value t.table_id.slots c.store.new.seat.id (wrote me.0 (g.T.Kept.history c.args.value)) c.args.value p.2 refl c.requires.fixed))
