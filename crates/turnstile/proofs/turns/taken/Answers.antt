use Rattle.std.proofs.Common.{◌∷◌, Some, sym, ap, ◌∙◌}
use Rattle.atomic_table.specs.Table.{rest}
use Rattle.turnstile.proofs.turns.taken.Goals as goal

pub exchange-requires : goal.exchange-requires
exchange-requires g c = let v = c.requires.1 in (c.requires.0, (Some v.0, v.1 ∙ ap (λ l. (0, Some v.0) ∷ l) (sym (ap rest v.1))))
