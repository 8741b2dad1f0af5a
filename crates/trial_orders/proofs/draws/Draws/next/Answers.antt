use Rattle.std.proofs.Common.{◌+◌, ap, ◌∙◌}
use Rattle.trial_orders.specs.Draws.{Drawn, draw_at}
use Rattle.trial_orders.proofs.PartLemmas.{next_draw}
use Rattle.trial_orders.proofs.draws.Draws.next.Goals as goal

pub invariant_of-self : goal.invariant_of-self
invariant_of-self c = next_draw c.self.inside.number c.self.inside.made c.self.inside.latest _ c.self.invariant c.draw_behind-drawn.ensures

pub returns-clause-draw : goal.returns-clause-draw
returns-clause-draw c =
    next_draw c.self.inside.number c.self.inside.made c.self.inside.latest _ c.self.invariant c.draw_behind-drawn.ensures
    ∙ ap (λ (d : Drawn). draw_at d.number (d.made + 1)) c.self.view_is
