use Rattle.std.proofs.Common.{ℕ, List, ◌++◌, ap, subst, ◌∙◌}
use Rattle.trial.proofs.CountLemmas.{counted_from}
use Rattle.trial.proofs.trials.follow.Goals as goal
use Rattle.trial.specs.Figures.{text_of}
use Rattle.trial.specs.Trials.{Trial, FollowsAll}
use Rattle.trial_orders.specs.Orders.{orders}

pub write_figures-requires-clause-counted : goal.write_figures-requires-clause-counted
write_figures-requires-clause-counted g c =
    counted_from c.args.run.now c.follow_orders.new.self (orders c.args.number) c.requires c.in_ok-follow_orders.ensures.follows

pub returns : goal.returns
returns g c = record {
  after = c.follow_orders.new.self;
  follows = subst (λ (t : Trial). FollowsAll t (orders c.args.number) c.follow_orders.new.self) c.requires c.in_ok-follow_orders.ensures.follows;
  figures = c.in_ok-write_figures.ensures ∙ ap (λ (l : List ℕ). l ++ text_of c.follow_orders.new.self) c.new-text.ensures;
}
