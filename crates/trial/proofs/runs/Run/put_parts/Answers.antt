use Rattle.std.proofs.Common.{◌≡◌, ℕ, ◌+◌, arith, ap, subst, ◌∙◌}
use Rattle.trial.proofs.FollowLemmas.{all_parts, part_more}
use Rattle.trial.proofs.runs.Run.put_parts.Goals as goal
use Rattle.trial.specs.Trials.{Follows}
use Rattle.trial_orders.specs.Draws.{Drawn}
use Rattle.trial_orders.specs.Orders.{putting_part}
use Rattle.trial_orders.specs.Questions.{draws_before}

pub loop-part-preserved : goal.loop-part-preserved
loop-part-preserved g c =
    let number : c.loop-part.draws.number ≡ c.args.draws.now.number = ap (λ (d : Drawn). d.number) c.loop-part.invariant.draws in
    let made : c.loop-part.draws.made + 2_400 ≡ draws_before c.args.station (c.loop-part.part + 1) =
    ap (λ (d : Drawn). d.made + 2_400) c.loop-part.invariant.draws ∙ omega arith in
    record {
      follows = part_more c.args.draws.now.number c.args.station c.args.self.now c.loop-part.self c.put_part.new.self c.loop-part.part
          c.loop-part.invariant.follows
          (subst (λ (n : ℕ). Follows c.loop-part.self (putting_part n c.args.station c.loop-part.part) c.put_part.new.self) number
          c.in_ok-put_part.ensures.follows);
      asked = omega (arith, c.loop-part.invariant.asked, c.in_ok-put_part.ensures.asked);
      draws = c.in_ok-put_part.ensures.draws ∙ ap (λ (n : ℕ). record { number = n; made = c.loop-part.draws.made + 2_400 }) number
          ∙ ap (λ (n : ℕ). record { number = c.args.draws.now.number; made = n }) made;
    }

pub returns-clause-follows : goal.returns-clause-follows
returns-clause-follows g c =
    all_parts c.args.draws.now.number c.args.station c.args.self.now c.loop-part.self c.loop-part.part (omega arith) c.loop-part.invariant.follows

pub returns-clause-draws : goal.returns-clause-draws
returns-clause-draws g c =
    let all : c.loop-part.part ≡ 8 = omega arith in
    c.loop-part.invariant.draws ∙ ap (λ (n : ℕ). record { number = c.args.draws.now.number; made = draws_before c.args.station n }) all
