use Rattle.std.proofs.Common.{◌≡◌, ◌+◌, ◌≤◌, length, not, refl, ◌∙◌, ap, arith}
use Rattle.history.specs.After.{after_turns}
use Rattle.register.specs.Registered.{first_unclaimed}
use Rattle.desk.proofs.TurnLemmas.{turn_adds, turn_counts, turn_ends, turn_stays}
use Rattle.desk.proofs.answers.turn_often.Goals as goal

pub loop-published-init : goal.loop-published-init
unfolding after_turns
loop-published-init g c = record { history = refl; claims = c.requires; grown = omega arith; disk = refl }

pub loop-published-preserved : goal.loop-published-preserved
loop-published-preserved g c =
    let r = c.loop-published.office.register in
    let after = c.turn.new.self.register.history in
    let more : length after.events ≡ length r.history.events + 1 =
    turn_adds r.history after (first_unclaimed r) c.in_ok-turn.field-0 c.in_ok-turn.ensures.day c.if-is_none.ensures c.in_ok-turn.ensures.history in
    record {
      history = turn_counts r c.args.office.now.register.history after c.loop-published.published c.loop-published.invariant.claims c.loop-published.invariant.history c.in_ok-turn.ensures.history;
      claims = λ site day. c.in_ok-turn.ensures.claims site day ∙ c.loop-published.invariant.claims site day;
      grown = omega (arith, c.loop-published.invariant.grown);
      disk = c.in_ok-turn.ensures.disk ∙ c.loop-published.invariant.disk;
    }

pub returns-then-is_none-clause-history : goal.returns-then-is_none-clause-history
returns-then-is_none-clause-history g c =
    let below : c.loop-published.published ≤ c.args.count = omega arith in
    turn_ends c.loop-published.office.register c.args.office.now.register.history c.turn.new.self.register.history c.loop-published.published c.args.count
    c.in_ok-turn.field-0 c.loop-published.invariant.claims c.loop-published.invariant.history below c.in_ok-turn.ensures.day
    (ap not c.if-is_none.ensures) c.in_ok-turn.ensures.history

pub returns-then-is_none-clause-published : goal.returns-then-is_none-clause-published
returns-then-is_none-clause-published g c =
    let r = c.loop-published.office.register in
    let after = c.turn.new.self.register.history in
    let same : length after.events ≡ length r.history.events =
    turn_stays r.history after (first_unclaimed r) c.in_ok-turn.field-0 c.in_ok-turn.ensures.day c.if-is_none.ensures c.in_ok-turn.ensures.history in
    omega (arith, c.loop-published.invariant.grown)
