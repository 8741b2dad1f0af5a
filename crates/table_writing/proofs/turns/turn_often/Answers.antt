use Rattle.std.proofs.Common.{◌≤◌, not, refl, ◌∙◌, ap, arith}
use Rattle.history.specs.After.{after_turns}
use Rattle.desk.proofs.TurnLemmas.{turn_counts, turn_ends}
use Rattle.table_writing.proofs.turns.turn_often.Goals as goal

pub loop-made-init : goal.loop-made-init
unfolding after_turns
loop-made-init g c = record { history = refl; claims = c.requires; disk = refl }

pub loop-made-preserved : goal.loop-made-preserved
loop-made-preserved g c =
    let r = c.loop-made.office.register in
    record {
      history = turn_counts r c.args.office.now.register.history c.turn.new.self.register.history c.loop-made.made c.loop-made.invariant.claims c.loop-made.invariant.history c.in_ok-turn.ensures.history;
      claims = λ site day. c.in_ok-turn.ensures.claims site day ∙ c.loop-made.invariant.claims site day;
      disk = c.in_ok-turn.ensures.disk ∙ c.loop-made.invariant.disk;
    }

pub returns-then-is_none-clause-turned : goal.returns-then-is_none-clause-turned
returns-then-is_none-clause-turned g c =
    let below : c.loop-made.made ≤ c.args.count = omega arith in
    turn_ends c.loop-made.office.register c.args.office.now.register.history c.turn.new.self.register.history c.loop-made.made c.args.count
    c.in_ok-turn.field-0 c.loop-made.invariant.claims c.loop-made.invariant.history below c.in_ok-turn.ensures.day
    (ap not c.if-is_none.ensures) c.in_ok-turn.ensures.history
