-- The half that the instant belongs to tells.
use Rattle.readings.proofs.HalvesLemmas.{left_rises, right_rises, up_to_on_left, up_to_on_right}
use Rattle.readings.proofs.SpanLemmas.{front_to, back_to}
use Rattle.readings.proofs.halves.Halves.count_to.Goals as goal

pub count_to-requires : goal.count_to-requires
count_to-requires c = right_rises c.args.self.now.left.now c.args.self.now.right.now c.requires

pub count_to-requires-else-is_on_right : goal.count_to-requires-else-is_on_right
count_to-requires-else-is_on_right c = left_rises c.args.self.now.left.now c.args.self.now.right.now c.requires

pub returns-then-is_on_right-clause-front : goal.returns-then-is_on_right-clause-front
returns-then-is_on_right-clause-front c =
    front_to c.args.at _ _ c.requires
    (up_to_on_right c.args.at c.args.self.now.left.now c.args.self.now.right.now c.count_to.result (c.is_on_right.ensures.right c.if-is_on_right.true)
    c.count_to.ensures.within c.count_to.ensures.front)

pub returns-then-is_on_right-clause-back : goal.returns-then-is_on_right-clause-back
returns-then-is_on_right-clause-back c =
    back_to c.args.at _ _ c.requires
    (up_to_on_right c.args.at c.args.self.now.left.now c.args.self.now.right.now c.count_to.result (c.is_on_right.ensures.right c.if-is_on_right.true)
    c.count_to.ensures.within c.count_to.ensures.front)

pub returns-else-is_on_right-clause-front : goal.returns-else-is_on_right-clause-front
returns-else-is_on_right-clause-front c =
    front_to c.args.at _ _ c.requires
    (up_to_on_left c.args.at c.args.self.now.left.now c.args.self.now.right.now c.count_to-else-is_on_right.result (c.is_on_right.ensures.left c.if-is_on_right.false)
    c.count_to-else-is_on_right.ensures.within c.count_to-else-is_on_right.ensures.front)

pub returns-else-is_on_right-clause-back : goal.returns-else-is_on_right-clause-back
returns-else-is_on_right-clause-back c =
    back_to c.args.at _ _ c.requires
    (up_to_on_left c.args.at c.args.self.now.left.now c.args.self.now.right.now c.count_to-else-is_on_right.result (c.is_on_right.ensures.left c.if-is_on_right.false)
    c.count_to-else-is_on_right.ensures.within c.count_to-else-is_on_right.ensures.front)
