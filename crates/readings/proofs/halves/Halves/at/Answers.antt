-- What stands at the instant stands in the half that the instant belongs to.
use Rattle.std.proofs.Common.{◌∙◌, sym}
use Rattle.rising.proofs.Placing.{stands_behind, none_stands, at_front}
use Rattle.readings.specs.Readings.{instant_of}
use Rattle.readings.proofs.HalvesLemmas.{left_rises, right_rises}
use Rattle.readings.proofs.halves.Halves.at.Goals as goal

pub reading_at-requires : goal.reading_at-requires
reading_at-requires c = right_rises c.args.self.now.left.now c.args.self.now.right.now c.requires

pub reading_at-requires-else-is_on_right : goal.reading_at-requires-else-is_on_right
reading_at-requires-else-is_on_right c = left_rises c.args.self.now.left.now c.args.self.now.right.now c.requires

pub returns-then-is_on_right : goal.returns-then-is_on_right
returns-then-is_on_right c =
    c.reading_at.ensures
    ∙ sym (stands_behind instant_of c.args.at c.args.self.now.left.now c.args.self.now.right.now (c.is_on_right.ensures.right c.if-is_on_right.true))

pub returns-else-is_on_right : goal.returns-else-is_on_right
returns-else-is_on_right c =
    c.reading_at-else-is_on_right.ensures
    ∙ sym (at_front instant_of c.args.at c.args.self.now.left.now c.args.self.now.right.now
    (none_stands instant_of c.args.at c.args.self.now.right.now (c.is_on_right.ensures.left c.if-is_on_right.false)))
