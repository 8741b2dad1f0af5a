-- The periods that have begun, without those that have ended.
use Rattle.std.proofs.Common.{◌∙◌, ap}
use Rattle.std.specs.Prelude.{filter}
use Rattle.rising.specs.Lists.{Kept}
use Rattle.ratings.specs.Parts.{meets}
use Rattle.ratings.specs.Spans.{Span}
use Rattle.ratings.proofs.CuttingLemmas.{meeting_is}
use Rattle.ratings.proofs.periods.Periods.meeting.Goals as goal

pub returns : goal.returns
returns c =
    c.split_at-2.ensures.back ∙ c.count_ended.ensures.back
    ∙ meeting_is c.args.lo c.args.hi c.split_at.result.0.now c.as_slice-list.result.now c.self.inside.list.list (c.split_at.ensures.front ∙ c.count_to.ensures.front)
    c.as_slice-list.ensures.list
    ∙ ap (λ (k : Kept Span). filter (meets c.args.lo c.args.hi) k.list) c.self.view_is
