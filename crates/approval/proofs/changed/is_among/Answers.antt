-- What the search finds.
use Rattle.std.proofs.Common.{◌∙◌}
use Rattle.approval.proofs.ChangedLemmas.{searched_days}
use Rattle.approval.proofs.changed.is_among.Goals as goal

pub returns : goal.returns
returns c =
    c.is_ok.ensures.value
    ∙ searched_days c.binary_search.result c.args.days.now c.args.day c.requires c.binary_search.ensures.bound c.binary_search.ensures.ok c.binary_search.ensures.position
