-- The days between two that have inputs are those from the first of these to the last.
use Rattle.office_inputs.specs.Kept.{in_force}
use Rattle.depend.proofs.CoverLemmas.{used_cover, none_used}
use Rattle.depend.proofs.spans.used_days.Goals as goal

pub returns-in-Some : goal.returns-in-Some
returns-in-Some c =
    rw c.days_of.ensures.value
    (used_cover (in_force c.args.inputs.now) c.args.place.site c.in-Some.span.0 c.in-Some.span.1 c.in-Some.ensures c.days_of.ensures.first c.days_of.ensures.last)

pub returns-in-None : goal.returns-in-None
returns-in-None c = none_used (in_force c.args.inputs.now) c.args.place.site c.in-None.ensures
