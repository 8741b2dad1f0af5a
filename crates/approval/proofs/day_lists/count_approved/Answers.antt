-- As many are approved among the standings as in the calendar.
use Rattle.std.specs.Prelude.{◌≡◌, ◌&&◌, length, filter}
use Rattle.std.proofs.Common.{rules, tests, ◌∙◌}
use Rattle.std.proofs.lemmas.Iterator.{YieldsList-from_slice}
use Rattle.std.proofs.lemmas.Iterator.Consumers.{YieldsList-from_filter, count_from_yields_List}
use Rattle.std.proofs.lemmas.List.Sums.{length-filter}
use Rattle.approval.specs.Statuses.{is_approved}
use Rattle.approval.specs.declared.days.DayStanding.{DayStanding}
use Rattle.approval.proofs.CountLemmas.{counted}
use Rattle.fixed_units.specs.Quantities.{is_day}
use Rattle.approval.proofs.day_lists.count_approved.Goals as goal

pub returns : goal.returns
returns c =
    let some : c.count.result ≡ length (filter (λ (s : DayStanding). is_day s.day && is_approved s.status) c.args.list.now) =
    count_from_yields_List _ c.count.result c.count.ensures.ran
    (YieldsList-from_filter _ (λ (s : DayStanding). is_day s.day && is_approved s.status) (YieldsList-from_slice c.args.list.now (cc)) c.filter.ensures.closure (λ x r q k. search (rules, tests))) in
    some ∙ length-filter (λ (s : DayStanding). is_day s.day && is_approved s.status) c.args.list.now ∙ counted c.args.list.now c.requires
