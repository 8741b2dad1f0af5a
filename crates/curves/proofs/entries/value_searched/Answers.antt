-- The last entry up to the instant stands at most there, and the first one after it later.
use Rattle.std.proofs.Common.{◌∙◌}
use Rattle.rising.proofs.Parting.{up_to_place, after_place}
use Rattle.curves.specs.Entries.{instant_of}
use Rattle.curves.proofs.entries.value_searched.Goals as goal

pub amount_prorated-requires-clause-from : goal.amount_prorated-requires-clause-from
amount_prorated-requires-clause-from c =
    up_to_place instant_of c.args.at _ _ _ c.in-Some.entry.now (c.split_at.ensures.front ∙ c.count_to.ensures.front) c.in-Some.ensures.value

pub amount_prorated-requires-clause-until : goal.amount_prorated-requires-clause-until
amount_prorated-requires-clause-until c =
    after_place instant_of c.args.at _ _ _ c.in-Some-first.next.now (c.split_at.ensures.back ∙ c.count_to.ensures.back) c.in-Some-first.ensures.value
