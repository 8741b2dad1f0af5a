use Rattle.office.proofs.BoundLemmas.{limit_from_opening}
use Rattle.office.proofs.CourseLemmas.{adds_steps, legal_steps, limit_steps, told_ever_after, told_next}
use Rattle.office.proofs.laws.accepted_edits_stay.Goals as goal

pub returns-clause-legal : goal.returns-clause-legal
returns-clause-legal c old new steps goes legal = legal_steps old steps new goes legal

pub returns-clause-records : goal.returns-clause-records
returns-clause-records c old new steps goes =
    let adds = adds_steps old steps new goes in
    (adds.records, adds.accepted_are, adds.edits_are)

pub returns-clause-numbered : goal.returns-clause-numbered
returns-clause-numbered c old new before after edit told first goes = told_next old new before after edit told first goes

pub returns-clause-repeated : goal.returns-clause-repeated
returns-clause-repeated c old new before after edit told legal goes = told_ever_after old new before after edit told legal goes

pub returns-clause-limits : goal.returns-clause-limits
returns-clause-limits c old new steps goes = (adds_steps old steps new goes).limits

pub returns-clause-format : goal.returns-clause-format
returns-clause-format c old new steps goes = (adds_steps old steps new goes).format

pub returns-clause-limit_from_opening : goal.returns-clause-limit_from_opening
returns-clause-limit_from_opening c old new steps pieces opened goes keeps = limit_from_opening old new steps pieces opened goes keeps

pub returns-clause-limit : goal.returns-clause-limit
returns-clause-limit c old new steps calls goes keeps = limit_steps old steps new calls goes keeps
