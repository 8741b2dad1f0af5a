-- What stands there is read, and what is further is appended.
use Rattle.std.proofs.Common.{List, Option, ℕ, IfSome, subst}
use Rattle.journal.specs.JournalBytes.{IsJournalOf}
use Rattle.migration.proofs.GoLemmas.{appended_goes_on, barred_goes_on}
use Rattle.migration.proofs.ReadLemmas.{durable_still, ended_stands}
use Rattle.records.specs.declared.formats.Format.{Format}
use Rattle.records.specs.declared.formats.Format.TheVariants.{Second}
use Rattle.migration.proofs.copying.go_on.Goals as goal

pub returns-in-Ok-clause-goes_on : goal.returns-in-Ok-clause-goes_on
returns-in-Ok-clause-goes_on g c durable =
    let placed = c.in-Ok.ensures in
    let place = placed.place in
    let reads = c.place_in.ensures.disk in
    let opening = c.place_in.new.opening in
    let stands = subst (λ (f : Format). IfSome (g.D.Disk.content opening.ahead.disk) (IsJournalOf f place.0)) placed.format (ended_stands place.0 opening place.4) in
    let safe = durable_still _ _ _ _ reads.same reads.images durable in
    appended_goes_on g.D.Disk c.args.records.now place.0 place.1 c.append_from.result.0 c.args.opening.ahead.disk opening.ahead.disk c.finish.result.disk
    c.append_from.result.1 reads place.2 (subst (λ (o : Option (List ℕ)). IfSome o (IsJournalOf Second place.0)) reads.same stands)
    c.finish.ensures.disk
    (λ told. c.append_from.ensures.appended place.0 place.1 place.2 place.3 (c.finish.ensures.holds place.0 place.4 told safe))

pub returns-in-Err-clause-goes_on : goal.returns-in-Err-clause-goes_on
returns-in-Err-clause-goes_on g c durable =
    rw c.give_up.ensures
    (barred_goes_on g.D.Disk (Unit {0}) c.args.records.now c.in-Err.fault c.args.opening.ahead.disk c.place_in.new.opening.ahead.disk c.in-Err.ensures.barred c.place_in.ensures.disk)
