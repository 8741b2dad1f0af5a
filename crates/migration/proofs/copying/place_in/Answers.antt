-- A journal that has another record is not copied into.
use Rattle.std.proofs.Common.{rules, ◌≡◌, Bool, subst}
use Rattle.migration.proofs.PlaceLemmas.{read_another}
use Rattle.migration.specs.Matching.{IsMatched}
use Rattle.records.specs.declared.formats.Format.TheVariants.{Second}
use Rattle.migration.proofs.copying.place_in.Goals as goal

pub returns-then-found-clause-barred : goal.returns-then-found-clause-barred
returns-then-found-clause-barred g c =
    let read = c.in_ok-found.ensures in
    let second : c.read_beside.new.opening.format ≡ Second = search rules in
    read_another c.read_beside.new.opening c.args.records.now read.all.0 c.in_ok-found.found.same (g.D.Disk.content c.args.opening.now.ahead.disk) read.all.1 second
    c.read_beside.ensures.disk.same
    (subst (λ (b : Bool). IsMatched b c.in_ok-found.found.same c.args.records.now read.all.0) c.if-found.true read.all.2)
