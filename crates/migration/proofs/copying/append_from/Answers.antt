-- What is appended are the records behind those that the journal has.
use Rattle.std.proofs.Common.{◌≡◌, ◌-◌, List, drop, length, take, ◌∙◌, ap, subst}
use Rattle.journal.specs.JournalBytes.{front}
use Rattle.migration.proofs.AppendLemmas.{goes_behind, slice_is}
use Rattle.migration.specs.Copying.{GoesBehind}
use Rattle.records.specs.Sheets.{Record}
use Rattle.records.specs.declared.formats.Format.{Format}
use Rattle.records.specs.declared.formats.Format.TheVariants.{Second}
use Rattle.migration.proofs.copying.append_from.Goals as goal

pub returns-clause-appended : goal.returns-clause-appended
returns-clause-appended g c first rest parts long held =
    let appended = c.append_all-appended in
    let records = c.args.records.now in
    let journal = appended.new.journal in
    let slice = take (length records - c.args.place) (drop c.args.place records) in
    let at : c.args.journal.gate ≡ length (front Second first) = held.gate_is ∙ ap (λ (f : Format). length (front f first)) c.requires.format in
    rw c.close.ensures
    (subst (λ (l : List Record). GoesBehind g.D.Disk first l appended.result c.args.journal.disk journal.disk)
    (slice_is records first rest c.args.place parts long)
    (goes_behind g.D.Disk first slice c.args.journal.gate appended.result c.args.journal.disk journal appended.ensures.format at
    (appended.ensures.appended first held) (appended.ensures.any_moment first held) (appended.ensures.wrote first held) appended.ensures.only))
