use Rattle.std.proofs.Common.{drop}
use Rattle.std.proofs.lemmas.Bool.Decides.{Decides-eqb}
use Rattle.std.proofs.lemmas.Slice.Eq.{starts_is}
use Rattle.journal.specs.JournalBytes.{header}
use Rattle.records.specs.declared.formats.Format.TheVariants.{First, Second}
use Rattle.journal.proofs.formats.format_of.Goals as goal

pub returns-then-starts_with-clause-some : goal.returns-then-starts_with-clause-some
returns-then-starts_with-clause-some c =
    let here = c.starts_with in
    (drop 16 c.args.bytes.now, (starts_is Decides-eqb c.args.bytes.now (header First) here.result here.ensures.value).0 c.if-starts_with.true)

pub returns-then-starts_with-2-clause-some : goal.returns-then-starts_with-2-clause-some
returns-then-starts_with-2-clause-some c =
    let here = c.starts_with-else-starts_with in
    (drop 16 c.args.bytes.now, (starts_is Decides-eqb c.args.bytes.now (header Second) here.result here.ensures.value).0 c.if-starts_with-2.true)
