use Rattle.records.proofs.SheetLemmas.{AreKept}
use Rattle.records.proofs.sheet_drafts.list_from.Given as goal

abbrev pub invariant-loop : goal.invariant-loop
invariant-loop l = AreKept l.count l.counter l.bytes l.rest l.texts.items
