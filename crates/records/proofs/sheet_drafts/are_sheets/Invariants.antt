use Rattle.records.proofs.SheetLemmas.{AreLeft}
use Rattle.records.proofs.sheet_drafts.are_sheets.Given as goal

abbrev pub invariant-loop : goal.invariant-loop
invariant-loop l = AreLeft l.count l.counter l.bytes l.rest
