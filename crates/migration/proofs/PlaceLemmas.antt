-- Where a copy begins behind the records that stand in a journal already.
use Rattle.std.proofs.Common.{◌≡◌, ℕ, ◌+◌, List, Option, Some, None, IfSome, subst, arith}
use Rattle.devices.specs.declared.disks.Disk.{Ghosts}
use Rattle.journal.specs.JournalBytes.{IsJournalOf}
use Rattle.journal.specs.Reading.{HasEnded}
use Rattle.journal.specs.declared.opening.Opening.{Opening}
use Rattle.migration.proofs.GoLemmas.{differs_barred}
use Rattle.migration.proofs.ReadLemmas.{ended_stands}
use Rattle.migration.specs.Copying.{IsBarred}
use Rattle.migration.specs.Matching.{DiffersAt}
use Rattle.migration.specs.declared.copying.CopyFault.TheVariants.{Differs}
use Rattle.records.specs.Sheets.{Record}
use Rattle.records.specs.declared.formats.Format.{Format}
use Rattle.records.specs.declared.formats.Format.TheVariants.{Second}

-- one that has another record is not copied into
another_barred : (content : Option (List ℕ)) (records copied : List Record) (same : ℕ) → IfSome content (IsJournalOf Second copied)
    → DiffersAt (same + 1) records copied → IfSome content (λ bytes. IsBarred records bytes (Differs (same + 1)))
another_barred None records copied same journal differs = tt
another_barred (Some bytes) records copied same journal differs = differs_barred records copied bytes same (same + 1) (omega arith) journal differs

pub read_another : {D : Type 0} {g : Ghosts D} (opening : Opening D g) (records copied : List Record) (same : ℕ) (content : Option (List ℕ))
    → HasEnded copied opening → opening.format ≡ Second → g.content opening.ahead.disk ≡ content → DiffersAt (same + 1) records copied
    → IfSome content (λ bytes. IsBarred records bytes (Differs (same + 1)))
read_another {g = g} opening records copied same content ended second stays differs =
    another_barred content records copied same
    (subst (λ (o : Option (List ℕ)). IfSome o (IsJournalOf Second copied)) stays
    (subst (λ (f : Format). IfSome (g.content opening.ahead.disk) (IsJournalOf f copied)) second (ended_stands copied opening ended)))
    differs
