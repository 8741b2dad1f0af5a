-- A migration that began to copy, and what a cabinet has that is found behind a stop of it.
use Rattle.std.specs.Prelude.{◌≡◌, ℕ, true, List, Some, IsSome, IsSomeAnd, Result}
use Rattle.devices.specs.declared.disks.Disk.{Ghosts}
use Rattle.migration.specs.Copying.{HasBegun}
use Rattle.migration.specs.Reading.{HasRoom}
use Rattle.migration.specs.declared.copying.CopyFault.{CopyFault}
use Rattle.office_inputs.specs.Usual.{usual}
use Rattle.records.specs.Sheets.{Record}
use Rattle.commands.specs.Joined.{Has}
use Rattle.commands.specs.Migrating.{AreReadUnder, IsHandledUnder, IsLeftCopied}
use Rattle.commands.specs.Places.{bytes_found}
use Rattle.commands.specs.Worlds.{Shelf}

module _ {D : Type 0} (g : Ghosts D) where
  -- A migration began to copy: the records of the journal under the one name were read, they have room, and a copy of them was begun over the
  -- bytes of the disk that was found under the other name, or made there.
  pub record BeginsToCopy (from to : List ℕ) (before after : Shelf D) : Type 0 where
    pub records : List Record
    pub between : Shelf D
    pub read : AreReadUnder g from records before between
    pub room : HasRoom usual.journal_bytes records
    pub copied : Result (Unit {0}) CopyFault
    pub copy : IsHandledUnder g to true (IsLeftCopied g records copied) between after
    pub bytes : List ℕ
    pub stood : g.content copy.found ≡ Some bytes
    pub begun : HasBegun g records bytes copy.found copy.left

  -- the cabinet tells the bytes that a copy would be begun on
  abbrev pub TellsCopy : List ℕ → Shelf D → Type 0
  TellsCopy to shelf = IsSomeAnd shelf.places (λ places. IsSome (bytes_found g (places to)))

  -- these bytes stand under the one name, and this image under the other, or nothing where it has no bytes
  abbrev pub HasBoth : List ℕ → List ℕ → List ℕ → List ℕ → Shelf D → Type 0
  HasBoth from to journal image shelf =
      Has g from journal shelf × IsSomeAnd shelf.places (λ places. bytes_found g (places to) ≡ Some image)
