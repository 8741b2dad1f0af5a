-- What the copying of records into a journal of the second format comes to, over a disk: at every moment, and at its end.
use Rattle.std.specs.Prelude.{◌≡◌, ◌⊎◌, ℕ, zero, suc, List, [], ◌∷◌, ◌++◌, length, flat_map, Some, IfSome, IsSomeAnd, Result, Ok, Err, ⊤}
use mathlib.Core.List.{IsPrefix}
use Rattle.devices.specs.Disks.{IsOverwritten, overwritten}
use Rattle.devices.specs.Faults.{Rose}
use Rattle.devices.specs.declared.disks.Disk.{Ghosts}
use Rattle.journal.specs.JournalBytes.{HasHeader, IsDamagedAt, IsForeign, IsJournalOf, IsTaken, block, empty_journal, front}
use Rattle.journal.specs.Moments.{LeavesOnly, OnlyReads, SyncsFirst}
use Rattle.journal.specs.declared.making.InitFault.{InitFault}
use Rattle.journal.specs.declared.making.InitFault.TheVariants as making
use Rattle.journal.specs.declared.opening.OpenFault.TheVariants.{Fault, NotAJournal, Damaged, NoMemory}
use Rattle.records.specs.Payloads.{closed_gate}
use Rattle.records.specs.Sheets.{Record}
use Rattle.records.specs.declared.formats.Format.{Format}
use Rattle.records.specs.declared.formats.Format.TheVariants.{First, Second}
use Rattle.migration.specs.Matching.{DiffersAt}
use Rattle.migration.specs.declared.copying.CopyFault.{CopyFault}
use Rattle.migration.specs.declared.copying.CopyFault.TheVariants.{Open, Differs}

-- a journal may be made over these bytes
abbrev pub IsFree : List ℕ → Type 0
IsFree bytes = (¬ IsTaken bytes) × (¬ IsForeign bytes)

-- a journal of the second format, of some of these records from the first on
abbrev pub IsFrontOf : List Record → List ℕ → Type 0
IsFrontOf records bytes = (front : List Record) × IsPrefix front records × IsJournalOf Second front bytes

-- a copy of these records may begin on these bytes: a journal may be made over them, or they are one of the second format, of some of the records
-- from the first on
abbrev pub MayBegin : List Record → List ℕ → Type 0
MayBegin records bytes = IsFree bytes ⊎ IsFrontOf records bytes

-- why a copy is not begun over these bytes, which have the header of a journal
abbrev pub IsBarred : List Record → List ℕ → CopyFault → Type 0
IsBarred records bytes (Differs zero) = HasHeader First bytes
IsBarred records bytes (Open (Damaged at)) = IsDamagedAt Second at bytes
IsBarred records bytes (Differs (suc before)) =
    (copied : List Record) × IsJournalOf Second copied bytes × DiffersAt (suc before) records copied
IsBarred records bytes (Open NotAJournal) = ⊥
IsBarred records bytes (Open Fault) = ⊤
IsBarred records bytes (Open NoMemory) = ⊤

-- What comes of a copy over these bytes, where nothing fails: it is done, or why it is not begun.
abbrev pub IsAnswered : {T : Type 0} → List Record → List ℕ → Result T CopyFault → Type 0
IsAnswered records bytes (Ok done) = MayBegin records bytes
IsAnswered records bytes (Err (Open NotAJournal)) = IsForeign bytes
IsAnswered records bytes (Err (Open Fault)) = ⊤
IsAnswered records bytes (Err (Open NoMemory)) = ⊤
IsAnswered records bytes (Err (Open (Damaged at))) = IsTaken bytes × IsBarred records bytes (Open (Damaged at))
IsAnswered records bytes (Err (Differs number)) = IsTaken bytes × IsBarred records bytes (Differs number)

-- What a stop leaves of a copy that has begun: what a copy of the records may begin on again. But where the journal was being made any bytes may
-- stand in the place of its 17, and these may happen to be a journal of the first format without records.
abbrev pub IsLeftByCopy : List Record → List ℕ → Type 0
IsLeftByCopy records image = MayBegin records image ⊎ (image ≡ empty_journal First)

-- a journal of the second format, of these first records and perhaps of some further ones
abbrev pub IsBetween : List Record → List Record → List ℕ → Type 0
IsBetween first records bytes =
    (front : List Record) × IsPrefix first front × IsPrefix front records × IsJournalOf Second front bytes

-- what is written to append records: each behind an open gate, and a closed gate behind the last; for none nothing
abbrev pub appended : List Record → List ℕ
appended [] = []
appended (piece ∷ more) = flat_map (block Second) (piece ∷ more) ++ closed_gate ∷ []

-- What a copy over these bytes is once it is done. One that is made has the records, a closed gate, and nothing behind it. In a journal that
-- stands there the records that it lacks are written from its closed gate on, and no other byte changes.
abbrev pub IsCopied : List Record → List ℕ → List ℕ → Type 0
IsCopied records bytes copy =
    (IsFree bytes × (copy ≡ front Second records ++ closed_gate ∷ []))
    ⊎ ((first rest : List Record) × IsJournalOf Second first bytes × (records ≡ first ++ rest)
    × (copy ≡ overwritten bytes (length (front Second first)) (appended rest)))

module _ {D : Type 0} (g : Ghosts D) where
  -- A copy has begun over these bytes, where it may. Until the sync that came first was done, a stop left what it might have left before. From
  -- then on it left what is left by a copy; and where a journal stood, one of its records and perhaps of further ones.
  abbrev pub HasBegun : List Record → List ℕ → D → D → Type 0
  HasBegun records bytes found left =
      (IsFree bytes × SyncsFirst g found left (IsLeftByCopy records))
      ⊎ ((first : List Record) × IsJournalOf Second first bytes × IsPrefix first records × SyncsFirst g found left (IsBetween first records))

  -- the disk has a journal of the second format of just these records, and so has whatever a stop may leave
  pub record HasAll (records : List Record) (disk : D) : Type 0 where
    pub now : IsSomeAnd (g.content disk) (IsJournalOf Second records)
    pub images : (image : List ℕ) → g.may_leave disk image → IsJournalOf Second records image

  -- what a disk of these bytes is left with: a whole copy; or what it was found with, unless a failure or a want of memory came behind the beginning
  abbrev pub IsLeftWith : {T : Type 0} → List Record → List ℕ → Result T CopyFault → D → D → Type 0
  IsLeftWith records bytes (Ok done) found left =
      HasBegun records bytes found left × HasAll records left × IsSomeAnd (g.content left) (IsCopied records bytes)
  IsLeftWith records bytes (Err (Open Fault)) found left = OnlyReads g found left ⊎ HasBegun records bytes found left
  IsLeftWith records bytes (Err (Open NoMemory)) found left = OnlyReads g found left ⊎ HasBegun records bytes found left
  IsLeftWith records bytes (Err (Open NotAJournal)) found left = OnlyReads g found left
  IsLeftWith records bytes (Err (Open (Damaged at))) found left = OnlyReads g found left
  IsLeftWith records bytes (Err (Differs number)) found left = OnlyReads g found left

  -- what a copy comes to, over a disk that tells its content
  abbrev pub Copies : {T : Type 0} → List Record → Result T CopyFault → D → D → Type 0
  Copies records copied found left =
      IfSome (g.content found) (λ bytes. IsAnswered records bytes copied × IsLeftWith records bytes copied found left)

-- what the making of a journal comes to for a copy: one that stands there already need not be made
abbrev pub beginning_of : Result (Unit {0}) InitFault → Result (Unit {0}) CopyFault
beginning_of (Ok done) = Ok tt
beginning_of (Err making.Exists) = Ok tt
beginning_of (Err making.NotAJournal) = Err (Open NotAJournal)
beginning_of (Err making.Fault) = Err (Open Fault)

-- What a stop leaves while a journal is being made: bytes over which one may be made, or one of no records.
abbrev pub IsLeftMaking : List ℕ → Type 0
IsLeftMaking image = IsFree image ⊎ ((format : Format) × (image ≡ empty_journal format))

module _ {D : Type 0} (g : Ghosts D) where
  -- the beginning of a copy over these bytes: a journal stays, and where one may be made, one of no records is
  pub record IsMadeOver (bytes : List ℕ) (old new : D) : Type 0 where
    pub free : IsFree bytes
    pub made : g.content new ≡ Some (empty_journal Second)
    pub any_moment : SyncsFirst g old new IsLeftMaking

  pub record IsFoundOver (bytes : List ℕ) (old new : D) : Type 0 where
    pub taken : IsTaken bytes
    pub reads : OnlyReads g old new
    pub any_moment : SyncsFirst g old new (λ image. image ≡ bytes)

  abbrev pub Begins : {T : Type 0} → List ℕ → Result T CopyFault → D → D → Type 0
  Begins bytes (Ok done) old new = IsFoundOver bytes old new ⊎ IsMadeOver bytes old new
  Begins bytes (Err (Open NotAJournal)) old new = IsForeign bytes × OnlyReads g old new
  Begins bytes (Err (Open Fault)) old new = OnlyReads g old new ⊎ (IsFree bytes × SyncsFirst g old new IsLeftMaking)
  Begins bytes (Err fault) old new = ⊥

  -- A copy went on behind the records of a journal of these bytes. A stop left what it might have left before, or one of these records and perhaps
  -- of further ones.
  pub record WentOn (records : List Record) (bytes : List ℕ) (old new : D) : Type 0 where
    pub first : List Record
    pub rest : List Record
    pub stood : IsJournalOf Second first bytes
    pub parts : records ≡ first ++ rest
    pub any_moment : LeavesOnly g old new (λ image. g.may_leave old image ⊎ IsBetween first records image)

  -- what comes of a copy over a journal of these bytes, and what it leaves
  abbrev pub GoesOn : {T : Type 0} → List Record → List ℕ → Result T CopyFault → D → D → Type 0
  GoesOn records bytes (Ok done) old new =
      (went : WentOn records bytes old new) × HasAll g records new
      × (g.content new ≡ Some (overwritten bytes (length (front Second went.first)) (appended went.rest)))
  GoesOn records bytes (Err (Open Fault)) old new = OnlyReads g old new ⊎ WentOn records bytes old new
  GoesOn records bytes (Err (Open NoMemory)) old new = OnlyReads g old new ⊎ WentOn records bytes old new
  GoesOn records bytes (Err fault) old new = IsBarred records bytes fault × OnlyReads g old new

  -- what comes of the appending of records behind the first ones
  abbrev pub GoesBehind : {T : Type 0} → List Record → List Record → Result T CopyFault → D → D → Type 0
  GoesBehind first rest (Ok done) old new =
      LeavesOnly g old new (IsBetween first (first ++ rest)) × HasAll g (first ++ rest) new
      × IsOverwritten (g.content old) (length (front Second first)) (appended rest) (g.content new)
  GoesBehind first rest (Err (Open Fault)) old new = LeavesOnly g old new (IsBetween first (first ++ rest))
  GoesBehind first rest (Err (Open NoMemory)) old new = LeavesOnly g old new (IsBetween first (first ++ rest))
  GoesBehind first rest (Err fault) old new = ⊥

-- the disk failed
abbrev pub HasFailed : {T : Type 0} → Result T CopyFault → Type 0
HasFailed copied = copied ≡ Err (Open Fault)

-- the count of faults rises where the disk failed, and stays where the copy is done, and where another record stands there
abbrev pub HasCause : {T : Type 0} → ℕ → ℕ → Result T CopyFault → Type 0
HasCause before now (Ok done) = now ≡ before
HasCause before now (Err (Open why)) = why ≡ Fault → Rose before now
HasCause before now (Err (Differs number)) = now ≡ before
