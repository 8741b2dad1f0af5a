-- Records appended one behind another, and what a stop leaves.
use Rattle.std.proofs.Common.{◌≡◌, ◌⊎◌, inl, inr, ℕ, ◌+◌, ◌-◌, ◌<◌, ◌≤◌, true, false, List, [], ◌∷◌, ◌++◌, length, take, drop, get_or, flat_map, Option, Some, None, IfSome, IsSome, IsSomeAnd, Result, Ok, Err, OnOk, IfErr, refl, sym, ◌∙◌, ap, subst, arith, append_assoc, length-append, take-append-drop}
use Rattle.std.proofs.lemmas.Grind.{flat_map-append}
use Rattle.std.proofs.lemmas.List.{append-nil, drop_at, drop_more, length-drop, take_all, take_more}
use Rattle.std.proofs.lemmas.List.Folds.{length-flat_map-take}
use Rattle.devices.specs.declared.disks.Disk.{Ghosts}
use Rattle.devices.specs.Disks.{IsOverwritten}
use Rattle.journal.proofs.Moments.{joined, started, widened}
use Rattle.journal.specs.JournalBytes.{IsJournalOf, StandsFor, block, front}
use Rattle.journal.specs.Keeping.{Holds, in_flight}
use Rattle.journal.specs.Moments.{LeavesOnly}
use Rattle.journal.specs.declared.keeping.AppendFault.{AppendFault}
use Rattle.journal.specs.declared.keeping.AppendFault.TheVariants.{Full, Fault as Failed}
use Rattle.journal.specs.declared.keeping.Journal.{Journal}
use Rattle.journal.specs.declared.opening.OpenFault.TheVariants.{Fault, NotAJournal, Damaged, NoMemory}
use Rattle.migration.proofs.GoLemmas.{between_stands}
use Rattle.migration.proofs.RoomLemmas.{room_is}
use Rattle.migration.specs.Copying.{GoesBehind, HasAll, IsBetween, appended}
use Rattle.migration.specs.declared.copying.CopyFault.{CopyFault}
use Rattle.migration.specs.declared.copying.CopyFault.TheVariants.{Open, Differs}
use Rattle.records.specs.Sheets.{Record}
use Rattle.records.specs.declared.formats.Format.{Format}
use Rattle.records.specs.declared.formats.Format.TheVariants.{Second}

-- the next of some records, behind the first of them
pub next_taken : (records : List Record) (index : ℕ) (piece : Record) → index < length records → piece ≡ get_or records index piece
    → take (index + 1) records ≡ take index records ++ piece ∷ []
next_taken records index piece lt is =
    take_more records index piece lt ∙ ap (λ (r : Record). take index records ++ r ∷ []) (sym is)

next_parts : (records : List Record) (index : ℕ) (piece : Record) → index < length records → piece ≡ get_or records index piece
    → records ≡ take index records ++ piece ∷ drop (index + 1) records
next_parts records index piece lt is =
    sym (take-append-drop index records)
    ∙ ap (λ (l : List Record). take index records ++ l)
    (drop_more records index piece lt ∙ ap (λ (r : Record). r ∷ drop (index + 1) records) (sym is))

blocks_parts : (done rest : List Record)
    → length (flat_map (block Second) (done ++ rest)) ≡ length (flat_map (block Second) done) + length (flat_map (block Second) rest)
blocks_parts done rest =
    ap length (flat_map-append (block Second) done rest) ∙ length-append (flat_map (block Second) done) (flat_map (block Second) rest)

-- the gate behind the next record
pub gate_on : (records : List Record) (index : ℕ) (piece : Record) (start gate after : ℕ) → index < length records → piece ≡ get_or records index piece
    → gate ≡ start + length (flat_map (block Second) (take index records)) → after ≡ gate + length (block Second piece)
    → after ≡ start + length (flat_map (block Second) (take (index + 1) records))
gate_on records index piece start gate after lt is at next =
    let all : length (flat_map (block Second) (take (index + 1) records))
    ≡ length (flat_map (block Second) (take index records)) + length (block Second piece) =
    ap (λ (l : List Record). length (flat_map (block Second) l)) (next_taken records index piece lt is)
    ∙ blocks_parts (take index records) (piece ∷ [])
    ∙ ap (λ (l : List ℕ). length (flat_map (block Second) (take index records)) + length l) (append-nil (block Second piece)) in
    omega (arith, all, at, next)

-- and the room for it
pub room_on : (records : List Record) (index : ℕ) (piece : Record) (start gate limit most : ℕ) → index < length records → piece ≡ get_or records index piece
    → gate ≡ start + length (flat_map (block Second) (take index records)) → start + length (flat_map (block Second) records) + 1 ≤ most → limit ≡ most
    → gate + length (block Second piece) + 1 ≤ limit
room_on records index piece start gate limit most lt is at room same =
    let more = length-flat_map-take (block Second) records index piece lt in
    let here : length (block Second piece) ≡ length (block Second (get_or records index piece)) = ap (λ (r : Record). length (block Second r)) is in
    omega (arith, more, here, at, room, same)

-- some records, and those behind them
pub parts_at : (records done rest : List Record) (place : ℕ) → records ≡ done ++ rest → length done ≡ place
    → records ≡ done ++ take (length records - place) (drop place records)
parts_at records done rest place parts long =
    let behind : drop place records ≡ rest = ap (drop place) parts ∙ drop_at done rest place long in
    let count = length-drop place records in
    let all = take_all (length records - place) (drop place records) (omega (arith, count)) in
    parts ∙ ap (λ (l : List Record). done ++ l) (sym behind ∙ sym all)

pub slice_is : (records done rest : List Record) (place : ℕ) → records ≡ done ++ rest → length done ≡ place
    → take (length records - place) (drop place records) ≡ rest
slice_is records done rest place parts long =
    let count = length-drop place records in
    take_all (length records - place) (drop place records) (omega (arith, count)) ∙ ap (drop place) parts ∙ drop_at done rest place long

-- the room that is left behind the first records
pub room_behind : (limit gate : ℕ) (records done rest : List Record) → records ≡ done ++ rest → gate ≡ length (front Second done)
    → length (front Second records) + 1 ≤ limit → gate + length (flat_map (block Second) rest) + 1 ≤ limit
room_behind limit gate records done rest is at room =
    let whole = room_is records in
    let first = room_is done in
    let parts : length (flat_map (block Second) records) ≡ length (flat_map (block Second) done) + length (flat_map (block Second) rest) =
    ap (λ (l : List Record). length (flat_map (block Second) l)) is ∙ blocks_parts done rest in
    omega (arith, whole, first, parts, at, room)

-- a stop inside an append leaves the record or does not
flight_stands : {T : Type 0} (format : Format) (done : List Record) (piece : Record) (result : Result T AppendFault) (image : List ℕ)
    → StandsFor format done (in_flight piece result) image → StandsFor format done (Some piece) image
flight_stands format done piece (Ok value) image is = is
flight_stands format done piece (Err Full) image is = inl is
flight_stands format done piece (Err (Failed true)) image is = is
flight_stands format done piece (Err (Failed false)) image is = inl is

-- content that is told
told_and : (content : Option (List ℕ)) (P : List ℕ → Type 0) → IsSome content → IfSome content P → IsSomeAnd content P
told_and None P told is = absurd (cc)
told_and (Some bytes) P told is = is

module _ {D : Type 0} (g : Ghosts D) where
  pub left_appending : {T : Type 0} (done : List Record) (piece : Record) (result : Result T AppendFault) (format : Format) (old new : D) → format ≡ Second
      → LeavesOnly g old new (StandsFor format done (in_flight piece result)) → LeavesOnly g old new (StandsFor Second done (Some piece))
  left_appending done piece result format old new is leaves =
      widened g old new (StandsFor format done (in_flight piece result)) (StandsFor Second done (Some piece)) leaves
      (λ image stands. subst (λ (f : Format). StandsFor f done (Some piece) image) is (flight_stands format done piece result image stands))

  module _ (only_now : (disk : D) (image : List ℕ) → g.left_since disk (g.moment disk) image → g.may_leave disk image) where
    stands_now : (done : List Record) (journal : Journal D g) → journal.format ≡ Second → Holds done None journal → (image : List ℕ)
        → g.left_since journal.disk (g.moment journal.disk) image → IsJournalOf Second done image
    stands_now done journal is holds image left =
        subst (λ (f : Format). IsJournalOf f done image) is (holds.images image (only_now journal.disk image left))

    -- before an append
    pub left_still : (done : List Record) (piece : Record) (journal : Journal D g) → journal.format ≡ Second → Holds done None journal
        → LeavesOnly g journal.disk journal.disk (StandsFor Second done (Some piece))
    left_still done piece journal is holds =
        started g journal.disk (StandsFor Second done (Some piece)) (λ image left. inl (stands_now done journal is holds image left))

    pub between_still : (done rest : List Record) (journal : Journal D g) → journal.format ≡ Second → Holds done None journal
        → LeavesOnly g journal.disk journal.disk (IsBetween done (done ++ rest))
    between_still done rest journal is holds =
        started g journal.disk (IsBetween done (done ++ rest))
        (λ image left. (done, ([], append-nil done), (rest, refl), stands_now done journal is holds image left))

  -- one append more
  pub between_on : (done records : List Record) (index : ℕ) (piece : Record) (old mid new : D) → index < length records → piece ≡ get_or records index piece
      → LeavesOnly g old mid (IsBetween done (done ++ records)) → LeavesOnly g mid new (StandsFor Second (done ++ take index records) (Some piece))
      → LeavesOnly g old new (IsBetween done (done ++ records))
  between_on done records index piece old mid new lt here first second =
      let behind = drop (index + 1) records in
      let parts : done ++ records ≡ (done ++ take index records) ++ piece ∷ behind =
      ap (λ (l : List Record). done ++ l) (next_parts records index piece lt here) ∙ sym (append_assoc done (take index records) (piece ∷ behind)) in
      joined g old mid new (IsBetween done (done ++ records)) (StandsFor Second (done ++ take index records) (Some piece)) (IsBetween done (done ++ records))
      first second (λ image is. is)
      (λ image is. between_stands done (done ++ take index records) behind piece (done ++ records) image (take index records, refl) parts is)

  pub holds_on : (done records : List Record) (index : ℕ) (piece : Record) (journal : Journal D g) → index < length records → piece ≡ get_or records index piece
      → Holds ((done ++ take index records) ++ piece ∷ []) None journal → Holds (done ++ take (index + 1) records) None journal
  holds_on done records index piece journal lt here holds =
      subst (λ (l : List Record). Holds l None journal)
      (append_assoc done (take index records) (piece ∷ []) ∙ ap (λ (l : List Record). done ++ l) (sym (next_taken records index piece lt here)))
      holds

  -- and all of them
  pub has_all : (records : List Record) (journal : Journal D g) → journal.format ≡ Second → Holds records None journal → HasAll g records journal.disk
  has_all records journal is holds = record {
    now = told_and (g.content journal.disk) (IsJournalOf Second records) holds.told
        (subst (λ (f : Format). IfSome (g.content journal.disk) (IsJournalOf f records)) is holds.now);
    images = λ image left. subst (λ (f : Format). IsJournalOf f records image) is (holds.images image left);
  }

  pub goes_behind : {T : Type 0} (first rest : List Record) (gate : ℕ) (result : Result T CopyFault) (old : D) (journal : Journal D g)
      → journal.format ≡ Second → gate ≡ length (front Second first) → OnOk result (Holds (first ++ rest) None journal)
      → LeavesOnly g old journal.disk (IsBetween first (first ++ rest))
      → OnOk result (IsOverwritten (g.content old) gate (appended rest) (g.content journal.disk))
      → IfErr result (λ fault. (fault ≡ Open Fault) ⊎ (fault ≡ Open NoMemory)) → GoesBehind g first rest result old journal.disk
  goes_behind first rest gate (Ok value) old journal is at holds leaves wrote only = (
    leaves,
    has_all (first ++ rest) journal is holds,
    subst (λ (n : ℕ). IsOverwritten (g.content old) n (appended rest) (g.content journal.disk)) at wrote,
  )
  goes_behind first rest gate (Err (Open Fault)) old journal is at holds leaves wrote only = leaves
  goes_behind first rest gate (Err (Open NoMemory)) old journal is at holds leaves wrote only = leaves
  goes_behind first rest gate (Err (Open NotAJournal)) old journal is at holds leaves wrote only = elim only [ inl e ↦ absurd (cc) | inr e ↦ absurd (cc) ]
  goes_behind first rest gate (Err (Open (Damaged place))) old journal is at holds leaves wrote only = elim only [ inl e ↦ absurd (cc) | inr e ↦ absurd (cc) ]
  goes_behind first rest gate (Err (Differs number)) old journal is at holds leaves wrote only = elim only [ inl e ↦ absurd (cc) | inr e ↦ absurd (cc) ]
