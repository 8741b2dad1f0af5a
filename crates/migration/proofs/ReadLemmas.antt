-- A journal that is read on, and what then holds of its disk.
use Rattle.std.proofs.Common.{◌≡◌, ℕ, ◌<◌, ◌≤◌, List, [], ◌∷◌, ◌++◌, length, All, Option, Some, None, IfSome, Result, Ok, Err, IfOk, IfErr, refl, sym, ◌∙◌, ap, subst, arith}
use Rattle.devices.specs.declared.disks.Disk.{Ghosts}
use Rattle.devices.specs.Disks.{IsDurable, NothingNew}
use Rattle.devices.specs.Faults.{Rose}
use Rattle.journal.specs.JournalBytes.{InGrammar, IsClosed, IsDamagedAt, IsJournalOf, front}
use Rattle.journal.specs.Moments.{LeavesOnly, OnlyReads, SyncsFirst}
use Rattle.journal.specs.Reading.{HasEnded, HasRead, IsRefusal, ReadsOn}
use Rattle.journal.specs.declared.opening.OpenFault.{OpenFault}
use Rattle.journal.specs.declared.opening.OpenFault.TheVariants.{Fault, NotAJournal, Damaged, NoMemory}
use Rattle.journal.specs.declared.opening.Opening.{Opening}
use Rattle.journal.proofs.Moments.{joined}
use Rattle.journal.proofs.Stages.{length_front-push}
use Rattle.migration.specs.Reading.{IsUnread, StandsForAll}
use Rattle.records.specs.Sheets.{Record}
use Rattle.records.specs.declared.formats.Format.{Format}

-- what was said of each value
pub if_ok : {A E : Type 0} (result : Result A E) (P Q : A → Type 0) → IfOk result P → ((value : A) → P value → Q value) → IfOk result Q
if_ok (Ok value) P Q p q = q value p
if_ok (Err fault) P Q p q = tt

-- the gate moves on
pub gate_moves : {D : Type 0} {g : Ghosts D} (pieces : List Record) (piece : Record) (before after : Opening D g) → after.format ≡ before.format
    → HasRead pieces before → HasRead (pieces ++ piece ∷ []) after → before.gate < after.gate
gate_moves pieces piece before after same h k =
    let push = length_front-push after.format pieces piece in
    let from = h.gate ∙ ap (λ (f : Format). length (front f pieces)) (sym same) in
    let to = k.gate in
    omega (arith, push, from, to)

-- the journal that was read
stands_here : (content : Option (List ℕ)) (format : Format) (pieces : List Record) → All (InGrammar format) pieces
    → IfSome content (λ bytes. (rest : List ℕ) × (bytes ≡ front format pieces ++ rest) × IsClosed rest) → IfSome content (IsJournalOf format pieces)
stands_here None format pieces grammar read = tt
stands_here (Some content) format pieces grammar read = record { grammar = grammar; rest = read.0; bytes_are = read.1; closed = read.2 }

pub ended_stands : {D : Type 0} {g : Ghosts D} (pieces : List Record) (opening : Opening D g) → HasEnded pieces opening
    → IfSome (g.content opening.ahead.disk) (IsJournalOf opening.format pieces)
ended_stands {g = g} pieces opening ended = stands_here (g.content opening.ahead.disk) opening.format pieces ended.grammar ended.bytes

stands_for_all : (content : Option (List ℕ)) (format : Format) (pieces : List Record) → IfSome content (IsJournalOf format pieces)
    → IfSome content (StandsForAll pieces)
stands_for_all None format pieces is = tt
stands_for_all (Some bytes) format pieces is = (format, is)

pub ended_stands_for_all : {D : Type 0} {g : Ghosts D} (pieces : List Record) (opening : Opening D g) → HasEnded pieces opening
    → IfSome (g.content opening.ahead.disk) (StandsForAll pieces)
ended_stands_for_all {g = g} pieces opening ended =
    stands_for_all (g.content opening.ahead.disk) opening.format pieces (ended_stands pieces opening ended)

-- why it was not read on
damaged_here : (content : Option (List ℕ)) (format : Format) (at : ℕ) → IfSome content (IsDamagedAt format at)
    → IfSome content (λ bytes. (format : Format) × IsDamagedAt format at bytes)
damaged_here None format at is = tt
damaged_here (Some bytes) format at is = (format, is)

pub unread : {D : Type 0} {g : Ghosts D} (pieces : List Record) (before after : Opening D g) (fault : OpenFault) → ReadsOn pieces after (Err fault)
    → (fault ≡ Fault → Rose (g.faults before.ahead.disk) (g.faults after.ahead.disk))
    → IsUnread (g.content after.ahead.disk) fault (g.faults before.ahead.disk) (g.faults after.ahead.disk)
unread pieces before after Fault read rose = rose refl
unread pieces before after NotAJournal read rose = absurd read
unread {g = g} pieces before after (Damaged at) read rose = damaged_here (g.content after.ahead.disk) after.format at read.1
unread pieces before after NoMemory read rose = tt

pub refused_unread : (content : Option (List ℕ)) (fault : OpenFault) (before now : ℕ) → IsRefusal content fault before now → IsUnread content fault before now
refused_unread content Fault before now refused = refused
refused_unread content NotAJournal before now refused = refused
refused_unread content (Damaged at) before now refused = absurd refused
refused_unread content NoMemory before now refused = absurd refused

-- a journal that is read behind its opening leaves what the disk might have left before
pub reads_behind : {D : Type 0} (g : Ghosts D) (a b c : D) (P : List ℕ → Type 0)
    → ((disk : D) (since : ℕ) (image : List ℕ) → since ≤ g.moment disk → g.may_leave disk image → g.left_since disk since image)
    → LeavesOnly g a b P → OnlyReads g b c → LeavesOnly g a c P
reads_behind g a b c P counts_now first second =
    joined g a b c P (g.may_leave b) P first second.any_moment (λ image left. left)
    (λ image left. first.each image (counts_now b (g.moment a) image first.later left))

pub synced_behind : {D : Type 0} (g : Ghosts D) (a b c : D) (P : List ℕ → Type 0)
    → ((disk : D) (since : ℕ) (image : List ℕ) → since ≤ g.moment disk → g.may_leave disk image → g.left_since disk since image)
    → SyncsFirst g a b P → OnlyReads g b c → SyncsFirst g a c P
synced_behind g a b c P counts_now first second = record {
  synced = first.synced;
  first = first.first;
  before = first.before;
  since = reads_behind g first.synced b c P counts_now first.since second;
}

-- what is safe from a stop stays so while nothing is written
durable_on : (content : Option (List ℕ)) (old new : List ℕ → Type 0) → NothingNew old new → IsDurable content old → IsDurable content new
durable_on None old new less durable = durable
durable_on (Some bytes) old new less durable = λ image left. durable image (less image left)

pub durable_still : (before after : Option (List ℕ)) (old new : List ℕ → Type 0) → after ≡ before → NothingNew old new → IsDurable before old
    → IsDurable after new
durable_still before after old new same less durable =
    subst (λ (o : Option (List ℕ)). IsDurable o new) (sym same) (durable_on before old new less durable)

pub if_err : {A E : Type 0} (result : Result A E) (P Q : E → Type 0) → IfErr result P → ((fault : E) → P fault → Q fault) → IfErr result Q
if_err (Ok value) P Q p q = tt
if_err (Err fault) P Q p q = q fault p

-- by the content and the count of faults of the disk as it was found
pub unread_at : (content found : Option (List ℕ)) (fault : OpenFault) (before start now : ℕ) → content ≡ found → before ≡ start
    → IsUnread content fault before now → IsUnread found fault start now
unread_at content found fault before start now same counted is =
    subst (λ (o : Option (List ℕ)). IsUnread o fault start now) same (subst (λ (n : ℕ). IsUnread content fault n now) counted is)
