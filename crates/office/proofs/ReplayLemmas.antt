-- An office that is opened accepts the records of its journal again, and stands for them.
use Rattle.std.specs.Prelude.{◌≡◌, ℕ, ◌+◌, ◌<◌, ◌≤◌, false, List, [], ◌∷◌, ◌++◌, length, map, reverse, flat_map, sum_by, Option, Some, None, is_some, IsSome, IfSome, Err, All}
use Rattle.std.specs.Int.{w32, to_le_bytes}
use Rattle.std.proofs.Common.{arith, refl, ap, sym, subst, inl, inr, ◌∙◌, length-append}
use Rattle.std.proofs.lemmas.List.{map-append, reverse-append}
use Rattle.std.proofs.lemmas.List.Concat.{flat_map-cons}
use Rattle.std.proofs.lemmas.List.Elements.{All-head, All-tail}
use Rattle.std.proofs.lemmas.List.Sums.{sum_by-cons}
use Rattle.devices.specs.declared.disks.Disk.{Ghosts}
use Rattle.devices.specs.Disks.{IsDurable, NothingNew}
use Rattle.devices.specs.Faults.{Rose}
use Rattle.history.specs.Accepted.{accepted, journal_size}
use Rattle.history.specs.After.{reopen, doubt_back, doubt}
use Rattle.history.specs.Events.{Event, History, Accepted}
use Rattle.history.specs.Legal.{IsLegal}
use Rattle.history.proofs.EventLemmas.{accepted_all}
use Rattle.journal.specs.JournalBytes.{InGrammar, IsClosed, IsDamagedAt, IsJournalOf, header, block, front}
use Rattle.journal.specs.Keeping.{Holds}
use Rattle.journal.specs.Moments.{LeavesOnly, OnlyReads, SyncsFirst}
use Rattle.journal.specs.Reading.{HasRead, HasEnded, ReadsOn}
use Rattle.journal.specs.declared.keeping.Journal.{Journal}
use Rattle.journal.specs.declared.opening.Opening.{Opening}
use Rattle.journal.specs.declared.opening.OpenFault.{OpenFault}
use Rattle.journal.specs.declared.opening.OpenFault.TheVariants.{Fault, NotAJournal, Damaged, NoMemory}
use Rattle.journal.proofs.Moments.{joined}
use Rattle.journal.proofs.Stages.{front-push, length_front-push}
use Rattle.journal.proofs.Walks.{same_place}
use Rattle.office.specs.Openings.{IsDamagedFor, IsOpened}
use Rattle.office.specs.Replaying.{HasReadmitted, HasReadmittedAll, IsReadFault}
use Rattle.office.specs.Standing.{Stands}
use Rattle.office_inputs.specs.declared.limits.Limits.{Limits}
use Rattle.records.specs.Frames.{before_payload, header_length}
use Rattle.records.specs.Payloads.{Holds as HoldsComment, payload, encoded}
use Rattle.records.specs.Sheets.{Record}
use Rattle.records.specs.declared.formats.Format.{Format}
use Rattle.records.specs.declared.formats.Format.TheVariants.{First, Second}
use Rattle.register.specs.Asked.{readmission_refusal}
use Rattle.register.specs.Registered.{Registered, NoneOut}

-- how many bytes the records have
four : (n : ℕ) → length (to_le_bytes w32 n) ≡ 4
four n = refl

block_length : (format : Format) (piece : Record) → length (block format piece) ≡ before_payload + length (payload format piece)
block_length format piece =
    let cut = length-append (to_le_bytes w32 (length (payload format piece))) (payload format piece) in
    let head = four (length (payload format piece)) in
    let gate : length (block format piece) ≡ 1 + length (encoded format piece) = omega arith in
    omega (arith, cut, head, gate)

blocks_length : (format : Format) (pieces : List Record)
    → length (flat_map (block format) pieces) ≡ sum_by (λ piece. before_payload + length (payload format piece)) pieces
blocks_length format [] = refl
blocks_length format (piece ∷ pieces) =
    let i = blocks_length format pieces in
    let one = block_length format piece in
    let cut : length (flat_map (block format) (piece ∷ pieces)) ≡ length (block format piece) + length (flat_map (block format) pieces) =
    ap length (flat_map-cons (block format) piece pieces) ∙ length-append (block format piece) (flat_map (block format) pieces) in
    let sum = sum_by-cons (λ (p : Record). before_payload + length (payload format p)) piece pieces in
    omega (arith, i, one, cut, sum)

sixteen : (format : Format) → length (header format) ≡ header_length
sixteen First = refl
sixteen Second = refl

pub front_size : (format : Format) (pieces : List Record) → length (front format pieces) + 1 ≡ journal_size format pieces
front_size format pieces =
    let all = length-append (header format) (flat_map (block format) pieces) in
    let blocks = blocks_length format pieces in
    let head = sixteen format in
    omega (arith, all, blocks, head)

-- a reopened history is in doubt of nothing
reverse_accepted : (pieces : List Record) → reverse (map Accepted pieces) ≡ map Accepted (reverse pieces)
reverse_accepted [] = refl
reverse_accepted (piece ∷ pieces) =
    let accept : Record → Event = λ p. Accepted p in
    reverse-append (Accepted piece ∷ []) (map Accepted pieces)
    ∙ ap (λ (l : List Event). l ++ Accepted piece ∷ []) (reverse_accepted pieces)
    ∙ sym (map-append accept (reverse pieces) (piece ∷ []))
    ∙ ap (map accept) (sym (reverse-append (piece ∷ []) pieces))

all_accepted : (pieces : List Record) → doubt_back (map Accepted pieces) ≡ None
unfolding doubt_back
all_accepted [] = refl
all_accepted (piece ∷ pieces) = refl

pub doubt_reopened : (limits : Limits) (format : Format) (pieces : List Record) → doubt (reopen limits format pieces) ≡ None
doubt_reopened limits format pieces = ap doubt_back (reverse_accepted pieces) ∙ all_accepted (reverse pieces)

-- its records are its accepted edits
pub accepted_reopened : (h : History) (limits : Limits) (format : Format) (pieces : List Record) → h ≡ reopen limits format pieces → accepted h.events ≡ pieces
accepted_reopened h limits format pieces e = ap (λ (x : History). accepted x.events) e ∙ accepted_all pieces

-- and its format is the journal's
pub format_reopened : (h : History) (limits : Limits) (format : Format) (pieces : List Record) → h ≡ reopen limits format pieces → h.format ≡ format
format_reopened h limits format pieces e = ap (λ (x : History). x.format) e

pub reopened_again : (h : History) (format : Format) (pieces : List Record) → h ≡ reopen h.limits format pieces
    → h ≡ reopen h.limits h.format (accepted h.events)
reopened_again h format pieces e =
    e ∙ ap (reopen h.limits format) (sym (accepted_reopened h h.limits format pieces e))
    ∙ ap (λ (f : Format). reopen h.limits f (accepted h.events)) (sym (format_reopened h h.limits format pieces e))

-- the format of a journal holds the comment of the last of its records
last_is : (format : Format) (pieces : List Record) (piece : Record) → All (InGrammar format) (pieces ++ piece ∷ []) → InGrammar format piece
last_is format [] piece grammar = All-head (InGrammar format) piece [] grammar
last_is format (first ∷ pieces) piece grammar = last_is format pieces piece (All-tail (InGrammar format) first (pieces ++ piece ∷ []) grammar)

pub last_holds : (format : Format) (pieces : List Record) (piece : Record) → All (InGrammar format) (pieces ++ piece ∷ [])
    → HoldsComment format piece.edit.comment
last_holds format pieces piece grammar = (last_is format pieces piece grammar).holds

module _ {D : Type 0} {g : Ghosts D} (pieces : List Record) (old new : Registered) (before after : Opening D g) (same : after.format ≡ before.format) where
  -- one record more
  pub read_push : (piece : Record) → HasReadmitted old.history.limits pieces old before → HasRead (pieces ++ piece ∷ []) after
      → new.history ≡ reopen old.history.limits old.history.format (accepted old.history.events ++ piece ∷ []) → (NoneOut old → NoneOut new)
      → HasReadmitted old.history.limits (pieces ++ piece ∷ []) new after
  read_push piece h read reopened claims = record {
    read = read;
    reopened =
        reopened
        ∙ ap (λ (f : Format). reopen old.history.limits f (accepted old.history.events ++ piece ∷ []))
        (format_reopened old.history old.history.limits before.format pieces h.reopened ∙ sym same)
        ∙ ap (λ (l : List Record). reopen old.history.limits after.format (l ++ piece ∷ []))
        (accepted_reopened old.history old.history.limits before.format pieces h.reopened);
    claims = claims h.claims;
  }

  pub read_all : HasReadmitted old.history.limits pieces old before → HasEnded pieces after → HasReadmittedAll old.history.limits pieces old after
  read_all h ended = record {
    ended = ended;
    reopened = h.reopened ∙ ap (λ (f : Format). reopen old.history.limits f pieces) (sym same);
    claims = h.claims;
  }

-- by the limits under another name
module _ {D : Type 0} {g : Ghosts D} (from to : Limits) (pieces : List Record) (r : Registered) (opening : Opening D g) (same : from ≡ to) where
  pub of_limits : HasReadmitted from pieces r opening → HasReadmitted to pieces r opening
  of_limits h = subst (λ (l : Limits). HasReadmitted l pieces r opening) same h

  pub all_of_limits : HasReadmittedAll from pieces r opening → HasReadmittedAll to pieces r opening
  all_of_limits h = subst (λ (l : Limits). HasReadmittedAll l pieces r opening) same h

-- the gate moves on
pub gate_moves : {D : Type 0} {g : Ghosts D} (pieces : List Record) (piece : Record) (before after : Opening D g) → after.format ≡ before.format
    → HasRead pieces before → HasRead (pieces ++ piece ∷ []) after → before.gate < after.gate
gate_moves pieces piece before after same h k =
    let push = length_front-push after.format pieces piece in
    let from = h.gate ∙ ap (λ (f : Format). length (front f pieces)) (sym same) in
    let to = k.gate in
    omega (arith, push, from, to)

-- a record that is not accepted
refused_here : (content : Option (List ℕ)) (limits : Limits) (format : Format) (pieces : List Record) (piece : Record) (at : ℕ)
    → All (InGrammar format) (pieces ++ piece ∷ []) → IsLegal (reopen limits format pieces) → at ≡ length (front format pieces)
    → IsSome (readmission_refusal (reopen limits format pieces) piece.edit)
    → IfSome content (λ bytes. (rest : List ℕ) × (bytes ≡ front format (pieces ++ piece ∷ []) ++ rest)) → IfSome content (IsDamagedFor limits at)
refused_here None limits format pieces piece at grammar legal place refused bytes = tt
refused_here (Some content) limits format pieces piece at grammar legal place refused bytes =
    inr (record {
      format = format;
      pieces = pieces;
      piece = piece;
      rest = bytes.0;
      grammar = grammar;
      legal = legal;
      bytes_are = bytes.1 ∙ front-push format pieces piece bytes.0;
      place = place;
      refused = refused;
    })

-- a gate without a record, behind records that were accepted
lacking_here : (content : Option (List ℕ)) (limits : Limits) (format : Format) (pieces : List Record) (at : ℕ) → All (InGrammar format) pieces
    → IsLegal (reopen limits format pieces) → at ≡ length (front format pieces)
    → IfSome content (λ bytes. (rest : List ℕ) × (bytes ≡ front format pieces ++ rest)) → IfSome content (IsDamagedAt format at)
    → IfSome content (IsDamagedFor limits at)
lacking_here None limits format pieces at grammar legal place bytes damaged = tt
lacking_here (Some content) limits format pieces at grammar legal place bytes damaged =
    let same = same_place format pieces damaged.pieces bytes.0 damaged.rest content grammar damaged.grammar bytes.1 damaged.bytes_are
    (sym place ∙ damaged.place) in
    inl (format, damaged, subst (λ (l : List Record). IsLegal (reopen limits format l)) same legal)

module _ {D : Type 0} {g : Ghosts D} (h : History) (pieces : List Record) (before after : Opening D g) (same : after.format ≡ before.format)
    (reopened : h ≡ reopen h.limits before.format pieces) (legal : IsLegal h) (was : HasRead pieces before) where
  reopened_on : h ≡ reopen h.limits after.format pieces
  reopened_on = reopened ∙ ap (λ (f : Format). reopen h.limits f pieces) (sym same)

  gate_on : before.gate ≡ length (front after.format pieces)
  gate_on = was.gate ∙ ap (λ (f : Format). length (front f pieces)) (sym same)

  pub refused_at : (piece : Record) (at : ℕ) → HasRead (pieces ++ piece ∷ []) after → at ≡ before.gate → IsSome (readmission_refusal h piece.edit)
      → IfSome (g.content after.ahead.disk) (IsDamagedFor h.limits at)
  refused_at piece at read place refused =
      refused_here (g.content after.ahead.disk) h.limits after.format pieces piece at read.grammar (subst IsLegal reopened_on legal) (place ∙ gate_on)
      (subst (λ (x : History). IsSome (readmission_refusal x piece.edit)) reopened_on refused) read.bytes

  lacking_at : (at : ℕ) → at ≡ before.gate → ReadsOn pieces after (Err (Damaged at)) → IfSome (g.content after.ahead.disk) (IsDamagedFor h.limits at)
  lacking_at at place found =
      lacking_here (g.content after.ahead.disk) h.limits after.format pieces at found.0.grammar (subst IsLegal reopened_on legal) (place ∙ gate_on)
      found.0.bytes found.1

  -- why a record was not read, behind records that were accepted
  pub read_fault : (fault : OpenFault) → ReadsOn pieces after (Err fault) → (fault ≡ Fault → Rose (g.faults before.ahead.disk) (g.faults after.ahead.disk))
      → ((at : ℕ) → fault ≡ Damaged at → at ≡ before.gate)
      → IsReadFault (g.content after.ahead.disk) h.limits fault (g.faults before.ahead.disk) (g.faults after.ahead.disk)
  read_fault Fault found rose place = rose refl
  read_fault NotAJournal found rose place = found
  read_fault (Damaged at) found rose place = lacking_at at (place at refl) found
  read_fault NoMemory found rose place = tt

-- reading on and on writes nothing
pub reads_on : {D : Type 0} (g : Ghosts D) (a b c : D) → OnlyReads g a b → OnlyReads g b c → OnlyReads g a c
reads_on g a b c h k = record {
  same = k.same ∙ h.same;
  images = λ image m. h.images image (k.images image m);
  any_moment = joined g a b c (g.may_leave a) (g.may_leave b) (g.may_leave a) h.any_moment k.any_moment (λ image m. m) h.images;
  counted = omega (arith, h.counted, k.counted);
}

-- and a journal that is read behind its opening leaves what the disk might have left before
pub reads_behind : {D : Type 0} (g : Ghosts D) (a b c : D) (P : List ℕ → Type 0)
    → ((disk : D) (since : ℕ) (image : List ℕ) → since ≤ g.moment disk → g.may_leave disk image → g.left_since disk since image)
    → LeavesOnly g a b P → OnlyReads g b c → LeavesOnly g a c P
reads_behind g a b c P counts_now first second =
    joined g a b c P (g.may_leave b) P first second.any_moment (λ image left. left)
    (λ image left. first.each image (counts_now b (g.moment a) image first.later left))

-- so does one whose first call was a sync
pub synced_behind : {D : Type 0} (g : Ghosts D) (a b c : D) (P : List ℕ → Type 0)
    → ((disk : D) (since : ℕ) (image : List ℕ) → since ≤ g.moment disk → g.may_leave disk image → g.left_since disk since image)
    → SyncsFirst g a b P → OnlyReads g b c → SyncsFirst g a c P
synced_behind g a b c P counts_now first second = record {
  synced = first.synced;
  first = first.first;
  before = first.before;
  since = reads_behind g first.synced b c P counts_now first.since second;
}

-- what is safe from a stop stays so while nothing is written
durable_on : (content : Option (List ℕ)) (old new : List ℕ → Type 0) → NothingNew old new → IsDurable content old → IsDurable content new
durable_on None old new less durable = durable
durable_on (Some bytes) old new less durable = λ image left. durable image (less image left)

pub durable_still : (before after : Option (List ℕ)) (old new : List ℕ → Type 0) → after ≡ before → NothingNew old new → IsDurable before old
    → IsDurable after new
durable_still before after old new same less durable =
    subst (λ (o : Option (List ℕ)). IsDurable o new) (sym same) (durable_on before old new less durable)

-- the journal that was read
journal_read : (content : Option (List ℕ)) (format : Format) (pieces : List Record) → All (InGrammar format) pieces
    → IfSome content (λ bytes. (rest : List ℕ) × (bytes ≡ front format pieces ++ rest) × IsClosed rest) → IfSome content (IsJournalOf format pieces)
journal_read None format pieces grammar read = tt
journal_read (Some content) format pieces grammar read = record { grammar = grammar; rest = read.0; bytes_are = read.1; closed = read.2 }

pub is_opened : {D : Type 0} {g : Ghosts D} (limits : Limits) (pieces : List Record) (r : Registered) (opening : Opening D g)
    → HasReadmittedAll limits pieces r opening → IsLegal r.history → IsOpened (g.content opening.ahead.disk) limits r
is_opened {g = g} limits pieces r opening all legal =
    let kept = format_reopened r.history limits opening.format pieces all.reopened in
    record {
      pieces = pieces;
      found = subst (λ (f : Format). IfSome (g.content opening.ahead.disk) (IsJournalOf f pieces)) (sym kept)
          (journal_read (g.content opening.ahead.disk) opening.format pieces all.ended.grammar all.ended.bytes);
      reopened = all.reopened ∙ ap (λ (f : Format). reopen limits f pieces) (sym kept);
      legal = legal;
      claims = all.claims;
    }

-- the office that is opened
module _ {D : Type 0} {g : Ghosts D} (found limits : Limits) (pieces : List Record) (r : Registered) (opening : Opening D g)
    (left : Option Record) (journal : Journal D g) (same : found ≡ limits) (all : HasReadmittedAll found pieces r opening) where
  pub opened_stands : left ≡ None → journal.disk ≡ opening.ahead.disk → journal.format ≡ opening.format → journal.gate ≡ opening.gate
      → journal.limit ≡ limits.journal_bytes → journal.in_doubt ≡ false
      → ((records : List Record) → HasEnded records opening → IsSome (g.content opening.ahead.disk)
      → IsDurable (g.content opening.ahead.disk) (g.may_leave opening.ahead.disk) → Holds records None journal)
      → IsDurable (g.content opening.ahead.disk) (g.may_leave opening.ahead.disk) → Stands r.history left journal
  opened_stands none disk format gate limit settled holds durable =
      let edits = accepted_reopened r.history found opening.format pieces all.reopened in
      let kept_format = format_reopened r.history found opening.format pieces all.reopened in
      let calm : doubt r.history ≡ None = ap doubt all.reopened ∙ doubt_reopened found opening.format pieces in
      let whole = front_size opening.format pieces in
      let at = all.ended.gate in
      let size : journal.gate + 1 ≡ journal_size opening.format pieces = omega (arith, gate, whole, at) in
      let kept : r.history.limits ≡ limits = ap (λ (x : History). x.limits) all.reopened ∙ same in
      record {
        format = format ∙ sym kept_format;
        size = size ∙ ap (λ (f : Format). journal_size f pieces) (sym kept_format) ∙ ap (journal_size r.history.format) (sym edits);
        limit = limit ∙ ap (λ (l : Limits). l.journal_bytes) (sym kept);
        left_is = none ∙ sym calm;
        in_doubt_is = settled ∙ ap is_some (sym calm);
        holds = λ told. rw (edits, calm) (holds pieces all.ended (subst (λ (d : D). IsSome (g.content d)) disk told) durable);
      }
