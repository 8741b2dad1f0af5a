-- What a copy leaves at each moment, from its beginning on.
use Rattle.std.proofs.Common.{◌≡◌, ◌⊎◌, inl, inr, ⊎_elim, ℕ, ◌≤◌, false, List, [], ◌∷◌, length, Option, Some, IfSome, IsSomeAnd, Result, Ok, Err, refl, sym, ◌∙◌, subst, arith}
use Rattle.std.proofs.lemmas.List.{append-nil}
use Rattle.std.specs.Result.{IsErrAnd}
use mathlib.Core.List.{IsPrefix}
use Rattle.devices.specs.declared.disks.Disk.{Ghosts}
use Rattle.devices.specs.Faults.{Rose}
use Rattle.devices.specs.Disks.{IsDurable, IsUnchanged, NothingNew, Torn, overwritten}
use Rattle.journal.proofs.Made.{small}
use Rattle.journal.proofs.Moments.{joined, widened}
use Rattle.journal.proofs.OnlyReading.{reads_joined}
use Rattle.journal.proofs.Occupied.{made_anew, occupied_or_free}
use Rattle.journal.proofs.Stops.{here}
use Rattle.journal.proofs.Walks.{one_list}
use Rattle.journal.specs.Init.{InitAnswers, InitLeaves, IsLeftByInit}
use Rattle.journal.specs.JournalBytes.{HasAnyHeader, IsJournalOf, IsTaken, empty_journal, front}
use Rattle.journal.specs.Moments.{LeavesOnly, OnlyReads, SyncsFirst}
use Rattle.journal.specs.Writing.{Lists, WasTorn}
use Rattle.journal.specs.declared.making.InitFault.{InitFault}
use Rattle.journal.specs.declared.making.InitFault.TheVariants as making
use Rattle.journal.specs.declared.opening.OpenFault.TheVariants.{Fault, NotAJournal, Damaged, NoMemory}
use Rattle.migration.proofs.AnswerLemmas.{empty_is, not_barred}
use Rattle.migration.proofs.WrittenLemmas.{made_copy}
use Rattle.migration.specs.Copying.{Begins, Copies, GoesOn, HasAll, HasBegun, HasCause, IsAnswered, IsBarred, IsBetween, IsCopied, IsFoundOver, IsFree, IsLeftByCopy, IsLeftMaking, IsLeftWith, IsMadeOver, MayBegin, WentOn, appended, beginning_of}
use Rattle.migration.specs.declared.copying.CopyFault.{CopyFault}
use Rattle.migration.specs.declared.copying.CopyFault.TheVariants.{Open, Differs}
use Rattle.records.specs.Sheets.{Record}
use Rattle.records.specs.declared.formats.Format.TheVariants.{First, Second}

-- what is told of this content
at : (content : Option (List ℕ)) (bytes : List ℕ) (P : List ℕ → Type 0) → content ≡ Some bytes → IfSome content P → P bytes
at content bytes P is h = subst (λ (o : Option (List ℕ)). IfSome o P) is h

-- what is left of a making over bytes that are durable
left_of_making : (bytes image : List ℕ) (images : List ℕ → Type 0) → IsFree bytes → ((image : List ℕ) → images image → image ≡ bytes) → WasTorn 0 17 images image
    → IsLeftMaking image
left_of_making bytes image images free only torn =
    ⊎_elim (λ empty. inr empty) (λ again. inl again)
    (made_anew bytes image (small bytes free.0 free.1) (subst (λ (l : List ℕ). Torn 0 17 l image) (only torn.0 torn.1) torn.2))

-- it is left by a copy too
left_making : (records : List Record) (image : List ℕ) → IsLeftMaking image → IsLeftByCopy records image
left_making records image (inl free) = inl (inl free)
left_making records image (inr (First, is)) = inr is
left_making records image (inr (Second, is)) =
    inl (inr ([], (records, refl), subst (λ (l : List ℕ). IsJournalOf Second [] l) (sym is) (empty_is Second)))

-- a journal of no records of the second format bars no copy
empty_begins : (records : List Record) → MayBegin records (empty_journal Second)
empty_begins records = inr ([], (records, refl), empty_is Second)

empty_taken : IsTaken (empty_journal Second)
empty_taken = (Second, ((0 ∷ [], refl), inr refl))

module _ {D : Type 0} (g : Ghosts D) where
  -- a sync that was done
  pub record IsSynced (old mid : D) : Type 0 where
    pub same : IsUnchanged (g.content old) (g.content mid)
    pub images : NothingNew (g.may_leave old) (g.may_leave mid)
    pub before : LeavesOnly g old mid (g.may_leave old)
    pub first : Lists (g.content old) (g.calls old) (g.calls mid) (g.faults mid) (λ calls. calls ≡ false ∷ [])
    pub counted : g.faults old ≤ g.faults mid
    pub durable : IsDurable (g.content old) (g.may_leave mid)

  syncs_first : (old mid new : D) (P : List ℕ → Type 0) → IsSynced old mid → LeavesOnly g mid new P → SyncsFirst g old new P
  syncs_first old mid new P s leaves = record { synced = mid; first = s.first; before = s.before; since = leaves }

  reads_after : (old mid new : D) → IsSynced old mid → IsUnchanged (g.content mid) (g.content new) → NothingNew (g.may_leave mid) (g.may_leave new)
      → LeavesOnly g mid new (g.may_leave mid) → g.faults mid ≤ g.faults new → OnlyReads g old new
  reads_after old mid new s same images leaves counted = record {
    same = same ∙ s.same;
    images = λ image m. s.images image (images image m);
    any_moment = joined g old mid new (g.may_leave old) (g.may_leave mid) (g.may_leave old) s.before leaves (λ image was. was) s.images;
    counted = omega (arith, s.counted, counted);
  }

  begins_by : (bytes : List ℕ) (old mid new : D) (made : Result (Unit {0}) InitFault) → IsSynced old mid → g.content mid ≡ Some bytes
      → ((image : List ℕ) → g.may_leave mid image → image ≡ bytes) → InitAnswers bytes made
      → InitLeaves Second bytes (g.content new) (g.may_leave mid) (g.may_leave new) made
      → LeavesOnly g mid new (IsLeftByInit (Some bytes) (g.may_leave mid) made) → g.faults mid ≤ g.faults new → Begins g bytes (beginning_of made) old new
  begins_by bytes old mid new (Ok done) s told only answer left leaves counted = inr (record {
    free = answer;
    made = left.0;
    any_moment = syncs_first old mid new IsLeftMaking s
        (widened g mid new _ IsLeftMaking leaves (λ image torn. left_of_making bytes image (g.may_leave mid) answer only torn));
  })
  begins_by bytes old mid new (Err making.Exists) s told only answer left leaves counted = inl (record {
    taken = answer;
    reads = reads_after old mid new s (left.0 ∙ sym told) left.1 leaves counted;
    any_moment = syncs_first old mid new (λ image. image ≡ bytes) s (widened g mid new _ (λ image. image ≡ bytes) leaves only);
  })
  begins_by bytes old mid new (Err making.NotAJournal) s told only answer left leaves counted =
      (answer, reads_after old mid new s (left.0 ∙ sym told) left.1 leaves counted)
  begins_by bytes old mid new (Err making.Fault) s told only answer left leaves counted = elim (occupied_or_free bytes) [
    | inl occupied ↦
        let kept = left.1 occupied in
        inl (reads_after old mid new s (kept.0 ∙ sym told) kept.1 (widened g mid new _ (g.may_leave mid) leaves (λ image h. h.1 occupied)) counted)
    | inr free ↦
        inr (free, syncs_first old mid new IsLeftMaking s (widened g mid new _ IsLeftMaking leaves (λ image h. left_of_making bytes image (g.may_leave mid) free only h.0)))
  ]

  pub begins : (old mid new : D) (made : Result (Unit {0}) InitFault) → IsSynced old mid → IfSome (g.content mid) (λ bytes. InitAnswers bytes made)
      → IfSome (g.content mid) (λ bytes. InitLeaves Second bytes (g.content new) (g.may_leave mid) (g.may_leave new) made)
      → LeavesOnly g mid new (IsLeftByInit (g.content mid) (g.may_leave mid) made) → g.faults mid ≤ g.faults new
      → IfSome (g.content old) (λ bytes. Begins g bytes (beginning_of made) old new)
  begins old mid new made s answer left leaves counted =
      here (g.content old) (λ bytes. Begins g bytes (beginning_of made) old new) (λ bytes is.
      let told : g.content mid ≡ Some bytes = s.same ∙ is in
      begins_by bytes old mid new made s told (subst (λ (o : Option (List ℕ)). IsDurable o (g.may_leave mid)) is s.durable)
      (at (g.content mid) bytes _ told answer) (at (g.content mid) bytes _ told left)
      (subst (λ (o : Option (List ℕ)). LeavesOnly g mid new (IsLeftByInit o (g.may_leave mid) made)) told leaves) counted)

  failed_begins_at : {T : Type 0} (bytes : List ℕ) (old new : D) (result : Result T CopyFault) → IsErrAnd result (λ fault. fault ≡ Open Fault)
      → OnlyReads g old new → Begins g bytes result old new
  failed_begins_at bytes old new (Ok done) is reads = absurd is
  failed_begins_at {T} bytes old new (Err fault) is reads = subst (λ (f : CopyFault). Begins g {T = T} bytes (Err f) old new) (sym is) (inl reads)

  pub failed_begins : {T : Type 0} (old new : D) (result : Result T CopyFault) → IsErrAnd result (λ fault. fault ≡ Open Fault) → OnlyReads g old new
      → IfSome (g.content old) (λ bytes. Begins g bytes result old new)
  failed_begins old new result is reads =
      here (g.content old) (λ bytes. Begins g bytes result old new) (λ bytes told. failed_begins_at bytes old new result is reads)

  -- a copy that did not begin
  not_begun_at : (T U : Type 0) (records : List Record) (bytes : List ℕ) (old new : D) (fault : CopyFault) → Begins g {T = U} bytes (Err fault) old new
      → IsAnswered {T = T} records bytes (Err fault) × IsLeftWith g {T = T} records bytes (Err fault) old new
  not_begun_at T U records bytes old new (Open NotAJournal) begun = begun
  not_begun_at T U records bytes old new (Open Fault) (inl reads) = (tt, inl reads)
  not_begun_at T U records bytes old new (Open Fault) (inr begun) = (
    tt,
    inr (inl (
      begun.0,
      record {
        synced = begun.1.synced;
        first = begun.1.first;
        before = begun.1.before;
        since = widened g begun.1.synced new IsLeftMaking (IsLeftByCopy records) begun.1.since (left_making records);
      },
    )),
  )
  not_begun_at T U records bytes old new (Open (Damaged place)) begun = absurd begun
  not_begun_at T U records bytes old new (Open NoMemory) begun = absurd begun
  not_begun_at T U records bytes old new (Differs number) begun = absurd begun

  pub not_begun : (T U : Type 0) (records : List Record) (old new : D) (fault : CopyFault)
      → IfSome (g.content old) (λ bytes. Begins g {T = U} bytes (Err fault) old new) → Copies g {T = T} records (Err fault) old new
  not_begun T U records old new fault begun =
      here (g.content old) (λ bytes. IsAnswered {T = T} records bytes (Err fault) × IsLeftWith g {T = T} records bytes (Err fault) old new)
      (λ bytes is. not_begun_at T U records bytes old new fault (at (g.content old) bytes _ is begun))

  -- what may be left at a moment was left since an earlier one
  left_then : ((disk : D) (since : ℕ) (image : List ℕ) → since ≤ g.moment disk → g.may_leave disk image → g.left_since disk since image)
      → (old mid : D) (P : List ℕ → Type 0) → (s : SyncsFirst g old mid P) → (image : List ℕ) → g.may_leave mid image → P image
  left_then counts_now old mid P s image left = s.since.each image (counts_now mid (g.moment s.synced) image s.since.later left)

  -- a copy that went on behind its beginning, from what was found or made
  goes_on_synced : ((disk : D) (since : ℕ) (image : List ℕ) → since ≤ g.moment disk → g.may_leave disk image → g.left_since disk since image)
      → (P F R : List ℕ → Type 0) (old mid new : D) → SyncsFirst g old mid P → ((image : List ℕ) → P image → R image)
      → ((image : List ℕ) → F image → R image) → LeavesOnly g mid new (λ image. g.may_leave mid image ⊎ F image) → SyncsFirst g old new R
  goes_on_synced counts_now P F R old mid new s wider further leaves = record {
    synced = s.synced;
    first = s.first;
    before = s.before;
    since = joined g s.synced mid new P (λ image. g.may_leave mid image ⊎ F image) R s.since leaves wider
        (λ image which. ⊎_elim (λ left. wider image (left_then counts_now old mid P s image left)) (further image) which);
  }

  module _ (counts_now : (disk : D) (since : ℕ) (image : List ℕ) → since ≤ g.moment disk → g.may_leave disk image → g.left_since disk since image)
      (records : List Record) (bytes : List ℕ) (old mid new : D) where
    -- over a journal that was found
    may_begin : WentOn g records bytes mid new → MayBegin records bytes
    may_begin went = inr (went.first, (went.rest, sym went.parts), went.stood)

    begun_found : IsFoundOver g bytes old mid → WentOn g records bytes mid new → HasBegun g records bytes old new
    begun_found found went =
        let prefix : IsPrefix went.first records = (went.rest, sym went.parts) in
        inr (
          went.first,
          went.stood,
          prefix,
          goes_on_synced counts_now (λ image. image ≡ bytes) (IsBetween went.first records) (IsBetween went.first records) old mid new found.any_moment
              (λ image is. (went.first, ([], append-nil went.first), prefix, subst (IsJournalOf Second went.first) (sym is) went.stood))
              (λ image is. is) went.any_moment,
        )

    over_found : {T : Type 0} (copied : Result T CopyFault) → IsFoundOver g bytes old mid → GoesOn g {T = T} records bytes copied mid new
        → IsAnswered {T = T} records bytes copied × IsLeftWith g {T = T} records bytes copied old new
    over_found (Ok done) found went = (
      may_begin went.0,
      (
        begun_found found went.0,
        went.1,
        subst (λ (o : Option (List ℕ)). IsSomeAnd o (IsCopied records bytes)) (sym went.2)
            (inr (went.0.first, went.0.rest, went.0.stood, went.0.parts, refl)),
      ),
    )
    over_found (Err (Open Fault)) found (inl reads) = (tt, inl (reads_joined g old mid new found.reads reads))
    over_found (Err (Open Fault)) found (inr went) = (tt, inr (begun_found found went))
    over_found (Err (Open NoMemory)) found (inl reads) = (tt, inl (reads_joined g old mid new found.reads reads))
    over_found (Err (Open NoMemory)) found (inr went) = (tt, inr (begun_found found went))
    over_found (Err (Open NotAJournal)) found went = absurd went.0
    over_found (Err (Open (Damaged place))) found went = ((found.taken, went.0), reads_joined g old mid new found.reads went.1)
    over_found (Err (Differs number)) found went = ((found.taken, went.0), reads_joined g old mid new found.reads went.1)

    -- over one that was made
    begun_made : (F : List ℕ → Type 0) → ((image : List ℕ) → F image → IsLeftByCopy records image) → IsMadeOver g bytes old mid
        → LeavesOnly g mid new (λ image. g.may_leave mid image ⊎ F image) → HasBegun g records bytes old new
    begun_made F further made leaves =
        inl (made.free, goes_on_synced counts_now IsLeftMaking F (IsLeftByCopy records) old mid new made.any_moment (left_making records) further leaves)

    went_made : IsMadeOver g bytes old mid → WentOn g records (empty_journal Second) mid new → HasBegun g records bytes old new
    went_made made went =
        begun_made (IsBetween went.first records) (λ image is. inl (inr (is.0, is.2, is.3))) made went.any_moment

    read_made : IsMadeOver g bytes old mid → OnlyReads g mid new → HasBegun g records bytes old new
    read_made made reads =
        begun_made (λ image. ⊥) (λ image none. absurd none) made
        (widened g mid new (g.may_leave mid) (λ image. g.may_leave mid image ⊎ ⊥) reads.any_moment (λ image left. inl left))

    never_barred : {T : Type 0} (fault : CopyFault) → IsBarred records (empty_journal Second) fault → (fault ≡ Open Fault → ⊥) → (fault ≡ Open NoMemory → ⊥) → T
    never_barred fault barred no_fault memory = absurd (by fault barred no_fault memory)
      where
        told : (fault : CopyFault) → IsAnswered {T = Unit {0}} records (empty_journal Second) (Err fault) → (fault ≡ Open Fault → ⊥) → (fault ≡ Open NoMemory → ⊥) → ⊥
        told fault answered no_fault memory =
            ⊎_elim no_fault memory (not_barred (Unit {0}) records (empty_journal Second) fault (empty_begins records) answered)

        by : (fault : CopyFault) → IsBarred records (empty_journal Second) fault → (fault ≡ Open Fault → ⊥) → (fault ≡ Open NoMemory → ⊥) → ⊥
        by (Open Fault) barred no_fault memory = no_fault refl
        by (Open NoMemory) barred no_fault memory = memory refl
        by (Open NotAJournal) barred no_fault memory = barred
        by (Open (Damaged place)) barred no_fault memory = told (Open (Damaged place)) (empty_taken, barred) no_fault memory
        by (Differs number) barred no_fault memory = told (Differs number) (empty_taken, barred) no_fault memory

    over_made : {T : Type 0} (copied : Result T CopyFault) → IsMadeOver g bytes old mid → GoesOn g {T = T} records (empty_journal Second) copied mid new
        → IsAnswered {T = T} records bytes copied × IsLeftWith g {T = T} records bytes copied old new
    over_made (Ok done) made went =
        let none : went.0.first ≡ [] = one_list Second went.0.first [] (empty_journal Second) went.0.stood (empty_is Second) in
        let copy = overwritten (empty_journal Second) (length (front Second went.0.first)) (appended went.0.rest) in
        let whole : IsCopied records bytes copy = inl (made.free, made_copy records went.0.first went.0.rest none went.0.parts) in (
          inl made.free,
          (went_made made went.0, went.1, subst (λ (o : Option (List ℕ)). IsSomeAnd o (IsCopied records bytes)) (sym went.2) whole),
        )
    over_made (Err (Open Fault)) made (inl reads) = (tt, inr (read_made made reads))
    over_made (Err (Open Fault)) made (inr went) = (tt, inr (went_made made went))
    over_made (Err (Open NoMemory)) made (inl reads) = (tt, inr (read_made made reads))
    over_made (Err (Open NoMemory)) made (inr went) = (tt, inr (went_made made went))
    over_made (Err (Open NotAJournal)) made went = absurd went.0
    over_made (Err (Open (Damaged place))) made went = never_barred (Open (Damaged place)) went.0 (λ e. absurd (cc e)) (λ e. absurd (cc e))
    over_made (Err (Differs number)) made went = never_barred (Differs number) went.0 (λ e. absurd (cc e)) (λ e. absurd (cc e))

  -- a copy behind its beginning
  pub copies : {T U : Type 0} → ((disk : D) (since : ℕ) (image : List ℕ) → since ≤ g.moment disk → g.may_leave disk image → g.left_since disk since image)
      → (records : List Record) (old mid new : D) (done : U) (copied : Result T CopyFault) → IfSome (g.content old) (λ bytes. Begins g {T = U} bytes (Ok done) old mid)
      → IfSome (g.content mid) (λ bytes. HasAnyHeader bytes → GoesOn g {T = T} records bytes copied mid new) → Copies g {T = T} records copied old new
  copies {T} {U} counts_now records old mid new done copied begun went =
      here (g.content old) (λ bytes. IsAnswered {T = T} records bytes copied × IsLeftWith g {T = T} records bytes copied old new) (λ bytes is.
      ⊎_elim
      (λ found. over_found counts_now records bytes old mid new {T = T} copied found
      (at (g.content mid) bytes _ (found.reads.same ∙ is) went (found.taken.0, found.taken.1.0)))
      (λ made. over_made counts_now records bytes old mid new {T = T} copied made
      (at (g.content mid) (empty_journal Second) _ made.made went (Second, (0 ∷ [], refl))))
      (at (g.content old) bytes _ is begun))

-- the count of faults behind a beginning
pub begun_cause : (made : Result (Unit {0}) InitFault) (before mid now : ℕ) → mid ≡ before → ((made ≡ Err making.Fault → ⊥) → now ≡ mid)
    → (made ≡ Err making.Fault → Rose mid now) → HasCause before now (beginning_of made)
begun_cause (Ok done) before mid now same stays rose = stays (λ e. absurd (cc)) ∙ same
begun_cause (Err making.Exists) before mid now same stays rose = stays (λ e. absurd (cc)) ∙ same
begun_cause (Err making.NotAJournal) before mid now same stays rose = λ failed. absurd (cc)
begun_cause (Err making.Fault) before mid now same stays rose = λ failed. subst (λ (n : ℕ). Rose n now) same (rose refl)

pub failed_cause : {T : Type 0} (result : Result T CopyFault) (before now : ℕ) → IsErrAnd result (λ fault. fault ≡ Open Fault) → Rose before now
    → HasCause before now result
failed_cause (Ok done) before now is rose = absurd is
failed_cause {T} (Err fault) before now is rose = subst (λ (f : CopyFault). HasCause {T = T} before now (Err f)) (sym is) (λ e. rose)
