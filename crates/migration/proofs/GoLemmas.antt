-- How a copy goes on over a journal that was opened.
use Rattle.std.proofs.Common.{◌≡◌, ◌⊎◌, inl, inr, ⊎_elim, ℕ, suc, ◌+◌, ◌≤◌, List, [], ◌∷◌, ◌++◌, length, Option, Some, IfSome, IsSome, Result, Ok, Err, refl, sym, ◌∙◌, ap, subst, arith, append_assoc}
use mathlib.Core.List.{IsPrefix}
use Rattle.devices.specs.declared.disks.Disk.{Ghosts}
use Rattle.devices.specs.Disks.{IsOverwritten, IsUnchanged}
use Rattle.devices.specs.Faults.{Rose}
use Rattle.journal.proofs.Moments.{joined, widened}
use Rattle.journal.proofs.OnlyReading.{reads_joined}
use Rattle.journal.proofs.Stops.{here}
use Rattle.journal.specs.JournalBytes.{HasAnyHeader, IsJournalOf, StandsFor, front}
use Rattle.journal.specs.Moments.{LeavesOnly, OnlyReads}
use Rattle.journal.specs.Reading.{IsRefusal}
use Rattle.journal.specs.declared.opening.OpenFault.{OpenFault}
use Rattle.journal.specs.declared.opening.OpenFault.TheVariants.{Fault, NotAJournal, Damaged, NoMemory}
use Rattle.migration.specs.Copying.{GoesBehind, GoesOn, HasAll, HasCause, IsBarred, IsBetween, WentOn, appended}
use Rattle.migration.specs.Matching.{DiffersAt}
use Rattle.migration.specs.declared.copying.CopyFault.{CopyFault}
use Rattle.migration.specs.declared.copying.CopyFault.TheVariants.{Open, Differs}
use Rattle.records.specs.Sheets.{Record}
use Rattle.records.specs.declared.formats.Format.TheVariants.{Second}

-- what is told of this content
at : (content : Option (List ℕ)) (bytes : List ℕ) (P : List ℕ → Type 0) → content ≡ Some bytes → IfSome content P → P bytes
at content bytes P is h = subst (λ (o : Option (List ℕ)). IfSome o P) is h

-- those of the records that stood there and some more, and one more of them
pub between_stands : (first done rest : List Record) (piece : Record) (records : List Record) (image : List ℕ) → IsPrefix first done
    → records ≡ done ++ piece ∷ rest → StandsFor Second done (Some piece) image → IsBetween first records image
between_stands first done rest piece records image before is (inl without) = (done, before, (piece ∷ rest, sym is), without)
between_stands first done rest piece records image before is (inr with_it) = (
  done ++ piece ∷ [],
  (before.0 ++ piece ∷ [], sym (append_assoc first before.0 (piece ∷ [])) ∙ ap (λ (l : List Record). l ++ piece ∷ []) before.1),
  (rest, append_assoc done (piece ∷ []) rest ∙ sym is),
  with_it,
)

module _ {D : Type 0} (g : Ghosts D) where
  -- a call that kept the content and left nothing new at any moment
  pub only_reads : ((disk : D) (since : ℕ) (image : List ℕ) → since ≤ g.moment disk → g.may_leave disk image → g.left_since disk since image)
      → (old new : D) → IsUnchanged (g.content old) (g.content new) → LeavesOnly g old new (g.may_leave old) → g.faults old ≤ g.faults new → OnlyReads g old new
  only_reads counts_now old new same leaves counted = record {
    same = same;
    images = λ image left. leaves.each image (counts_now new (g.moment old) image leaves.later left);
    any_moment = leaves;
    counted = counted;
  }

  -- a journal that was not opened
  refused_at : (T : Type 0) (records : List Record) (bytes : List ℕ) (old new : D) (fault : OpenFault) (before now : ℕ)
      → IsRefusal (Some bytes) fault before now → OnlyReads g old new → HasAnyHeader bytes → GoesOn g {T = T} records bytes (Err (Open fault)) old new
  refused_at T records bytes old new Fault before now refused reads header = inl reads
  refused_at T records bytes old new NotAJournal before now refused reads header = absurd (refused header)
  refused_at T records bytes old new (Damaged place) before now refused reads header = absurd refused
  refused_at T records bytes old new NoMemory before now refused reads header = absurd refused

  pub refused_goes_on : (T : Type 0) (records : List Record) (old new : D) (fault : OpenFault) (before now : ℕ)
      → IsRefusal (g.content old) fault before now → OnlyReads g old new
      → IfSome (g.content old) (λ bytes. HasAnyHeader bytes → GoesOn g {T = T} records bytes (Err (Open fault)) old new)
  refused_goes_on T records old new fault before now refused reads =
      here (g.content old) (λ bytes. HasAnyHeader bytes → GoesOn g {T = T} records bytes (Err (Open fault)) old new) (λ bytes is.
      refused_at T records bytes old new fault before now (subst (λ (o : Option (List ℕ)). IsRefusal o fault before now) is refused) reads)

  pub refused_cause : (T : Type 0) (content : Option (List ℕ)) (why : OpenFault) (before now : ℕ) → IsRefusal content why before now
      → HasCause {T = T} before now (Err (Open why))
  refused_cause T content why before now refused failed = subst (λ (f : OpenFault). IsRefusal content f before now) failed refused

  -- reads before a copy goes on
  left_behind : (P : List ℕ → Type 0) (old mid new : D) → OnlyReads g old mid → LeavesOnly g mid new (λ image. g.may_leave mid image ⊎ P image)
      → LeavesOnly g old new (λ image. g.may_leave old image ⊎ P image)
  left_behind P old mid new reads leaves =
      joined g old mid new (g.may_leave old) (λ image. g.may_leave mid image ⊎ P image) (λ image. g.may_leave old image ⊎ P image) reads.any_moment leaves
      (λ image left. inl left) (λ image which. ⊎_elim (λ left. inl (reads.images image left)) (λ between. inr between) which)

  went_behind : (records : List Record) (bytes : List ℕ) (old mid new : D) → OnlyReads g old mid → WentOn g records bytes mid new
      → WentOn g records bytes old new
  went_behind records bytes old mid new reads went = record {
    first = went.first;
    rest = went.rest;
    stood = went.stood;
    parts = went.parts;
    any_moment = left_behind (IsBetween went.first records) old mid new reads went.any_moment;
  }

  reads_then : (old mid new : D) → OnlyReads g old mid → OnlyReads g mid new → OnlyReads g old new
  reads_then old mid new first second = reads_joined g old mid new first second

  pub behind_reads : {T : Type 0} (records : List Record) (bytes : List ℕ) (copied : Result T CopyFault) (old mid new : D) → OnlyReads g old mid
      → GoesOn g {T = T} records bytes copied mid new → GoesOn g {T = T} records bytes copied old new
  unfolding went_behind
  behind_reads records bytes (Ok done) old mid new reads went = (went_behind records bytes old mid new reads went.0, went.1, went.2)
  behind_reads records bytes (Err (Open Fault)) old mid new reads (inl more) = inl (reads_then old mid new reads more)
  behind_reads records bytes (Err (Open Fault)) old mid new reads (inr went) = inr (went_behind records bytes old mid new reads went)
  behind_reads records bytes (Err (Open NoMemory)) old mid new reads (inl more) = inl (reads_then old mid new reads more)
  behind_reads records bytes (Err (Open NoMemory)) old mid new reads (inr went) = inr (went_behind records bytes old mid new reads went)
  behind_reads records bytes (Err (Open NotAJournal)) old mid new reads went = (went.0, reads_then old mid new reads went.1)
  behind_reads records bytes (Err (Open (Damaged place))) old mid new reads went = (went.0, reads_then old mid new reads went.1)
  behind_reads records bytes (Err (Differs number)) old mid new reads went = (went.0, reads_then old mid new reads went.1)

  pub opened_goes_on : {T : Type 0} (records : List Record) (copied : Result T CopyFault) (old mid new : D) → OnlyReads g old mid
      → IfSome (g.content mid) (λ bytes. GoesOn g {T = T} records bytes copied mid new)
      → IfSome (g.content old) (λ bytes. HasAnyHeader bytes → GoesOn g {T = T} records bytes copied old new)
  opened_goes_on {T} records copied old mid new reads went =
      here (g.content old) (λ bytes. HasAnyHeader bytes → GoesOn g {T = T} records bytes copied old new) (λ bytes is header.
      behind_reads {T = T} records bytes copied old mid new reads (at (g.content mid) bytes _ (reads.same ∙ is) went))

  -- a copy that was barred, or that failed while the journal was read
  barred_at : (T : Type 0) (records : List Record) (bytes : List ℕ) (fault : CopyFault) (old new : D) → IsBarred records bytes fault → OnlyReads g old new
      → GoesOn g {T = T} records bytes (Err fault) old new
  barred_at T records bytes (Open Fault) old new barred reads = inl reads
  barred_at T records bytes (Open NoMemory) old new barred reads = inl reads
  barred_at T records bytes (Open NotAJournal) old new barred reads = (barred, reads)
  barred_at T records bytes (Open (Damaged place)) old new barred reads = (barred, reads)
  barred_at T records bytes (Differs number) old new barred reads = (barred, reads)

  pub barred_goes_on : (T : Type 0) (records : List Record) (fault : CopyFault) (old new : D) → IfSome (g.content old) (λ bytes. IsBarred records bytes fault)
      → OnlyReads g old new → IfSome (g.content old) (λ bytes. GoesOn g {T = T} records bytes (Err fault) old new)
  barred_goes_on T records fault old new barred reads =
      here (g.content old) (λ bytes. GoesOn g {T = T} records bytes (Err fault) old new) (λ bytes is.
      barred_at T records bytes fault old new (at (g.content old) bytes _ is barred) reads)

  -- a copy that was appended behind what was read
  appended_at : {T : Type 0} (records : List Record) (bytes : List ℕ) (first rest : List Record) (copied : Result T CopyFault) (old mid new : D)
      → OnlyReads g old mid → IsJournalOf Second first bytes → records ≡ first ++ rest → g.content mid ≡ Some bytes
      → GoesBehind g {T = T} first rest copied mid new → GoesOn g {T = T} records bytes copied old new
  appended_at records bytes first rest copied old mid new reads stood parts told went = by copied went
    where
      on : LeavesOnly g mid new (IsBetween first (first ++ rest)) → WentOn g records bytes old new
      on leaves = record {
        first = first;
        rest = rest;
        stood = stood;
        parts = parts;
        any_moment = left_behind (IsBetween first records) old mid new reads
            (widened g mid new (IsBetween first (first ++ rest)) (λ image. g.may_leave mid image ⊎ IsBetween first records image) leaves
            (λ image is. inr (subst (λ (l : List Record). IsBetween first l image) (sym parts) is)));
      }

      by : {T : Type 0} (copied : Result T CopyFault) → GoesBehind g {T = T} first rest copied mid new → GoesOn g {T = T} records bytes copied old new
      by (Ok done) went = (
        on went.0,
        subst (λ (l : List Record). HasAll g l new) (sym parts) went.1,
        subst (λ (o : Option (List ℕ)). IsOverwritten o (length (front Second first)) (appended rest) (g.content new)) told went.2,
      )
      by (Err (Open Fault)) went = inr (on went)
      by (Err (Open NoMemory)) went = inr (on went)
      by (Err (Open NotAJournal)) went = absurd went
      by (Err (Open (Damaged place))) went = absurd went
      by (Err (Differs number)) went = absurd went

  pub appended_goes_on : {T : Type 0} (records first rest : List Record) (copied : Result T CopyFault) (old mid again new : D) → OnlyReads g old mid
      → records ≡ first ++ rest → IfSome (g.content old) (IsJournalOf Second first) → again ≡ mid
      → (IsSome (g.content mid) → GoesBehind g {T = T} first rest copied again new)
      → IfSome (g.content old) (λ bytes. GoesOn g {T = T} records bytes copied old new)
  appended_goes_on {T} records first rest copied old mid again new reads parts stands same went =
      here (g.content old) (λ bytes. GoesOn g {T = T} records bytes copied old new) (λ bytes is.
      appended_at {T = T} records bytes first rest copied old mid new reads (at (g.content old) bytes _ is stands) parts (reads.same ∙ is)
      (subst (λ (d : D). GoesBehind g {T = T} first rest copied d new) same
      (went (subst (λ (o : Option (List ℕ)). IsSome o) (sym (reads.same ∙ is)) refl))))

-- the record that differs bars a copy
pub differs_barred : (records copied : List Record) (bytes : List ℕ) (same number : ℕ) → number ≡ suc same → IsJournalOf Second copied bytes
    → DiffersAt (same + 1) records copied → IsBarred records bytes (Differs number)
differs_barred records copied bytes same number is journal differs =
    let next : same + 1 ≡ suc same = omega arith in
    subst (λ (n : ℕ). IsBarred records bytes (Differs n)) (sym is)
    (copied, journal, subst (λ (n : ℕ). DiffersAt n records copied) next differs)
