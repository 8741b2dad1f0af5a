-- Where a copy may begin, nothing bars it; and what it leaves is a front of the records.
use Rattle.std.proofs.Common.{◌≡◌, ◌⊎◌, inl, inr, ℕ, zero, suc, List, [], ◌∷◌, ◌++◌, Err, refl, sym, ◌∙◌, ap, subst, arith, append_assoc}
use Rattle.std.proofs.lemmas.List.Elements.{All-nil}
use mathlib.Core.List.{IsPrefix}
use Rattle.journal.specs.JournalBytes.{InGrammar, IsJournalOf, IsTaken, empty_journal}
use Rattle.journal.specs.declared.opening.OpenFault.TheVariants.{Fault, NotAJournal, Damaged, NoMemory}
use Rattle.journal.proofs.Walks.{journal_header, not_damaged, one_header, one_list}
use Rattle.migration.specs.Copying.{IsAnswered, IsLeftByCopy, MayBegin}
use Rattle.migration.specs.Matching.{DiffersAt}
use Rattle.migration.specs.declared.copying.CopyFault.{CopyFault}
use Rattle.migration.specs.declared.copying.CopyFault.TheVariants.{Open, Differs}
use Rattle.records.specs.Sheets.{Record}
use Rattle.records.specs.declared.formats.Format.{Format}
use Rattle.records.specs.declared.formats.Format.TheVariants.{First, Second}

-- where copied records are the first of these, so are those before another and that one
front_of : (before behind : List Record) (other : Record) (records copied : List Record) → IsPrefix copied records → copied ≡ before ++ other ∷ behind
    → IsPrefix (before ++ other ∷ []) records
front_of before behind other records copied front is = (
  behind ++ front.0,
  append_assoc before (other ∷ []) (behind ++ front.0)
      ∙ sym (append_assoc before (other ∷ behind) front.0)
      ∙ ap (λ (l : List Record). l ++ front.0) (sym is)
      ∙ front.1,
)

-- so records that are the first of these have no other among them
pub no_other : (number : ℕ) (records copied : List Record) → DiffersAt number records copied → IsPrefix copied records → ⊥
no_other number records copied differs front =
    differs.differs (front_of differs.before differs.behind differs.other records copied front differs.copied_are)

formats_differ : First ≡ Second → ⊥
formats_differ e = cc

pub not_barred : (T : Type 0) (records : List Record) (bytes : List ℕ) (fault : CopyFault) → MayBegin records bytes
    → IsAnswered {T = T} records bytes (Err fault) → (fault ≡ Open Fault) ⊎ (fault ≡ Open NoMemory)
not_barred T records bytes (Open Fault) begins answered = inl refl
not_barred T records bytes (Open NoMemory) begins answered = inr refl
not_barred T records bytes (Open NotAJournal) (inl free) answered = absurd (free.1 answered)
not_barred T records bytes (Open NotAJournal) (inr front) answered =
    absurd (answered.1 (Second, journal_header Second front.0 bytes front.2))
not_barred T records bytes (Open (Damaged at)) (inl free) answered = absurd (free.0 answered.0)
not_barred T records bytes (Open (Damaged at)) (inr front) answered = absurd (not_damaged Second front.0 at bytes front.2 answered.1)
not_barred T records bytes (Differs zero) (inl free) answered = absurd (free.0 answered.0)
not_barred T records bytes (Differs zero) (inr front) answered =
    absurd (formats_differ (one_header First Second bytes answered.1 (journal_header Second front.0 bytes front.2)))
not_barred T records bytes (Differs (suc before)) (inl free) answered = absurd (free.0 answered.0)
not_barred T records bytes (Differs (suc before)) (inr front) answered =
    let copied = answered.1.0 in
    let same : front.0 ≡ copied = one_list Second front.0 copied bytes front.2 answered.1.1 in
    absurd (no_other (suc before) records copied answered.1.2 (subst (λ (l : List Record). IsPrefix l records) same front.1))

pub empty_is : (format : Format) → IsJournalOf format [] (empty_journal format)
empty_is format = record { grammar = All-nil (InGrammar format); rest = 0 ∷ []; bytes_are = refl; closed = omega arith }

pub left_is_front : (records : List Record) (image : List ℕ) → IsLeftByCopy records image → IsTaken image
    → (format : Format) × (front : List Record) × IsPrefix front records × IsJournalOf format front image
left_is_front records image (inl (inl free)) taken = absurd (free.0 taken)
left_is_front records image (inl (inr front)) taken = (Second, front.0, front.1, front.2)
left_is_front records image (inr empty) taken =
    (First, [], (records, refl), subst (λ (l : List ℕ). IsJournalOf First [] l) (sym empty) (empty_is First))
