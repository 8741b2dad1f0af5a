-- Whether a journal may be made over a file, and what its making leaves.
use Rattle.std.proofs.Common.{◌≡◌, ◌⊎◌, inl, inr, ℕ, ◌<◌, ◌≤◌, Bool, true, false, List, [], ◌∷◌, ◌++◌, length, take, drop, refl, sym, ◌∙◌, ap, arith, take-append-drop}
use Rattle.std.proofs.lemmas.Bool.{cases_lt}
use Rattle.std.proofs.lemmas.Slice.Eq.{bytes_eq-Decides}
use Rattle.std.specs.Str.{bytes_eq}
use Rattle.devices.specs.Disks.{Torn}
use Rattle.journal.specs.JournalBytes.{HasAnyHeader, IsForeign, IsOccupied, IsTaken, empty_journal, header}
use Rattle.records.specs.declared.formats.Format.{Format}
use Rattle.records.specs.declared.formats.Format.TheVariants.{First, Second}

-- a file is a journal of no records, or of none of the two formats
by_both : (image : List ℕ) (b d : Bool) → bytes_eq image (empty_journal First) ≡ b → bytes_eq image (empty_journal Second) ≡ d
    → ((format : Format) × (image ≡ empty_journal format)) ⊎ ((format : Format) → image ≡ empty_journal format → ⊥)
by_both image true d e f = inl (First, (bytes_eq-Decides image (empty_journal First)).0 e)
by_both image false true e f = inl (Second, (bytes_eq-Decides image (empty_journal Second)).0 f)
by_both image false false e f = inr none
  where
    none : (format : Format) → image ≡ empty_journal format → ⊥
    none First is = let yes = (bytes_eq-Decides image (empty_journal First)).1 is in absurd (cc)
    none Second is = let yes = (bytes_eq-Decides image (empty_journal Second)).1 is in absurd (cc)

pub empty_or_not : (image : List ℕ) → ((format : Format) × (image ≡ empty_journal format)) ⊎ ((format : Format) → image ≡ empty_journal format → ⊥)
empty_or_not image = by_both image _ _ refl refl

-- a file of at most 17 bytes that is no journal of no records is free
free_short : (image : List ℕ) → (17 < length image → ⊥) → ((format : Format) → image ≡ empty_journal format → ⊥)
    → (IsTaken image → ⊥) × (IsForeign image → ⊥)
free_short image few none = (λ taken. by taken.0 taken.1.1, λ foreign. few foreign.0)
  where
    by : (format : Format) → (17 < length image) ⊎ (image ≡ empty_journal format) → ⊥
    by format (inl long) = few long
    by format (inr is) = none format is

short_anew : (image : List ℕ) → (17 < length image → ⊥) → ((format : Format) × (image ≡ empty_journal format)) ⊎ ((format : Format) → image ≡ empty_journal format → ⊥)
    → ((format : Format) × (image ≡ empty_journal format)) ⊎ ((IsTaken image → ⊥) × (IsForeign image → ⊥))
short_anew image few (inl empty) = inl empty
short_anew image few (inr none) = inr (free_short image few none)

-- what the making of a journal leaves over a file on which one may be made
pub made_anew : (bytes image : List ℕ) → length bytes ≤ 17 → Torn 0 17 bytes image
    → ((format : Format) × (image ≡ empty_journal format)) ⊎ ((IsTaken image → ⊥) × (IsForeign image → ⊥))
made_anew bytes image few torn =
    short_anew image (λ long. absurd (omega (arith, few, torn.no_longer, long))) (empty_or_not image)

-- a file has the header of a format, or of none
by_headers : (bytes : List ℕ) (b d : Bool) → bytes_eq (take 16 bytes) (header First) ≡ b → bytes_eq (take 16 bytes) (header Second) ≡ d
    → HasAnyHeader bytes ⊎ (HasAnyHeader bytes → ⊥)
by_headers bytes true d e f =
    inl (First, (drop 16 bytes, sym (take-append-drop 16 bytes) ∙ ap (λ (l : List ℕ). l ++ drop 16 bytes) ((bytes_eq-Decides (take 16 bytes) (header First)).0 e)))
by_headers bytes false true e f =
    inl (Second, (drop 16 bytes, sym (take-append-drop 16 bytes) ∙ ap (λ (l : List ℕ). l ++ drop 16 bytes) ((bytes_eq-Decides (take 16 bytes) (header Second)).0 f)))
by_headers bytes false false e f = inr (λ begun. none begun.0 (ap (take 16) begun.1.1))
  where
    none : (format : Format) → take 16 bytes ≡ header format → ⊥
    none First is = let yes = (bytes_eq-Decides (take 16 bytes) (header First)).1 is in absurd (cc)
    none Second is = let yes = (bytes_eq-Decides (take 16 bytes) (header Second)).1 is in absurd (cc)

long_occupied : (bytes : List ℕ) → 17 < length bytes → HasAnyHeader bytes ⊎ (HasAnyHeader bytes → ⊥) → IsOccupied bytes
long_occupied bytes long (inl begun) = inl (begun.0, (begun.1, inl long))
long_occupied bytes long (inr none) = inr (long, none)

short_either : (bytes : List ℕ) → (17 < length bytes → ⊥) → ((format : Format) × (bytes ≡ empty_journal format)) ⊎ ((format : Format) → bytes ≡ empty_journal format → ⊥)
    → IsOccupied bytes ⊎ ((IsTaken bytes → ⊥) × (IsForeign bytes → ⊥))
short_either bytes few (inl empty) = inl (inl (empty.0, ((0 ∷ [], empty.1), inr empty.1)))
short_either bytes few (inr none) = inr (free_short bytes few none)

-- no journal is made over a file, or one may be
pub occupied_or_free : (bytes : List ℕ) → IsOccupied bytes ⊎ ((IsTaken bytes → ⊥) × (IsForeign bytes → ⊥))
occupied_or_free bytes = elim (cases_lt 17 (length bytes)) [
  | inl long ↦ inl (long_occupied bytes long (by_headers bytes _ _ refl refl))
  | inr short ↦ short_either bytes (λ long. absurd (omega (arith, short, long))) (empty_or_not bytes)
]
