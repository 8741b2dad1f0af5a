-- How the loading of readings ended, by what was read and told.
use Rattle.std.proofs.Common.{refl, sym, ℕ, ◌+◌, List, [], Option, Some, None, IfSome, IsSomeAnd, true, false, append-nil}
use Rattle.devices.specs.Sinks.{AreWritten}
use Rattle.history.specs.Events.{History}
use Rattle.rdb_records.specs.declared.units.UnitList.{UnitList}
use Rattle.reading_loading.specs.Loading.{AreUnitsTold, IsLoaded, IsReadAs, IsUnasked, IsUnstated, Loads, LoadsBy, UnstatedBy}
use Rattle.reading_loading.specs.declared.limits.TheConstants.{MOST_BYTES}
use Rattle.reading_loading.specs.declared.loading.ReadingsEnd.{ReadingsEnd}
use Rattle.reading_loading.specs.declared.loading.ReadingsEnd.TheVariants as ends
use Rattle.reading_loading.specs.Puts.{Order}
use Rattle.whole_inputs.specs.Inputs.{IsTakenWithin}

-- what was loaded, where the source tells what it has
abbrev LoadsBetween : Order → History → History → ReadingsEnd → Option (List ℕ) → Option (List ℕ) → Option (List ℕ) → Option (List ℕ) → Type 0
LoadsBetween order h after end l0 l w0 w =
    IfSome l0 (λ input. IsSomeAnd l (λ left. (written : List ℕ) × Loads order h after end input left written × AreWritten w0 written w true))

-- nothing was written
nothing_written : (w : Option (List ℕ)) → AreWritten w [] w true
nothing_written None = tt
nothing_written (Some bytes) = sym (append-nil bytes)

module _ (order : Order) (h : History) where
  -- nothing was asked
  asked_nothing : (end : ReadingsEnd) (input left : List ℕ) → IsUnasked end → UnstatedBy order end input left → LoadsBy end order h input left h []
  asked_nothing ends.Done input left unasked why = absurd unasked
  asked_nothing ends.OutputFault input left unasked why = absurd unasked
  asked_nothing end input left unasked why = (why, (refl, refl))

  loads_nothing : (end : ReadingsEnd) (l0 l w : Option (List ℕ)) → IsUnasked end → IsUnstated order end l0 l → IsTakenWithin (MOST_BYTES + 1) l0 l
      → LoadsBetween order h h end l0 l w w
  loads_nothing end None l w unasked why taken = tt
  loads_nothing end (Some input) None w unasked why taken = absurd taken
  loads_nothing end (Some input) (Some left) w unasked why taken =
      ([], record { ends = asked_nothing end input left unasked why; taken = taken }, nothing_written w)

  pub loaded_nothing : (end : ReadingsEnd) (l0 l w : Option (List ℕ)) → IsUnasked end → IsUnstated order end l0 l → IsTakenWithin (MOST_BYTES + 1) l0 l
      → IsLoaded order h h end l0 l w w
  loaded_nothing end l0 l w unasked why taken = record { loads = loads_nothing end l0 l w unasked why taken; unasked = λ is. refl }

  -- the readings that the input states were put, and told
  module _ (after : History) (units : UnitList) where
    loads_all : (l0 l w0 w : Option (List ℕ)) → IsReadAs order l0 units l → IsTakenWithin (MOST_BYTES + 1) l0 l
        → (written : List ℕ) × AreUnitsTold true order units h after written × AreWritten w0 written w true
        → LoadsBetween order h after ends.Done l0 l w0 w
    loads_all None l w0 w read taken told = tt
    loads_all (Some input) None w0 w read taken told = absurd taken
    loads_all (Some input) (Some left) w0 w read taken told = (told.0, record { ends = (units, read, told.1); taken = taken }, told.2)

    pub loaded_all : (l0 l w0 w : Option (List ℕ)) → IsReadAs order l0 units l → IsTakenWithin (MOST_BYTES + 1) l0 l
        → (written : List ℕ) × AreUnitsTold true order units h after written × AreWritten w0 written w true
        → IsLoaded order h after ends.Done l0 l w0 w
    loaded_all l0 l w0 w read taken told = record { loads = loads_all l0 l w0 w read taken told; unasked = λ is. absurd is }

    -- up to the line that the sink did not take
    loads_short : (l0 l w0 w : Option (List ℕ)) → IsReadAs order l0 units l → IsTakenWithin (MOST_BYTES + 1) l0 l
        → (written : List ℕ) × AreUnitsTold false order units h after written × AreWritten w0 written w true
        → LoadsBetween order h after ends.OutputFault l0 l w0 w
    loads_short None l w0 w read taken told = tt
    loads_short (Some input) None w0 w read taken told = absurd taken
    loads_short (Some input) (Some left) w0 w read taken told = (told.0, record { ends = (units, read, told.1); taken = taken }, told.2)

    pub loaded_short : (l0 l w0 w : Option (List ℕ)) → IsReadAs order l0 units l → IsTakenWithin (MOST_BYTES + 1) l0 l
        → (written : List ℕ) × AreUnitsTold false order units h after written × AreWritten w0 written w true
        → IsLoaded order h after ends.OutputFault l0 l w0 w
    loaded_short l0 l w0 w read taken told = record { loads = loads_short l0 l w0 w read taken told; unasked = λ is. absurd is }
