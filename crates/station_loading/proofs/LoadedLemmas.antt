-- How the loading of a document ended, by what was read and told.
use Rattle.std.proofs.Common.{◌≡◌, refl, sym, ℕ, ◌+◌, List, [], Option, Some, None, IfSome, IsSomeAnd, true, false, append-nil}
use Rattle.devices.specs.Sinks.{AreWritten}
use Rattle.edits.specs.declared.content.Edit.{Edit}
use Rattle.history.specs.Events.{History}
use Rattle.station_documents.specs.Documents.{StatesStations, most_bytes}
use Rattle.station_loading.specs.Lines.{end_of}
use Rattle.station_loading.specs.Loading.{IsLoaded, IsReadAs, IsUnasked, Loads, LoadsBy, StatesNone}
use Rattle.station_loading.specs.declared.loading.LoadingEnd.{LoadingEnd}
use Rattle.station_loading.specs.declared.loading.LoadingEnd.TheVariants as ends
use Rattle.told_edits.specs.Telling.{AreTold}
use Rattle.whole_inputs.specs.Inputs.{IsTakenWithin}

-- nothing was written
nothing_written : (w : Option (List ℕ)) → AreWritten w [] w true
nothing_written None = tt
nothing_written (Some bytes) = sym (append-nil bytes)

-- nothing was asked
asked_nothing : (h : History) (end : LoadingEnd) (input left : List ℕ) → IsUnasked end
    → (end ≡ ends.NotADocument → (edits : List Edit) → ¬ StatesStations input edits) → LoadsBy end h input left h []
asked_nothing h ends.Done input left unasked none = absurd unasked
asked_nothing h ends.InputFault input left unasked none = (refl, refl)
asked_nothing h ends.OutputFault input left unasked none = absurd unasked
asked_nothing h ends.NotADocument input left unasked none = (none refl, (refl, refl))
asked_nothing h ends.NoMemory input left unasked none = (refl, refl)

loads_nothing : (h : History) (end : LoadingEnd) (l0 l w : Option (List ℕ)) → IsUnasked end → (end ≡ ends.NotADocument → StatesNone l0)
    → IsTakenWithin (most_bytes + 1) l0 l
    → IfSome l0 (λ input. IsSomeAnd l (λ left. (written : List ℕ) × Loads h h end input left written × AreWritten w written w true))
loads_nothing h end None l w unasked none taken = tt
loads_nothing h end (Some input) None w unasked none taken = absurd taken
loads_nothing h end (Some input) (Some left) w unasked none taken =
    ([], record { ends = asked_nothing h end input left unasked none; taken = taken }, nothing_written w)

pub loaded_nothing : (h : History) (end : LoadingEnd) (l0 l w : Option (List ℕ)) → IsUnasked end → (end ≡ ends.NotADocument → StatesNone l0)
    → IsTakenWithin (most_bytes + 1) l0 l → IsLoaded h h end l0 l w w
loaded_nothing h end l0 l w unasked none taken = record {
  loads = loads_nothing h end l0 l w unasked none taken;
  unasked = λ is. refl;
}

-- the stations that the input states were asked, and told
module _ (h after : History) (edits : List Edit) where
  loads_all : (l0 l w0 w : Option (List ℕ)) → IsReadAs l0 edits l → IsTakenWithin (most_bytes + 1) l0 l
      → (written : List ℕ) × AreTold end_of true h edits after written × AreWritten w0 written w true
      → IfSome l0 (λ input. IsSomeAnd l (λ left. (written : List ℕ) × Loads h after ends.Done input left written × AreWritten w0 written w true))
  loads_all None l w0 w read taken told = tt
  loads_all (Some input) None w0 w read taken told = absurd taken
  loads_all (Some input) (Some left) w0 w read taken told =
      (told.0, record { ends = (read.1, (edits, read.0, told.1)); taken = taken }, told.2)

  pub loaded_all : (l0 l w0 w : Option (List ℕ)) → IsReadAs l0 edits l → IsTakenWithin (most_bytes + 1) l0 l
      → (written : List ℕ) × AreTold end_of true h edits after written × AreWritten w0 written w true
      → IsLoaded h after ends.Done l0 l w0 w
  loaded_all l0 l w0 w read taken told = record { loads = loads_all l0 l w0 w read taken told; unasked = λ is. absurd is }

  -- up to the one whose line the sink did not take
  loads_short : (l0 l w0 w : Option (List ℕ)) → IsReadAs l0 edits l → IsTakenWithin (most_bytes + 1) l0 l
      → (written : List ℕ) × AreTold end_of false h edits after written × AreWritten w0 written w true
      → IfSome l0 (λ input. IsSomeAnd l (λ left. (written : List ℕ) × Loads h after ends.OutputFault input left written × AreWritten w0 written w true))
  loads_short None l w0 w read taken told = tt
  loads_short (Some input) None w0 w read taken told = absurd taken
  loads_short (Some input) (Some left) w0 w read taken told =
      (told.0, record { ends = (read.1, (edits, read.0, told.1)); taken = taken }, told.2)

  pub loaded_short : (l0 l w0 w : Option (List ℕ)) → IsReadAs l0 edits l → IsTakenWithin (most_bytes + 1) l0 l
      → (written : List ℕ) × AreTold end_of false h edits after written × AreWritten w0 written w true
      → IsLoaded h after ends.OutputFault l0 l w0 w
  loaded_short l0 l w0 w read taken told = record { loads = loads_short l0 l w0 w read taken told; unasked = λ is. absurd is }
