-- The disk's count of faults, step by step.
use Rattle.std.specs.Prelude.{◌≡◌, ℕ, ◌-◌, ◌^◌, ◌≤◌, min, Bool, true, false, List, [], ◌∷◌, count_by, Result, Ok, Err}
use Rattle.devices.specs.Faults.{Rose}
use Rattle.history.specs.Events.{Event, Accepted, Published, Faulted, History}
use Rattle.office.specs.Edits.{is_fault}
use Rattle.office.specs.Steps.{Step, AnEdit, AClaim, ALook, APublication, ATurn, ASettlement, AnAnswer, AStop, IsStep}
use Rattle.office.specs.declared.offices.Accepted as told
use Rattle.office_inputs.specs.declared.refusals.Refusal.{Refusal}
use Rattle.register.specs.Registered.{Registered}

-- a fault of the journal
abbrev pub is_journal_fault : Event → Bool
is_journal_fault (Accepted piece) = false
is_journal_fault (Published site day) = false
is_journal_fault (Faulted left) = true

-- how many faults of the journal there were
abbrev pub fault_count : List Event → ℕ
fault_count events = count_by is_journal_fault events

-- a disk has counted them all, or its count stands at the end of its type
abbrev pub HasCounted : History → ℕ → Type 0
HasCounted h count = min (fault_count h.events) (2 ^ 64 - 1) ≤ count

-- in an edit the count rises exactly where a fault refuses it
abbrev pub RisesFor : ℕ → Bool → ℕ → Type 0
RisesFor before true now = Rose before now
RisesFor before false now = now ≡ before

abbrev pub CountsEdit : ℕ → Result told.Accepted Refusal → ℕ → Type 0
CountsEdit before (Ok told) now = now ≡ before
CountsEdit before (Err refusal) now = RisesFor before (is_fault refusal) now

-- by the other calls it stays, and a disk that is opened behind a stop has a count of its own
abbrev pub Counts : ℕ → Step → ℕ → Type 0
Counts before (AnEdit edit result) now = CountsEdit before result now
Counts before (AClaim result) now = now ≡ before
Counts before (ALook last result) now = now ≡ before
Counts before (APublication job outcome) now = now ≡ before
Counts before (ATurn result) now = now ≡ before
Counts before (ASettlement result) now = now ≡ before
Counts before (AnAnswer site day answer) now = now ≡ before
Counts before (AStop cut found) now = Unit {0}

-- an office goes over by these steps, and its disk's count of faults with it
abbrev pub GoesOverCounting : Registered → ℕ → List Step → Registered → ℕ → Type 0
GoesOverCounting old before [] new now = (new ≡ old) × (now ≡ before)
GoesOverCounting old before (step ∷ steps) new now =
    (next : Registered) × (count : ℕ) × (IsStep old step next × Counts before step count) × GoesOverCounting next count steps new now
