-- What a stop at any moment of an append and of a mend leaves.
use Rattle.std.proofs.Common.{◌≡◌, inl, ℕ, ◌+◌, List, length, Some, IfSome, IsSome, subst}
use Rattle.devices.specs.declared.disks.Disk.{Ghosts}
use Rattle.records.specs.Payloads.{encoded_and_closed}
use Rattle.records.specs.Sheets.{Record}
use Rattle.records.specs.declared.formats.Format.{Format}
use Rattle.journal.specs.JournalBytes.{IsJournalOf, IsUndecided, StandsFor, front}
use Rattle.journal.specs.Keeping.{IsNext}
use Rattle.journal.specs.Moments.{LeavesOnly}
use Rattle.journal.specs.Writing.{IsWritten, WasTorn}
use Rattle.journal.proofs.Moments.{joined, widened}
use Rattle.journal.proofs.Stages.{Staged, undecided_stands}
use Rattle.journal.proofs.Stops.{first_images, first_done, second_images, mend_images}

-- the record was written and synced, and then the gate opened, or perhaps
pub append_moments : {D : Type 0} (d : Ghosts D) (format : Format) (pieces : List Record) (piece : Record) (gate : ℕ) (bytes : List ℕ) (old mid new : D)
    → gate ≡ length (front format pieces) → IsSome (d.content old) → IfSome (d.content old) (IsJournalOf format pieces)
    → ((image : List ℕ) → d.may_leave old image → IsJournalOf format pieces image) → IsNext format piece bytes
    → IsWritten (d.content old) (gate + 1) bytes (d.content mid) (d.may_leave mid)
    → LeavesOnly d old mid (WasTorn (gate + 1) (length bytes) (d.may_leave old)) → LeavesOnly d mid new (WasTorn gate 1 (d.may_leave mid))
    → LeavesOnly d old new (StandsFor format pieces (Some piece))
append_moments d format pieces piece gate bytes old mid new gate_is told now images next written before behind =
    let first = first_images format pieces gate (length bytes) (d.may_leave old) (WasTorn (gate + 1) (length bytes) (d.may_leave old)) gate_is images (λ image left. left) in
    let staged : (image : List ℕ) → d.may_leave mid image → Staged format pieces (encoded_and_closed format piece) image = λ image left.
    subst (λ (l : List ℕ). Staged format pieces l image) next.1 (first_done format pieces gate bytes _ _ _ gate_is told now written image left) in
    let second = second_images format pieces piece next.0 gate (d.may_leave mid) (WasTorn gate 1 (d.may_leave mid)) gate_is staged (λ image left. left) in
    joined d old mid new _ _ (StandsFor format pieces (Some piece)) before behind (λ image left. inl (first image left))
    (λ image left. undecided_stands format pieces piece image (second image left))

-- the gate in doubt was closed, or perhaps
pub mend_moments : {D : Type 0} (d : Ghosts D) (format : Format) (pieces : List Record) (last : Record) (gate : ℕ) (old new : D) → gate ≡ length (front format pieces)
    → ((image : List ℕ) → d.may_leave old image → IsUndecided format pieces last image) → LeavesOnly d old new (WasTorn gate 1 (d.may_leave old))
    → LeavesOnly d old new (StandsFor format pieces (Some last))
mend_moments d format pieces last gate old new gate_is images run =
    let still = mend_images format pieces last gate (d.may_leave old) (WasTorn gate 1 (d.may_leave old)) gate_is images (λ image left. left) in
    widened d old new _ (StandsFor format pieces (Some last)) run (λ image left. undecided_stands format pieces last image (still image left))
