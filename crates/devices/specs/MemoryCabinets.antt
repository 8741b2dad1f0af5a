-- What a cabinet in memory has under its names.
use Rattle.std.specs.Prelude.{◌≡◌, ℕ, Bool, false, List, Option, Some, None, String}
use Rattle.std.specs.BTreeMap.{BTreeMap, get_by_text}
use Rattle.std.specs.declared.alloc.Global.{Global}
use Rattle.devices.specs.declared.disks.Disk.{Ghosts}
use Rattle.devices.specs.declared.cabinets.Opened.{Opened}
use Rattle.devices.specs.declared.cabinets.Opened.TheVariants.{Disk, Absent, Failed}
use Rattle.devices.specs.Cabinets.{Place, Free, Kept, Out, is_kept, IsGiven}
use Rattle.devices.specs.Failures.{Counts, Fails, with_call, with_fault}
use Rattle.devices.specs.MemoryDisks.{MemoryDiskState}

-- a disk is kept in its place, or was taken out of it
abbrev pub place_with : Option MemoryDiskState → Place MemoryDiskState
place_with (Some disk) = Kept disk
place_with None = Out

abbrev pub place_under : Option (Option MemoryDiskState) → Place MemoryDiskState
place_under (Some place) = place_with place
place_under None = Free

-- what is under each name
abbrev pub places_of : BTreeMap (String Global) (Option MemoryDiskState) → List ℕ → Place MemoryDiskState
places_of disks name = place_under (get_by_text disks name)

-- what comes of asking one place for its disk
abbrev pub OpensPlace : Ghosts MemoryDiskState → Bool → Place MemoryDiskState → Place MemoryDiskState → Opened MemoryDiskState → Type 0
OpensPlace d make before after (Disk disk) = IsGiven d make before disk × (after ≡ Out)
OpensPlace d make before after Absent = (make ≡ false) × (is_kept before ≡ false) × (after ≡ before)
OpensPlace d make before after Failed = after ≡ before

-- a cabinet in memory fails where it was told to; want of memory may fail it too
abbrev pub OpensOnCommand : Counts → Opened MemoryDiskState → Counts → Type 0
OpensOnCommand before (Disk disk) after = (¬ Fails before) × (after ≡ with_call before)
OpensOnCommand before Absent after = (¬ Fails before) × (after ≡ with_call before)
OpensOnCommand before Failed after = after ≡ with_fault (with_call before)
