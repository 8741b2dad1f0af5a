-- From one place of a cabinet in memory to all of its names.
use Rattle.std.proofs.Common.{◌≡◌, ℕ, Bool, List, sym, ◌∙◌, ap, inl, inr}
use Rattle.std.proofs.lemmas.Bool.{cases_Bool}
use Rattle.std.proofs.lemmas.Slice.Eq.{bytes_eq-Decides}
use Rattle.std.specs.Str.{bytes_eq}
use Rattle.devices.specs.declared.cabinets.Opened.{Opened}
use Rattle.devices.specs.declared.cabinets.Opened.TheVariants.{Disk, Absent, Failed}
use Rattle.devices.specs.declared.disks.Disk.{Ghosts}
use Rattle.devices.specs.Cabinets.{Place, Opens, OthersStay, AllStay}
use Rattle.devices.specs.MemoryCabinets.{OpensPlace}
use Rattle.devices.specs.MemoryDisks.{MemoryDiskState}

all_stay : (name : List ℕ) (before after : List ℕ → Place MemoryDiskState) → after name ≡ before name → OthersStay name before after → AllStay before after
all_stay name before after here others other = elim (cases_Bool (bytes_eq other name)) [
  | inl same ↦
      let is : other ≡ name = (bytes_eq-Decides other name).0 same in
      ap after is ∙ here ∙ ap before (sym is)
  | inr differs ↦ others other (λ (is : other ≡ name). absurd (cc ((bytes_eq-Decides other name).1 is)))
]

opens_by_name : (d : Ghosts MemoryDiskState) (name : List ℕ) (make : Bool) (before after : List ℕ → Place MemoryDiskState) (opened : Opened MemoryDiskState)
    → OpensPlace d make (before name) (after name) opened → OthersStay name before after → Opens d name make before after opened
opens_by_name d name make before after (Disk disk) (given, out) others = (given, out, others)
opens_by_name d name make before after Absent (asked, none, stays) others = (asked, none, all_stay name before after stays others)
opens_by_name d name make before after Failed stays others = all_stay name before after stays others

-- what comes of the place under a name comes of the name
pub opens_under : (d : Ghosts MemoryDiskState) (name : List ℕ) (make : Bool) (before after : List ℕ → Place MemoryDiskState) (old new : Place MemoryDiskState)
    (opened : Opened MemoryDiskState) → before name ≡ old → after name ≡ new → OpensPlace d make old new opened → OthersStay name before after
    → Opens d name make before after opened
opens_under d name make before after old new opened was is here others =
    opens_by_name d name make before after opened (rw (was, is) here) others
