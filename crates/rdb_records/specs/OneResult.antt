-- A text states one result at most, of each site and column.
use Rattle.std.specs.Prelude.{◌≡◌, ℕ, List}
use Rattle.fixed_units.specs.Quantities.{SiteNumber}
use Rattle.rdb_records.specs.declared.faults.UnitFault.{UnitFault}
use Rattle.rdb_records.specs.declared.units.UnitList.{UnitList}
use Rattle.rdb_records.specs.Units.{IsRefused, IsStated}

-- two lists that a text states are one
abbrev pub StatesOneList : SiteNumber → List ℕ → List ℕ → Type 0
StatesOneList site column text = (one other : UnitList) → IsStated site column text one → IsStated site column text other → one ≡ other

-- two faults that it is refused with are one
abbrev pub HasOneFault : SiteNumber → List ℕ → List ℕ → Type 0
HasOneFault site column text = (one other : UnitFault) → IsRefused site column text one → IsRefused site column text other → one ≡ other

-- a text that states a list is not refused
abbrev pub IsNotBoth : SiteNumber → List ℕ → List ℕ → Type 0
IsNotBoth site column text = (list : UnitList) (fault : UnitFault) → IsStated site column text list → IsRefused site column text fault → ⊥
