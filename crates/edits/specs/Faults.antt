-- Why there is no such edit.
use Rattle.edits.specs.Lawful.{IsLawful}
use Rattle.edits.specs.declared.content.What.{What}
use Rattle.edits.specs.declared.content.What.TheVariants.{AddStation}
use Rattle.edits.specs.declared.faults.EditFault.{EditFault}
use Rattle.edits.specs.declared.faults.EditFault.TheVariants.{NotLawful, NoMemory}

-- a station is added: only its zone takes memory to test
abbrev pub AddsStation : What → Type 0
AddsStation (AddStation name zone gap stage_array discharge_array) = Unit {0}
AddsStation _ = ⊥

-- `NotLawful` where it is not lawful, and `NoMemory` only where it is and adds a station
abbrev pub IsEditFault : What → EditFault → Type 0
IsEditFault what NotLawful = ¬ IsLawful what
IsEditFault what NoMemory = AddsStation what × IsLawful what
