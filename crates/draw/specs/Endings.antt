-- What is told of a run that wrote no picture: a line on standard error, and the status.
use Rattle.std.specs.Prelude.{ℕ, List, [], ◌++◌, codes, decimal}
use Rattle.draw.specs.declared.rows.Why.{Why}
use Rattle.draw.specs.declared.rows.Why.TheVariants as whys
use Rattle.draw.specs.declared.runs.RunEnd.{RunEnd}
use Rattle.draw.specs.declared.runs.RunEnd.TheVariants.{Drawn, InputFault, OutputFault, TooLong, NoText, Refused, Empty, NoMemory}
use Rattle.draw.specs.declared.tables.RowFault.{RowFault}

abbrev pub status_of : RunEnd → ℕ
status_of Drawn = 0
status_of InputFault = 2
status_of OutputFault = 3
status_of TooLong = 5
status_of NoText = 5
status_of (Refused fault) = 5
status_of Empty = 5
status_of NoMemory = 6

-- the name of what is wrong with a line
abbrev pub code_of : Why → List ℕ
code_of whys.Kind = codes "Kind"
code_of whys.Fields = codes "Fields"
code_of whys.Station = codes "Station"
code_of whys.Site = codes "Site"
code_of whys.Name = codes "Name"
code_of whys.Zone = codes "Zone"
code_of whys.Gap = codes "Gap"
code_of whys.Instant = codes "Instant"
code_of whys.Date = codes "Date"
code_of whys.Number = codes "Number"
code_of whys.Stage = codes "Stage"
code_of whys.Discharge = codes "Discharge"
code_of whys.Flag = codes "Flag"
code_of whys.Estimated = codes "Estimated"
code_of whys.Status = codes "Status"
code_of whys.Order = codes "Order"
code_of whys.NoMemory = codes "NoMemory"

-- a fault is told with the line that has it
abbrev pub fault_text : RowFault → List ℕ
fault_text fault = codes "draw: line " ++ (decimal fault.line ++ (codes ": " ++ (code_of fault.why ++ codes "\n")))

abbrev pub line_of : RunEnd → List ℕ
line_of Drawn = []
line_of InputFault = codes "draw: input fault\n"
line_of OutputFault = codes "draw: output fault\n"
line_of TooLong = codes "draw: the input is too long\n"
line_of NoText = codes "draw: the input is no text\n"
line_of (Refused fault) = fault_text fault
line_of Empty = codes "draw: the rows have no two instants\n"
line_of NoMemory = codes "draw: out of memory\n"
