use denote.RattleType.{RattleType}
use denote.Param.Send.{IsSync}
use Rattle.gapcol.specs.contracts.cells.Cells.{the_row}
use Rattle.gapcol.proofs.Crossing.{cells_sync}

pub sync : (R : RattleType) → IsSync R → IsSync (the_row R)
sync = cells_sync
