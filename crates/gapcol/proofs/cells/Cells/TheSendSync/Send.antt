use denote.RattleType.{RattleType}
use denote.Param.Send.{IsSend}
use Rattle.gapcol.specs.contracts.cells.Cells.{the_row}
use Rattle.gapcol.proofs.Crossing.{cells_send}

pub send : (R : RattleType) → IsSend R → IsSend (the_row R)
send = cells_send
