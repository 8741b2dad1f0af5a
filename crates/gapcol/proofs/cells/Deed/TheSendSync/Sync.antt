use denote.RattleType.{RattleType}
use denote.Param.Send.{IsSync}
use Rattle.core.specs.declared.alloc.Allocator.{Ghosts}
use Rattle.gapcol.specs.contracts.cells.Deed.{the_row}
use Rattle.gapcol.proofs.Crossing.{deed_sync}

pub sync : (R A : RattleType) (g : Ghosts A.Denot) → IsSync (the_row R A g)
sync = deed_sync
