-- An office behind a lock may go to another thread.
use base.Shift.{Keyless}
use denote.Param.Send.{IsSend, sendable}
use denote.Param.SendFields.{declared_send}
use denote.RattleType.{RattleType}
use mathlib.Core.List.{List}
use mir.Val.{Val}
use Rattle.devices.specs.declared.disks.Disk.{Ghosts}
use Rattle.history.specs.contracts.recorded.Doubt as doubt
use Rattle.journal.specs.contracts.keeping.Journal as journal
use Rattle.office.specs.contracts.offices.Office as office
use Rattle.register.specs.contracts.registers.Register as register
use Rattle.shared_office.specs.contracts.shared.Shared as shared

pub register_sent : ((x : (register.the_row).Denot) (vs : List Val) → Keyless ((register.the_row).own_val x vs)) → IsSend register.the_row
register_sent h = record { owned = h; leaving = search sendable depth 60 }

doubt_sent : IsSend doubt.the_row
doubt_sent = search sendable depth 60

journal_sent : (D : RattleType) (g : Ghosts D.Denot) → IsSend D → IsSend (journal.the_row D g)
journal_sent D g d = search sendable depth 60

office_sent : IsSend register.the_row → (D : RattleType) (g : Ghosts D.Denot) → IsSend D → IsSend (office.the_row D g)
office_sent r D g d = let j = journal_sent D g d in let o = doubt_sent in search (declared_send, sendable) depth 60

pub shared_sent : IsSend register.the_row → (D : RattleType) (g : Ghosts D.Denot) → IsSend D → IsSend (shared.the_row D g)
shared_sent r D g d = let o = office_sent r D g d in search sendable depth 60
