-- Which asks only read, and what is answered by an office that nobody else asks, and what has become of it then.
use Rattle.std.specs.Prelude.{◌≡◌, ℕ, ◌≤◌, List, ⊤}
use Rattle.shared_office.specs.Passages.{Passes}
use Rattle.desk.specs.Replies.{IsAnswered}
use Rattle.desk.specs.Replying.{memory_reply}
use Rattle.devices.specs.declared.disks.Disk.{Ghosts}
use Rattle.http_api.specs.declared.asks.Ask.{Ask}
use Rattle.http_api.specs.declared.asks.Ask.TheVariants as asks
use Rattle.office.specs.Offices.{Officed}

-- an ask that only reads; no turns are one
abbrev pub IsReading : Ask → Type 0
IsReading (asks.Edit edit) = ⊥
IsReading (asks.Station site) = ⊤
IsReading (asks.DayOf site day) = ⊤
IsReading (asks.SheetOf site day) = ⊤
IsReading (asks.Daily site from to) = ⊤
IsReading (asks.Measurement site number) = ⊤
IsReading (asks.EditOf number) = ⊤
IsReading (asks.Turns count) = count ≡ 0
IsReading asks.Settle = ⊥
IsReading asks.Counts = ⊤

-- Where the reply is that of want of memory, the disk is as it was.
pub record AnswersAlone {D : Type 0} (g : Ghosts D) (old : Officed D) (ask : Ask) (reply : List ℕ) (new : Officed D) : Type 0 where
  pub answered : IsAnswered old.register.history ask reply new.register.history
  pub passed : Passes g old.register.history new.register.history old.disk new.disk
  pub unwritten : reply ≡ memory_reply → new.disk ≡ old.disk
  pub counted : g.faults old.disk ≤ g.faults new.disk
