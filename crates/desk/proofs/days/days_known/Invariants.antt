use Rattle.std.specs.Prelude.{map}
use Rattle.desk.specs.Replies.{row_at}
use Rattle.http_api.specs.Tables.{row_of}
use Rattle.desk.proofs.DailyLemmas.{AreGathered}
use Rattle.desk.proofs.days.days_known.Given as goal

-- the days before the next one were gathered
abbrev pub invariant-loop-number : goal.invariant-loop-number
invariant-loop-number g l =
    AreGathered (row_at l.office.register.history.events l.site) l.fn.from l.fn.to l.number (map row_of l.days.items)
