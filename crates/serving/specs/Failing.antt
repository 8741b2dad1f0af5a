-- How many replies tell that the journal failed.
use Rattle.std.specs.Prelude.{ℕ, ◌+◌, List, [], ◌∷◌, Option, None, Some, IsSomeAnd, count_by}
use Rattle.desk.specs.Replies.{tells_fault}
use Rattle.desk.specs.Serving.{EndsIn, Served}
use Rattle.desk.specs.declared.sessions.SessionEnd.{SessionEnd}
use Rattle.devices.specs.Doors.{Ends}
use Rattle.serving.specs.Taking.{AreServed}
use Rattle.shared_office.specs.Holdings.{Holding}
use Rattle.shared_office.specs.declared.entries.Entry.{Entry}
use Rattle.shared_office.specs.declared.entries.Fixed.{Fixed}

-- of a session
abbrev pub failed_in : {fixed : Fixed} {before after : Ends} {end : SessionEnd} {holdings : List (Holding (List Entry))}
    → EndsIn fixed before after end holdings → ℕ
failed_in ends_in = count_by tells_fault ends_in.replies

-- of a connection that was taken back
abbrev pub failed_of : (fixed : Fixed) (came : Ends) (start : ℕ) (list : List Entry) (places : List ℕ) (went : Option Ends)
    → IsSomeAnd went (λ went. Served fixed came went start list places) → ℕ
failed_of fixed came start list places None served = 0
failed_of fixed came start list places (Some went) served = failed_in served.ends_in

-- of all connections from a number on
abbrev pub failed_replies : (fixed : Fixed) (start : ℕ) (list : List Entry) (back : ℕ → Option Ends) (number : ℕ) (given : List Ends) (connections : List (List ℕ))
    → AreServed fixed start list back number given connections → ℕ
failed_replies fixed start list back number [] [] served = 0
failed_replies fixed start list back number [] (places ∷ more) served = 0
failed_replies fixed start list back number (came ∷ given) [] served = 0
failed_replies fixed start list back number (came ∷ given) (places ∷ more) served =
    failed_of fixed came start list places (back number) served.0 + failed_replies fixed start list back (number + 1) given more served.1
