-- What is answered to an ask behind a lock, and the holdings in which that was found out.
use Rattle.std.specs.Prelude.{◌≡◌, ◌⊎◌, ℕ, zero, suc, ◌+◌, ◌-◌, List, [], ◌∷◌, ◌++◌, length, Option, Some, None, option_map, ℤ}
use Rattle.desk.specs.Replies as alone
use Rattle.desk.specs.Replying.{memory_reply}
use Rattle.fixed_units.specs.Quantities.{SiteNumber}
use Rattle.history.specs.After.{go_on}
use Rattle.history.specs.Awaited.{pending_days}
use Rattle.http_api.specs.Replies.{bytes_of}
use Rattle.http_api.specs.declared.asks.Ask.{Ask}
use Rattle.http_api.specs.declared.asks.Ask.TheVariants as asks
use Rattle.http_api.specs.declared.replies.Reply.TheVariants as replies
use Rattle.history.specs.Events.{Event}
use Rattle.office.specs.Counting.{fault_count}
use Rattle.recompute.specs.Jobs.{DayJob}
use Rattle.register.specs.Asked.{job_at, next_after, outcome_at}
use Rattle.shared_office.specs.Entries.{events_in, history_of}
use Rattle.shared_office.specs.Finding.{published_by}
use Rattle.shared_office.specs.Holdings.{Holding, Follow, last_of}
use Rattle.shared_office.specs.Passing.{adding}
use Rattle.shared_office.specs.declared.entries.Entry.{Entry}
use Rattle.shared_office.specs.declared.entries.Fixed.{Fixed}

-- the day of a job, as the one that was looked for last
abbrev pub looked_at : DayJob → Option (SiteNumber × ℤ)
looked_at job = Some (job.site, job.day)

-- how many entries holdings added
abbrev pub grown : List (Holding (List Entry)) → ℕ
grown [] = 0
grown (x ∷ xs) = (length x.to - length x.from) + grown xs

-- how many faults of the journal they added
abbrev pub faults_added : List (Holding (List Entry)) → ℕ
faults_added [] = 0
faults_added (x ∷ xs) = (fault_count (events_in x.to) - fault_count (events_in x.from)) + faults_added xs

-- holdings that touch, from one list to another: each begins with what the one before it left, so nobody else did anything in between
abbrev pub Touch : List Entry → List (Holding (List Entry)) → List Entry → Type 0
Touch = Follow (λ before after. after ≡ before)

module _ (fixed : Fixed) where
  -- a look for the first pending day behind one, or of all
  abbrev pub IsLook : Option (SiteNumber × ℤ) → Option DayJob → Holding (List Entry) → Type 0
  IsLook last job x =
      (x ≡ adding x.from [])
      × (job ≡ option_map (job_at (history_of fixed x.from).events) (next_after last (pending_days (history_of fixed x.from).events)))

  -- the publication of a job: it adds the day's event exactly where the day awaits then the edit that the job awaits
  abbrev pub IsPublication : DayJob → Holding (List Entry) → Type 0
  IsPublication job x = x ≡ adding x.from (published_by (outcome_at (history_of fixed x.from).events job) job)

  -- so many turns, each a look for the first pending day and the publication of its job; they end earlier only at a look that finds none
  abbrev pub AreTurns : ℕ → List (Holding (List Entry)) → Type 0
  AreTurns zero xs = xs ≡ []
  AreTurns (suc n) [] = ⊥
  AreTurns (suc n) (look ∷ []) = IsLook None None look
  AreTurns (suc n) (look ∷ (publication ∷ xs)) = (job : DayJob) × IsLook None (Some job) look × IsPublication job publication × AreTurns n xs

  -- a settlement: looks from day to day, each with the publication of its job, up to one that finds no day
  abbrev pub IsSettlement : Option (SiteNumber × ℤ) → List (Holding (List Entry)) → Type 0
  IsSettlement last [] = ⊥
  IsSettlement last (look ∷ []) = IsLook last None look
  IsSettlement last (look ∷ (publication ∷ xs)) =
      (job : DayJob) × IsLook last (Some job) look × IsPublication job publication × IsSettlement (looked_at job) xs

  -- either as far as there was memory, which ran out in the last look, or at the reply behind the whole: each look before found its day,
  -- whose job was published
  abbrev pub AreTurnsPartly : ℕ → List (Holding (List Entry)) → Type 0
  AreTurnsPartly zero xs = xs ≡ []
  AreTurnsPartly (suc n) [] = ⊥
  AreTurnsPartly (suc n) (look ∷ []) = look ≡ adding look.from []
  AreTurnsPartly (suc n) (look ∷ (publication ∷ xs)) =
      (job : DayJob) × IsLook None (Some job) look × IsPublication job publication × AreTurnsPartly n xs

  abbrev pub IsSettlementPartly : Option (SiteNumber × ℤ) → List (Holding (List Entry)) → Type 0
  IsSettlementPartly last [] = ⊥
  IsSettlementPartly last (look ∷ []) = look ≡ adding look.from []
  IsSettlementPartly last (look ∷ (publication ∷ xs)) =
      (job : DayJob) × IsLook last (Some job) look × IsPublication job publication × IsSettlementPartly (looked_at job) xs

  -- the reply of turns and settlements: how many days are pending behind the last holding, and how many publications there were
  abbrev pub IsTurned : List ℕ → List (Holding (List Entry)) → Type 0
  IsTurned reply xs =
      (last : Holding (List Entry)) × (last_of xs ≡ Some last)
      × (reply ≡ bytes_of (replies.Turned (length (pending_days (history_of fixed last.to).events)) (grown xs)))

  -- an ask that is answered at once is answered in one holding, as by an office that nobody else asks at what had happened then
  abbrev pub IsAnsweredAtOnce : Ask → List ℕ → List (Holding (List Entry)) → Type 0
  IsAnsweredAtOnce ask reply xs =
      (from : List Entry) × (added : List Event) × (xs ≡ adding from added ∷ [])
      × alone.IsAnswered (history_of fixed from) ask reply (go_on (history_of fixed from) added)

  -- the holdings of an ask, and its reply
  abbrev pub IsAnswered : Ask → List ℕ → List (Holding (List Entry)) → Type 0
  IsAnswered (asks.Turns zero) reply xs = IsAnsweredAtOnce (asks.Turns 0) reply xs
  IsAnswered (asks.Turns (suc n)) reply xs =
      (AreTurns (suc n) xs × IsTurned reply xs) ⊎ (AreTurnsPartly (suc n) xs × (reply ≡ memory_reply))
  IsAnswered asks.Settle reply xs = (IsSettlement None xs × IsTurned reply xs) ⊎ (IsSettlementPartly None xs × (reply ≡ memory_reply))
  IsAnswered (asks.Edit edit) reply xs = IsAnsweredAtOnce (asks.Edit edit) reply xs
  IsAnswered (asks.Station site) reply xs = IsAnsweredAtOnce (asks.Station site) reply xs
  IsAnswered (asks.DayOf site day) reply xs = IsAnsweredAtOnce (asks.DayOf site day) reply xs
  IsAnswered (asks.SheetOf site day) reply xs = IsAnsweredAtOnce (asks.SheetOf site day) reply xs
  IsAnswered (asks.Daily site from to) reply xs = IsAnsweredAtOnce (asks.Daily site from to) reply xs
  IsAnswered (asks.Measurement site number) reply xs = IsAnsweredAtOnce (asks.Measurement site number) reply xs
  IsAnswered (asks.EditOf number) reply xs = IsAnsweredAtOnce (asks.EditOf number) reply xs
  IsAnswered asks.Counts reply xs = IsAnsweredAtOnce asks.Counts reply xs

  -- the holdings of an ask are the first of those that are still to come
  abbrev pub Uses : List (Holding (List Entry)) → Ask → List ℕ → List (Holding (List Entry)) → Type 0
  Uses coming ask reply rest = (mine : List (Holding (List Entry))) × (coming ≡ mine ++ rest) × IsAnswered ask reply mine
