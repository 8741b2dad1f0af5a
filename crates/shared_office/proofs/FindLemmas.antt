-- What a worker finds, by the claim and the look of the office.
use Rattle.std.specs.Prelude.{◌≡◌, List, [], ◌∷◌, Option, Some, None, option_map, slice_get, Result, Ok}
use Rattle.std.proofs.Common.{refl, ap, sym}
use Rattle.fixed_units.specs.declared.texts.NoMemory.{NoMemory}
use Rattle.history.specs.Awaited.{SiteDay, pending_days}
use Rattle.office.specs.Steps.{Step, AClaim, ALook, IsAsBefore, IsStep}
use Rattle.recompute.specs.Jobs.{DayJob}
use Rattle.register.specs.Asked.{job_at, next_after}
use Rattle.register.specs.Registered.{Registered, first_unclaimed}
use Rattle.shared_office.specs.Finding.{FindsBy, found_by_claim, found_by_look}

none_mapped : {A B : Type 0} (f : A → B) (given : Option A) → None ≡ option_map f given → given ≡ None
none_mapped f None e = refl
none_mapped f (Some a) e = absurd (cc)

none_first : (days : List SiteDay) → slice_get days 0 ≡ None → days ≡ []
none_first [] e = refl
none_first (d ∷ days) e = absurd (cc)

-- a look for the first pending day gave none
pub finds_drained : (r : Registered) → None ≡ option_map (job_at r.history.events) (next_after None (pending_days r.history.events)) → pending_days r.history.events ≡ []
finds_drained r e = none_first (pending_days r.history.events) (none_mapped (job_at r.history.events) (slice_get (pending_days r.history.events) 0) e)

-- nothing has happened to an office
as_it_is : (r : Registered) → IsAsBefore r r
as_it_is r = record { history = refl; claims = λ site day. refl }

-- a claim gives no job
pub no_claim : (r : Registered) → first_unclaimed r ≡ None → IsStep r (AClaim (Ok None)) r
no_claim r none = (sym (ap (option_map (job_at r.history.events)) none), as_it_is r)

-- a claim or a look by which something is found
pub claimed : (old : Registered) (answer : Result (Option DayJob) NoMemory) (told : Result (Option DayJob) NoMemory) (new : Registered) → answer ≡ told
    → IsStep old (AClaim answer) new → (step : Step) × FindsBy step (found_by_claim told) × IsStep old step new
claimed old answer told new is step = (AClaim answer, ap found_by_claim (sym is), step)

pub looked : (r : Registered) (answer : Result (Option DayJob) NoMemory) (told : Result (Option DayJob) NoMemory) → answer ≡ told
    → IsStep r (ALook None answer) r → (step : Step) × FindsBy step (found_by_look told) × IsStep r step r
looked r answer told is step = (ALook None answer, ap found_by_look (sym is), step)
