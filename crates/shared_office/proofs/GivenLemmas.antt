-- Jobs that were given, and what becomes of them at a later list.
use Rattle.std.proofs.Common.{◌≡◌, List, [], ◌∷◌, ◌++◌, Option, Some, None, IfSome, Ok, Err, ℤ, refl, sym, ap, ◌∙◌, subst}
use Rattle.std.specs.Prelude.{All, option_map, slice_get}
use Rattle.std.proofs.lemmas.List.Elements.{All-head}
use mathlib.Core.List.{IsPrefix}
use Rattle.devices.specs.declared.disks.Disk.{Ghosts}
use Rattle.fixed_units.specs.Quantities.{SiteNumber}
use Rattle.history.specs.Awaited.{SiteDay, awaited, pending_days}
use Rattle.history.specs.Events.{Event, History}
use Rattle.office.specs.Steps.{Step, AnEdit, AClaim, ALook, APublication, ATurn, ASettlement, AnAnswer, AStop, Gives, IsStep}
use Rattle.recompute.specs.Jobs.{DayJob}
use Rattle.recompute.specs.declared.jobs.Publish.{Publish}
use Rattle.register.specs.Asked.{comes_after, job_at, next_after, outcome_at}
use Rattle.register.specs.Registered.{Registered, first_unclaimed}
use Rattle.register.proofs.CourseLemmas.{job_outcome}
use Rattle.register.proofs.FoundLemmas.{found_of_all}
use Rattle.register.proofs.TurnLemmas.{IsPending, all_pending, awaited_some}
use Rattle.shared_office.specs.Entries.{events_in, history_of}
use Rattle.shared_office.specs.Finding.{ComesOutAsAwaited}
use Rattle.shared_office.specs.Holdings.{Holding}
use Rattle.shared_office.specs.Passing.{Lock, fixed_in, history_in}
use Rattle.shared_office.specs.Working.{IsTask}
use Rattle.shared_office.specs.declared.entries.Entry.{Entry}
use Rattle.shared_office.specs.declared.entries.Fixed.{Fixed}
use Rattle.shared_office.proofs.TaskLemmas.{events_on, history_told}
use Rattle.turnstile.proofs.ListLemmas.{prefix_on}

-- the first of the pending days that is looked for is pending
first_pending : (events : List Event) (days : List SiteDay) → All (IsPending events) days → IfSome (slice_get days 0) (IsPending events)
first_pending events [] h = tt
first_pending events (d ∷ days) h = All-head (IsPending events) d days h

pub next_pending : (events : List Event) (last : Option (SiteNumber × ℤ)) → IfSome (next_after last (pending_days events)) (IsPending events)
next_pending events None = first_pending events (pending_days events) (all_pending events)
next_pending events (Some last) = found_of_all (IsPending events) (comes_after last.0 last.1) (pending_days events) (all_pending events)

-- a job that is there is that of a pending day
pub found_day : (events : List Event) (job : DayJob) (o : Option SiteDay) → IfSome o (IsPending events) → Some job ≡ option_map (job_at events) o
    → (d : SiteDay) × (o ≡ Some d) × (job ≡ job_at events d) × IsPending events d
found_day events job None pending found = absurd (cc)
found_day events job (Some d) pending found = (d, refl, (let one : job ≡ job_at events d = cc in one), pending)

module _ (fixed : Fixed) (at later : List Entry) (on : IsPrefix at later) where
  -- at a later list it comes out as its day awaits there
  comes_out : (job : DayJob) (o : Option SiteDay) → IfSome o (IsPending (history_of fixed at).events) → Some job ≡ option_map (job_at (history_of fixed at).events) o
      → ComesOutAsAwaited (history_of fixed later) job (outcome_at (history_of fixed later).events job)
  comes_out job o pending found =
      let d = found_day (events_in at) job o pending found in
      let since : events_in at ++ events_in on.0 ≡ events_in later = sym (events_on at on.0) ∙ ap events_in on.1 in
      subst (λ (j : DayJob). ComesOutAsAwaited (history_of fixed later) j (outcome_at (history_of fixed later).events j)) (sym d.2)
      (subst (λ (events : List Event). (ComesOutAsAwaited (record { opened = fixed.opened; limits = fixed.limits; format = fixed.format; events = events }) (job_at (events_in at) d.0)
      (outcome_at events (job_at (events_in at) d.0)))) since
      (job_outcome (events_in at) (events_in on.0) d.0 (awaited_some (awaited (events_in at) d.0.site d.0.day) d.3)))

pub looked_comes_out : (fixed : Fixed) (last : Option (SiteNumber × ℤ)) (at later : List Entry) (job : DayJob)
    → Some job ≡ option_map (job_at (history_of fixed at).events) (next_after last (pending_days (history_of fixed at).events)) → IsPrefix at later
    → ComesOutAsAwaited (history_of fixed later) job (outcome_at (history_of fixed later).events job)
looked_comes_out fixed last at later job found on =
    comes_out fixed at later on job (next_after last (pending_days (events_in at))) (next_pending (events_in at) last) found

-- the day of a job that a step gave
record IsGiven (h : History) (job : DayJob) : Type 0 where
  day : Option SiteDay
  pending : IfSome day (IsPending h.events)
  found : Some job ≡ option_map (job_at h.events) day

given_by : (old : Registered) (step : Step) (new : Registered) (job : DayJob) → Gives step job → IsStep old step new → IsGiven old.history job
given_by old (AClaim (Ok None)) new job gives is = absurd (cc)
given_by old (AClaim (Ok (Some other))) new job gives is = record {
  day = first_unclaimed old;
  pending = found_of_all (IsPending old.history.events) _ (pending_days old.history.events) (all_pending old.history.events);
  found = sym gives ∙ is.0;
}
given_by old (AClaim (Err failed)) new job gives is = absurd gives
given_by old (ALook last (Ok told)) new job gives is = record {
  day = next_after last (pending_days old.history.events);
  pending = next_pending old.history.events last;
  found = sym gives ∙ is.0;
}
given_by old (ALook last (Err failed)) new job gives is = absurd gives
given_by old (AnEdit edit result) new job gives is = absurd gives
given_by old (APublication other outcome) new job gives is = absurd gives
given_by old (ATurn result) new job gives is = absurd gives
given_by old (ASettlement result) new job gives is = absurd gives
given_by old (AnAnswer site day answer) new job gives is = absurd gives
given_by old (AStop cut found) new job gives is = absurd gives

-- what a publication came to
outcome_of : (old : Registered) (step : Step) (new : Registered) (job : DayJob) (outcome : Publish) → step ≡ APublication job outcome → IsStep old step new
    → outcome ≡ outcome_at old.history.events job
outcome_of old step new job outcome is goes = (subst (λ (s : Step). IsStep old s new) is goes).1

pub given_comes_out : {D : Type 0} {g : Ghosts D} (lock : Lock D g) (given published : Holding (List Entry)) (task : IsTask lock given) (later : IsTask lock published)
    (job : DayJob) (outcome : Publish) → Gives task.step job → later.step ≡ APublication job outcome → IsPrefix given.to published.from
    → ComesOutAsAwaited (history_in lock published.from) job outcome
given_comes_out lock given published task later job outcome gives is on =
    let k = given_by task.old.office.register task.step task.new.office.register job gives task.goes in
    let before : history_in lock given.from ≡ task.old.office.register.history =
    ap (λ (l : List Entry). history_in lock l) task.from_is ∙ history_told task.old (fixed_in lock) task.fixed_is in
    let then : history_in lock published.from ≡ later.old.office.register.history =
    ap (λ (l : List Entry). history_in lock l) later.from_is ∙ history_told later.old (fixed_in lock) later.fixed_is in
    let told : outcome_at (history_in lock published.from).events job ≡ outcome =
    ap (λ (h : History). outcome_at h.events job) then
    ∙ sym (outcome_of later.old.office.register later.step later.new.office.register job outcome is later.goes) in
    subst (λ (o : Publish). ComesOutAsAwaited (history_in lock published.from) job o) told
    (comes_out (fixed_in lock) given.from published.from (begins lock given published task on) job k.day
    (subst (λ (h : History). IfSome k.day (IsPending h.events)) (sym before) k.pending)
    (subst (λ (h : History). Some job ≡ option_map (job_at h.events) k.day) (sym before) k.found))
  where
    begins : {D : Type 0} {g : Ghosts D} (lock : Lock D g) (given published : Holding (List Entry)) (task : IsTask lock given) → IsPrefix given.to published.from
        → IsPrefix given.from published.from
    begins lock given published task on =
        prefix_on given.from given.to published.from (subst (λ (l : List Entry). IsPrefix given.from l) (sym task.adds) (_, refl)) on
