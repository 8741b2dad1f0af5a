-- What steps make of an office, one behind another.
use Rattle.std.specs.Prelude.{◌≡◌, ◌≢◌, ◌↔◌, ℕ, ◌+◌, Bool, true, false, cond, List, [], ◌∷◌, ◌++◌, length, map, slice_get, All, Option, Some, None, IfSome, is_some, option_map, Ok, Err, ℤ}
use Rattle.std.proofs.Common.{arith, refl, ap, sym, subst, inl, inr, ◌∙◌, length-append}
use Rattle.std.proofs.lemmas.Bool.{false≢true}
use Rattle.std.proofs.lemmas.List.{append-nil, append_assoc, get_or_push, length-map, map-append}
use Rattle.std.proofs.lemmas.Option.{slice_get_read}
use Rattle.std.proofs.lemmas.List.Elements.{All-head, All-tail}
use Rattle.daily_values.specs.DayValue.{day_value}
use Rattle.daily_values.specs.declared.day_values.DayValue.{DayValue}
use Rattle.edits.specs.declared.content.Edit.{Edit}
use Rattle.fixed_units.specs.Quantities.{SiteNumber}
use Rattle.history.specs.Accepted.{accepted, edit_of, edits_of}
use Rattle.history.specs.Awaited.{SiteDay, DayAnswer, NoStation, Pending, Computed, answer_at, answer_by, awaited, pending_days, value_at}
use Rattle.history.specs.Events.{Event, History}
use Rattle.history.specs.LastChanges.{ChangedLast}
use Rattle.history.specs.Legal.{IsLegal}
use Rattle.history.specs.Verdicts.{Repeats, record_of, verdict}
use Rattle.history.proofs.EventLemmas.{accepted_accepted}
use Rattle.history.proofs.LastChangeLemmas.{awaits_last_change}
use Rattle.history.proofs.RepeatLemmas.{is_repeated, repeats_still}
use Rattle.office.specs.Edits.{IsTaken}
use Rattle.office.specs.Steps.{Step, AnEdit, AClaim, ALook, APublication, ATurn, ASettlement, AnAnswer, AStop, Gives, GoesOver, IsCall, IsStep, added, added_by, cut_off}
use Rattle.office.specs.declared.offices.Accepted as told
use Rattle.office.proofs.LastingLemmas.{lasting_outcome}
use Rattle.office.proofs.StepLemmas.{Adds, Course, adds_step, legal_step, limit_course, step_course}
use Rattle.office_inputs.specs.Stations.{station_of, stations_of, inputs_of_day}
use Rattle.recompute.specs.Jobs.{DayJob}
use Rattle.recompute.specs.declared.jobs.Publish.{Publish}
use Rattle.recompute.specs.declared.jobs.Publish.TheVariants.{Foreign, Published}
use Rattle.records.specs.Sheets.{Record}
use Rattle.register.specs.Asked.{comes_after, job_at, next_after, outcome_at}
use Rattle.register.specs.Keeping.{KeepsToTheLimit}
use Rattle.register.specs.Registered.{Registered, first_unclaimed}
use Rattle.register.proofs.FoundLemmas.{found_of_all}
use Rattle.register.proofs.TurnLemmas.{IsPending, all_pending, awaited_some}

-- what each step keeps, any steps keep
pub by_steps : (P : Registered → Type 0) → ((old : Registered) (step : Step) (new : Registered) → IsStep old step new → P old → P new)
    → (old : Registered) (steps : List Step) (new : Registered) → GoesOver old steps new → P old → P new
by_steps P each old [] new g p = subst P (sym g) p
by_steps P each old (step ∷ steps) new g p = by_steps P each g.0 steps new g.2 (each old step g.0 g.1 p)

pub legal_steps : (old : Registered) (steps : List Step) (new : Registered) → GoesOver old steps new → IsLegal old.history → IsLegal new.history
legal_steps old steps new g k = by_steps (λ (r : Registered). IsLegal r.history) legal_step old steps new g k

-- steps, and others behind them
pub record Parted (old : Registered) (first second : List Step) (new : Registered) : Type 0 where
  pub at : Registered
  pub before : GoesOver old first at
  pub behind : GoesOver at second new

pub parted : (old : Registered) (first second : List Step) (new : Registered) → GoesOver old (first ++ second) new → Parted old first second new
parted old [] second new g = record { at = old; before = refl; behind = g }
parted old (step ∷ first) second new g =
    let rest = parted g.0 first second new g.2 in
    record { at = rest.at; before = (g.0, g.1, rest.before); behind = rest.behind }

pub joined : (old : Registered) (first second : List Step) (at new : Registered) → GoesOver old first at → GoesOver at second new
    → GoesOver old (first ++ second) new
joined old [] second at new g h = subst (λ (r : Registered). GoesOver r second new) g h
joined old (step ∷ first) second at new g h = (g.0, g.1, joined g.0 first second at new g.2 h)

-- the accepted records stay, and those of the edits that are added stand behind them
pub adds_steps : (old : Registered) (steps : List Step) (new : Registered) → GoesOver old steps new → Adds old.history (added steps) new.history
adds_steps old [] new g = record {
  records = [];
  accepted_are = ap (λ (r : Registered). accepted r.history.events) g ∙ sym (append-nil (accepted old.history.events));
  edits_are = refl;
  limits = ap (λ (r : Registered). r.history.limits) g;
  format = ap (λ (r : Registered). r.history.format) g;
}
adds_steps old (step ∷ steps) new g =
    let first = adds_step old step g.0 g.1 in
    let rest = adds_steps g.0 steps new g.2 in
    record {
      records = first.records ++ rest.records;
      accepted_are =
          rest.accepted_are ∙ ap (λ (l : List Record). l ++ rest.records) first.accepted_are
          ∙ append_assoc (accepted old.history.events) first.records rest.records;
      edits_are =
          map-append edit_of first.records rest.records ∙ ap (λ (l : List Edit). l ++ map edit_of rest.records) first.edits_are
          ∙ ap (λ (l : List Edit). added_by step ++ l) rest.edits_are;
      limits = rest.limits ∙ first.limits;
      format = rest.format ∙ first.format;
    }

pub edits_after : (old : Registered) (steps : List Step) (new : Registered) → GoesOver old steps new
    → edits_of new.history.events ≡ edits_of old.history.events ++ added steps
edits_after old steps new g =
    let adds = adds_steps old steps new g in
    ap (map edit_of) adds.accepted_are ∙ map-append edit_of (accepted old.history.events) adds.records
    ∙ ap (λ (l : List Edit). edits_of old.history.events ++ l) adds.edits_are

-- what is answered for a day
computed_by : (kept : Bool) (o : Option ℕ) (value told : DayValue) → Computed told ≡ cond kept (answer_by o value) NoStation → told ≡ value
computed_by true None value told e = cc
computed_by true (Some edit) value told e = absurd (cc)
computed_by false o value told e = absurd (cc)

pending_by : (kept : Bool) (o : Option ℕ) (value : DayValue) (number : ℕ) → Pending number ≡ cond kept (answer_by o value) NoStation → o ≡ Some number
pending_by true None value number e = absurd (cc)
pending_by true (Some edit) value number e = let same : number ≡ edit = cc in ap Some (sym same)
pending_by false o value number e = absurd (cc)

missing_by : (kept : Bool) (o : Option ℕ) (value : DayValue) → NoStation ≡ cond kept (answer_by o value) NoStation → kept ≡ false
missing_by true None value e = absurd (cc)
missing_by true (Some edit) value e = absurd (cc)
missing_by false o value e = refl

module _ (old new : Registered) (before after : List Step) (site : SiteNumber) (day : ℤ) where
  pub answer_of_history : (answer : DayAnswer) → GoesOver old (before ++ AnAnswer site day answer ∷ after) new
      → (at : Registered) × GoesOver old before at × GoesOver at (AnAnswer site day answer ∷ after) new × (answer ≡ answer_at at.history.events site day)
  answer_of_history answer g =
      let p = parted old before (AnAnswer site day answer ∷ after) new g in
      (p.at, p.before, p.behind, p.behind.1.0)

  edits_then : (answer : DayAnswer) (g : GoesOver old (before ++ AnAnswer site day answer ∷ after) new)
      → edits_of (answer_of_history answer g).0.history.events ≡ edits_of old.history.events ++ added before
  edits_then answer g = let p = answer_of_history answer g in edits_after old before p.0 p.1

  pub computed_from_scratch : (value : DayValue) → GoesOver old (before ++ AnAnswer site day (Computed value) ∷ after) new
      → value ≡ day_value (inputs_of_day (stations_of (edits_of old.history.events ++ added before)) site day)
  computed_from_scratch value g =
      let p = answer_of_history (Computed value) g in
      let events = p.0.history.events in
      computed_by (is_some (station_of (stations_of (edits_of events)) site)) (awaited events site day) (value_at events site day) value p.3
      ∙ ap (λ (l : List Edit). day_value (inputs_of_day (stations_of l) site day)) (edits_then (Computed value) g)

  pub pending_names_last : (number : ℕ) → GoesOver old (before ++ AnAnswer site day (Pending number) ∷ after) new
      → ChangedLast (edits_of old.history.events ++ added before) site day number
  pending_names_last number g =
      let p = answer_of_history (Pending number) g in
      let events = p.0.history.events in
      subst (λ (l : List Edit). ChangedLast l site day number) (edits_then (Pending number) g)
      (awaits_last_change site day events number
      (pending_by (is_some (station_of (stations_of (edits_of events)) site)) (awaited events site day) (value_at events site day) number p.3))

  pub not_kept_where_missing : GoesOver old (before ++ AnAnswer site day NoStation ∷ after) new
      → is_some (station_of (stations_of (edits_of old.history.events ++ added before)) site) ≡ false
  not_kept_where_missing g =
      let p = answer_of_history NoStation g in
      let events = p.0.history.events in
      ap (λ (l : List Edit). is_some (station_of (stations_of l) site)) (sym (edits_then NoStation g))
      ∙ missing_by (is_some (station_of (stations_of (edits_of events)) site)) (awaited events site day) (value_at events site day) p.3

last_there : (edits : List Edit) (edit : Edit) → slice_get (edits ++ edit ∷ []) (length edits) ≡ Some edit
last_there edits edit =
    let long = length-append edits (edit ∷ []) in
    slice_get_read (edits ++ edit ∷ []) (length (edits ++ edit ∷ [])) (length edits) edit refl (omega (arith, long)) (sym (get_or_push edits edit edit (length edits) refl))

-- an edit that is acknowledged is told its number ever after
pub taken_repeats : (h : History) (edit : Edit) (new : History) (number : ℕ) (again : Bool) → IsTaken h edit new number again → IsLegal new
    → verdict new edit ≡ Repeats number
taken_repeats h edit new number true is k = ap (λ (x : History). verdict x edit) is.1 ∙ is.0
taken_repeats h edit new number false is k =
    let all : edits_of new.events ≡ edits_of h.events ++ edit ∷ [] =
    ap (λ (x : History). edits_of x.events) is.2 ∙ ap (map edit_of) (accepted_accepted h.events (record_of h edit))
    ∙ map-append edit_of (accepted h.events) (record_of h edit ∷ []) in
    let place : slice_get (edits_of h.events ++ edit ∷ []) (length (accepted h.events)) ≡ Some edit =
    ap (slice_get (edits_of h.events ++ edit ∷ [])) (sym (length-map (accepted h.events) edit_of)) ∙ last_there (edits_of h.events) edit in
    is_repeated new (length (accepted h.events)) edit k (ap (λ (l : List Edit). slice_get l (length (accepted h.events))) all ∙ place)
    ∙ ap Repeats (sym is.1)

pub told_ever_after : (old new : Registered) (before after : List Step) (edit : Edit) (taken : told.Accepted) → IsLegal old.history
    → GoesOver old (before ++ AnEdit edit (Ok taken) ∷ after) new → verdict new.history edit ≡ Repeats taken.number
told_ever_after old new before after edit taken k g =
    let p = parted old before (AnEdit edit (Ok taken) ∷ after) new g in
    let next = p.behind.0 in
    let step = p.behind.1 in
    let legal : IsLegal next.history = legal_step p.at (AnEdit edit (Ok taken)) next step (legal_steps old before p.at p.before k) in
    repeats_still next.history new.history (added after) edit taken.number (edits_after next after new p.behind.2)
    (taken_repeats p.at.history edit next.history taken.number taken.repeated step.0 legal)

-- and the number that it is told first is the next one
taken_number : (h : History) (edit : Edit) (new : History) (number : ℕ) (again : Bool) → IsTaken h edit new number again → again ≡ false
    → number ≡ length (accepted h.events) + 1
taken_number h edit new number true is e = absurd (false≢true (sym e))
taken_number h edit new number false is e = is.1

pub told_next : (old new : Registered) (before after : List Step) (edit : Edit) (taken : told.Accepted) → taken.repeated ≡ false
    → GoesOver old (before ++ AnEdit edit (Ok taken) ∷ after) new → taken.number ≡ length (edits_of old.history.events ++ added before) + 1
told_next old new before after edit taken first g =
    let p = parted old before (AnEdit edit (Ok taken) ∷ after) new g in
    let number = taken_number p.at.history edit p.behind.0.history taken.number taken.repeated p.behind.1.0 first in
    let long = length-map (accepted p.at.history.events) edit_of in
    let all = ap (λ (l : List Edit). length l) (edits_after old before p.at p.before) in
    omega (arith, number, long, all)

pub call_course : (old : Registered) (step : Step) (new : Registered) → IsCall step → IsStep old step new
    → Course old.history (cut_off step) (added_by step) new.history
call_course old step new call is = elim (step_course old step new is) [
  | inl course ↦ course
  | inr stop ↦ absurd (subst IsCall stop.2 call)
]

-- the limit is kept by calls
pub limit_steps : (old : Registered) (steps : List Step) (new : Registered) → All IsCall steps → GoesOver old steps new → KeepsToTheLimit old.history
    → KeepsToTheLimit new.history
limit_steps old [] new calls g k = subst (λ (r : Registered). KeepsToTheLimit r.history) (sym g) k
limit_steps old (step ∷ steps) new calls g k =
    limit_steps g.0 steps new (All-tail IsCall step steps calls) g.2
    (limit_course old.history (cut_off step) (added_by step) g.0.history (call_course old step g.0 (All-head IsCall step steps calls) g.1) k)

-- where a job was given: its day awaited its edit, and it has the inputs that were in force
record WasGiven (h new : History) (job : DayJob) : Type 0 where
  d : SiteDay
  job_is : job ≡ job_at h.events d
  awaits : awaited h.events d.site d.day ≡ Some (job_at h.events d).awaits
  same : new ≡ h

given_day : (h new : History) (job : DayJob) (o : Option SiteDay) → IfSome o (IsPending h.events) → Some job ≡ option_map (job_at h.events) o → new ≡ h
    → WasGiven h new job
given_day h new job None pending e same = absurd (cc)
given_day h new job (Some d) pending e same =
    record { d = d; job_is = (let one : job ≡ job_at h.events d = cc in one); awaits = awaited_some (awaited h.events d.site d.day) pending; same = same }

first_pending : (events : List Event) (days : List SiteDay) → All (IsPending events) days → IfSome (slice_get days 0) (IsPending events)
first_pending events [] h = tt
first_pending events (d ∷ days) h = All-head (IsPending events) d days h

next_pending : (events : List Event) (last : Option (SiteNumber × ℤ)) → IfSome (next_after last (pending_days events)) (IsPending events)
next_pending events None = first_pending events (pending_days events) (all_pending events)
next_pending events (Some last) = found_of_all (IsPending events) (comes_after last.0 last.1) (pending_days events) (all_pending events)

was_given : (old : Registered) (step : Step) (new : Registered) (job : DayJob) → Gives step job → IsStep old step new → WasGiven old.history new.history job
was_given old (AClaim (Ok None)) new job gives is = absurd (cc)
was_given old (AClaim (Ok (Some given))) new job gives is =
    given_day old.history new.history job (first_unclaimed old) (found_of_all (IsPending old.history.events) _ (pending_days old.history.events) (all_pending old.history.events))
    (sym gives ∙ is.0) is.1.0
was_given old (AClaim (Err failed)) new job gives is = absurd gives
was_given old (ALook last (Ok given)) new job gives is =
    given_day old.history new.history job (next_after last (pending_days old.history.events)) (next_pending old.history.events last) (sym gives ∙ is.0) is.1.history
was_given old (ALook last (Err failed)) new job gives is = absurd gives
was_given old (AnEdit edit result) new job gives is = absurd gives
was_given old (APublication other outcome) new job gives is = absurd gives
was_given old (ATurn result) new job gives is = absurd gives
was_given old (ASettlement result) new job gives is = absurd gives
was_given old (AnAnswer site day answer) new job gives is = absurd gives
was_given old (AStop cut found) new job gives is = absurd gives

-- what becomes of the publication of a job that was given before, where these edits have come since
job_published : (events now : List Event) (more : List Edit) (d : SiteDay) (job : DayJob) (outcome : Publish) → job ≡ job_at events d
    → awaited events d.site d.day ≡ Some (job_at events d).awaits → edits_of now ≡ edits_of events ++ more → outcome ≡ outcome_at now job
    → (outcome ≡ Published ↔ awaited now job.site job.day ≡ Some job.awaits) × (outcome ≢ Foreign)
job_published events now more d job outcome job_is awaits now_is e =
    subst (λ (j : DayJob). (outcome ≡ Published ↔ awaited now j.site j.day ≡ Some j.awaits) × (outcome ≢ Foreign)) (sym job_is)
    (subst (λ (o : Publish). (o ≡ Published ↔ awaited now d.site d.day ≡ Some (job_at events d).awaits) × (o ≢ Foreign))
    (sym (e ∙ ap (outcome_at now) job_is)) (lasting_outcome events now more d now_is awaits))

pub jobs_published : (old new : Registered) (before between after : List Step) (given : Step) (job : DayJob) (outcome : Publish) → Gives given job
    → GoesOver old (before ++ given ∷ (between ++ APublication job outcome ∷ after)) new
    → (at : Registered) × GoesOver old (before ++ given ∷ between) at × GoesOver at (APublication job outcome ∷ after) new
    × ((outcome ≡ Published ↔ awaited at.history.events job.site job.day ≡ Some job.awaits) × (outcome ≢ Foreign))
jobs_published old new before between after given job outcome gives g =
    let p = parted old before (given ∷ (between ++ APublication job outcome ∷ after)) new g in
    let next = p.behind.0 in
    let was = was_given p.at given next job gives p.behind.1 in
    let q = parted next between (APublication job outcome ∷ after) new p.behind.2 in
    let now : edits_of q.at.history.events ≡ edits_of p.at.history.events ++ added between =
    edits_after next between q.at q.before ∙ ap (λ (h : History). edits_of h.events ++ added between) was.same in (
      q.at,
      joined old before (given ∷ between) p.at q.at p.before (next, p.behind.1, q.before),
      q.behind,
      job_published p.at.history.events q.at.history.events (added between) was.d job outcome was.job_is was.awaits now q.behind.1.1,
    )
