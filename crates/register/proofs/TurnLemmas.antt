-- A turn: the job of a pending day is published, and claims stay as they were.
use Rattle.std.specs.Prelude.{◌≡◌, ℕ, Bool, true, false, not, cond, List, [], ◌∷◌, filter, find, slice_get, All, Option, Some, None, IfSome, is_some, option_map, unwrap_or, ℤ}
use Rattle.std.specs.List.{flat_map}
use Rattle.std.specs.Ordering.{int_eq}
use Rattle.std.proofs.Common.{refl, ap, sym, subst, ◌∙◌}
use Rattle.std.proofs.lemmas.Bool.{and_parts, not-true}
use Rattle.std.proofs.lemmas.Bool.Decides.{Decides-int_eq}
use Rattle.std.proofs.lemmas.List.Elements.{All-nil, All-append, All-map, filter_passes}
use Rattle.day_inputs.specs.Equality.{same_inputs}
use Rattle.day_cells.specs.KeptDays.{KeptDays, is_out_on}
use Rattle.day_cells.specs.Sites.{station_rank}
use Rattle.fixed_units.specs.Calendar.{calendar}
use Rattle.fixed_units.specs.Quantities.{SiteNumber, same_site}
use Rattle.history.specs.Accepted.{stations_at}
use Rattle.history.specs.After.{after_publication, after_publications, after_turn, next_day}
use Rattle.history.specs.Awaited.{SiteDay, awaited, is_day_of, is_pending, pending_of, pending_days, inputs_at}
use Rattle.history.specs.Events.{Event, History}
use Rattle.history.proofs.StationLemmas.{found_passes, places_equal}
use Rattle.station_inputs.specs.Stations.{StationState}
use Rattle.recompute.specs.Cells.{is_out_in}
use Rattle.recompute.specs.Jobs.{DayJob}
use Rattle.recompute.specs.declared.jobs.Publish.TheVariants as publish
use Rattle.recompute.proofs.OutcomeLemmas.{outcome_same, told_true}
use Rattle.register.specs.Asked.{day_of, job_at, outcome_at}
use Rattle.register.specs.Registered.{Registered, KeepsClaims, TakesClaim, EndsClaim, first_unclaimed, is_out}
use Rattle.register.proofs.FoundLemmas.{found_of_all, first_found}
use Rattle.rising.specs.Lists.{at}

-- a day is pending
abbrev pub IsPending : List Event → SiteDay → Type 0
IsPending events d = is_pending events d.site d.day ≡ true

days_pending : (events : List Event) (stations : List StationState) → All (IsPending events) (flat_map (pending_of events) stations)
days_pending events [] = All-nil (IsPending events)
days_pending events (s ∷ stations) =
    All-append (IsPending events) (pending_of events s) (flat_map (pending_of events) stations)
    (All-map (IsPending events) (λ day. record { site = s.site; day = day }) (filter (is_pending events s.site) calendar)
    (filter_passes (is_pending events s.site) calendar))
    (days_pending events stations)

-- each of the pending days is
pub all_pending : (events : List Event) → All (IsPending events) (pending_days events)
all_pending events = days_pending events (stations_at events)

pub awaited_some : (o : Option ℕ) → is_some o ≡ true → o ≡ Some (unwrap_or o 0)
awaited_some None h = absurd (cc)
awaited_some (Some edit) h = refl

-- the job of a pending day is published
pub pending_published : (events : List Event) (d : SiteDay) → IsPending events d → outcome_at events (job_at events d) ≡ publish.Published
pending_published events d h =
    let inputs = inputs_at events d.site d.day in
    let awaits = unwrap_or (awaited events d.site d.day) 0 in
    outcome_same (awaited events d.site d.day) awaits awaits (same_inputs inputs inputs) (awaited_some (awaited events d.site d.day) h) refl
    ∙ ap (λ b. cond b publish.Published publish.Foreign) (told_true inputs inputs refl)

-- the first pending day that passes a test, of which this is the job
pub record IsTurn (events : List Event) (q : SiteDay → Bool) (job : DayJob) (d : SiteDay) : Type 0 where
  pub found : find q (pending_days events) ≡ Some d
  pub job_is : job ≡ job_at events d
  pub due : outcome_at events job ≡ publish.Published

turn_step : (events : List Event) (q : SiteDay → Bool) (job : DayJob) (o : Option SiteDay) → find q (pending_days events) ≡ o
    → Some job ≡ option_map (job_at events) o → (d : SiteDay) × IsTurn events q job d
turn_step events q job None e h = absurd (cc)
turn_step events q job (Some d) e h =
    let own : job ≡ job_at events d = cc in
    let pending : IsPending events d = subst (λ o. IfSome o (IsPending events)) e (found_of_all (IsPending events) q (pending_days events) (all_pending events)) in
    (d, record { found = e; job_is = own; due = ap (outcome_at events) own ∙ pending_published events d pending })

pub turned : (events : List Event) (q : SiteDay → Bool) (job : DayJob) → Some job ≡ option_map (job_at events) (find q (pending_days events))
    → (d : SiteDay) × IsTurn events q job d
turned events q job first = turn_step events q job (find q (pending_days events)) refl first

-- the first pending day that passes a test was published, behind a claim or not
pub turn_history : (old claimed new : Registered) (q : SiteDay → Bool) (job : DayJob) → claimed.history ≡ old.history
    → Some job ≡ option_map (job_at old.history.events) (find q (pending_days old.history.events))
    → new.history ≡ after_publications claimed.history (day_of job ∷ []) → new.history ≡ after_publication old.history (find q (pending_days old.history.events))
turn_history old claimed new q job same first published =
    let turn = (turned old.history.events q job first).1 in
    published
    ∙ ap (λ (h : History). after_publications h (day_of job ∷ [])) same
    ∙ ap (λ (j : DayJob). after_publications old.history (day_of j ∷ [])) turn.job_is
    ∙ ap (after_publication old.history) (sym turn.found)

-- whether a claim is out hangs on the day, and on where the site stands
pub out_by : (cells : List KeptDays) (own site : SiteNumber) (its day : ℤ) → is_day_of own its site day ≡ true → is_out_in cells site day ≡ is_out_in cells own its
out_by cells own site its day h =
    let parts = and_parts (same_site own site) (int_eq its day) h in
    ap (λ n. unwrap_or (option_map (λ (s : KeptDays). is_out_on s day) (at station_rank n cells)) false) (sym (places_equal own site parts.0))
    ∙ ap (λ d. is_out_in cells own d) (sym ((Decides-int_eq its day).0 parts.1))

claim_step : (cells : List KeptDays) (own site : SiteNumber) (its day : ℤ) (b : Bool) → is_day_of own its site day ≡ b → is_out_in cells own its ≡ false
    → cond b false (cond b true (is_out_in cells site day)) ≡ is_out_in cells site day
claim_step cells own site its day true e h = sym (out_by cells own site its day e ∙ h)
claim_step cells own site its day false e h = refl

-- a claim that was taken for a turn is no longer out behind it
pub turn_claims : (old claimed new : Registered) (job : DayJob) (d : SiteDay) → first_unclaimed old ≡ Some d → job ≡ job_at old.history.events d
    → TakesClaim old claimed job → EndsClaim claimed new job → KeepsClaims old new
turn_claims old claimed new job d found own taken ended site day =
    let none : is_out old d.site d.day ≡ false =
    not-true (is_out old d.site d.day) (found_passes (λ (d : SiteDay). not (is_out old d.site d.day)) (pending_days old.history.events) d found) in
    let here : is_out old job.site job.day ≡ false = ap (λ (j : DayJob). is_out old j.site j.day) own ∙ none in
    ended site day
    ∙ ap (λ b. cond (is_day_of job.site job.day site day) false b) (taken site day)
    ∙ claim_step old.cells job.site site job.day day (is_day_of job.site job.day site day) refl here

-- of all pending days the first one is found
found : (events : List Event) (job : DayJob) → Some job ≡ option_map (job_at events) (slice_get (pending_days events) 0)
    → Some job ≡ option_map (job_at events) (find (λ d. true) (pending_days events))
found events job first = first ∙ ap (λ o. option_map (job_at events) o) (first_found (pending_days events))

pub next_due : (events : List Event) (job : DayJob) → Some job ≡ option_map (job_at events) (slice_get (pending_days events) 0)
    → outcome_at events job ≡ publish.Published
next_due events job first = (turned events (λ d. true) job (found events job first)).1.due

-- the first pending day was published
module _ (old new : Registered) (job : DayJob) (first : Some job ≡ option_map (job_at old.history.events) (slice_get (pending_days old.history.events) 0)) where
  pub next_history : new.history ≡ after_publications old.history (day_of job ∷ []) → new.history ≡ after_turn old.history
  next_history published =
      turn_history old old new (λ d. true) job refl (found old.history.events job first) published
      ∙ ap (after_publication old.history) (sym (first_found (pending_days old.history.events)))

  pub next_claims : EndsClaim old new job → IfSome (next_day old.history) (λ d. (site : SiteNumber) (day : ℤ)
      → is_out new site day ≡ cond (is_day_of d.site d.day site day) false (is_out old site day))
  next_claims ended =
      let turn = (turned old.history.events (λ d. true) job (found old.history.events job first)).1 in
      subst (λ o. IfSome o (λ d. (site : SiteNumber) (day : ℤ) → is_out new site day ≡ cond (is_day_of d.site d.day site day) false (is_out old site day)))
      (sym (first_found (pending_days old.history.events) ∙ turn.found))
      (λ site day. ended site day ∙ ap (λ (j : DayJob). cond (is_day_of j.site j.day site day) false (is_out old site day)) turn.job_is)

-- what holds anyway holds of what there is
pub anyway : {A : Type 0} (o : Option A) (X : Type 0) → X → IfSome o (λ _. X)
anyway None X h = tt
anyway (Some x) X h = h
