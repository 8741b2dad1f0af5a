-- Pending days are published one behind another: the history stays legal, and keeps to its limit.
use Rattle.std.specs.Prelude.{◌≡◌, ◌≢◌, ◌↔◌, ℕ, List, [], ◌∷◌, ◌++◌, map, take, drop, All, Option, Some, None, IfSome}
use Rattle.std.proofs.Common.{refl, ap, sym, subst}
use Rattle.std.proofs.lemmas.List.{append_assoc, append-nil, take-append-drop}
use Rattle.std.proofs.lemmas.List.Elements.{All-head}
use Rattle.day_inputs.specs.Equality.{same_inputs}
use Rattle.fixed_units.specs.Quantities.{IsDay}
use Rattle.history.specs.Accepted.{stations_at}
use Rattle.history.specs.After.{after_publication, after_publications, go_on, publication}
use Rattle.history.specs.Awaited.{SiteDay, awaited, inputs_at, pending_days}
use Rattle.history.specs.Events.{Event, History}
use Rattle.history.specs.Legal.{IsLegal}
use Rattle.history.proofs.JobLemmas.{inputs_stay}
use Rattle.history.proofs.LegalLemmas.{legal_more, may_publish}
use Rattle.recompute.specs.Jobs.{DayJob}
use Rattle.recompute.specs.declared.jobs.Publish.TheVariants.{Foreign, Published}
use Rattle.recompute.proofs.OutcomeLemmas.{outcome_where_awaited, told_true}
use Rattle.register.specs.Asked.{day_of, job_at, outcome_at}
use Rattle.register.specs.Keeping.{KeepsToTheLimit}
use Rattle.register.specs.Registered.{Registered, first_unclaimed}
use Rattle.register.proofs.FoundLemmas.{found_of_all}
use Rattle.register.proofs.LimitLemmas.{days_are, one_fewer, publication_keeps_to}
use Rattle.register.proofs.PublishLemmas.{published_awaits}
use Rattle.register.proofs.SettleLemmas.{rest_left}
use Rattle.register.proofs.TurnLemmas.{IsPending, all_pending}

-- each of these days is pending where it is published
abbrev pub ArePublished : List Event → List SiteDay → Type 0
ArePublished events [] = Unit {0}
ArePublished events (d ∷ days) = IsDay d.day × IsPending events d × ArePublished (events ++ publication d ∷ []) days

-- the first of the pending days, in order
first_published : (events : List Event) (days rest : List SiteDay) → pending_days events ≡ days ++ rest → ArePublished events days
first_published events [] rest e = tt
first_published events (d ∷ days) rest e =
    let pending : IsPending events d = All-head (IsPending events) d (days ++ rest) (subst (All (IsPending events)) e (all_pending events)) in
    let day : IsDay d.day =
    All-head (λ (d : SiteDay). IsDay d.day) d (days ++ rest) (subst (All (λ (d : SiteDay). IsDay d.day)) e (days_are events (stations_at events))) in (
      day,
      pending,
      first_published (events ++ publication d ∷ []) days rest (rest_left events d (days ++ rest) e (one_fewer events d.site d.day day pending)),
    )

pub some_published : (events : List Event) (count : ℕ) → ArePublished events (take count (pending_days events))
some_published events count =
    first_published events (take count (pending_days events)) (drop count (pending_days events)) (sym (take-append-drop count (pending_days events)))

-- no event more
pub went_nowhere : (h : History) → h ≡ go_on h []
went_nowhere h = ap (λ (l : List Event). record { opened = h.opened; limits = h.limits; format = h.format; events = l }) (sym (append-nil h.events))

-- one day, and then others
one_then_others : (h : History) (d : SiteDay) (days : List SiteDay) → after_publications (after_publications h (d ∷ [])) days ≡ after_publications h (d ∷ days)
one_then_others h d days =
    ap (λ (l : List Event). record { opened = h.opened; limits = h.limits; format = h.format; events = l }) (append_assoc h.events (publication d ∷ []) (map publication days))

pub legal_published : (h : History) (days : List SiteDay) → ArePublished h.events days → IsLegal h → IsLegal (after_publications h days)
legal_published h [] p k = subst IsLegal (went_nowhere h) k
legal_published h (d ∷ days) p k =
    subst IsLegal (one_then_others h d days)
    (legal_published (after_publications h (d ∷ [])) days p.2 (legal_more h (publication d) k (may_publish h d.site d.day p.1)))

pub published_keep : (h : History) (days : List SiteDay) → ArePublished h.events days → KeepsToTheLimit h → KeepsToTheLimit (after_publications h days)
published_keep h [] p k = subst KeepsToTheLimit (went_nowhere h) k
published_keep h (d ∷ days) p k =
    subst KeepsToTheLimit (one_then_others h d days)
    (published_keep (after_publications h (d ∷ [])) days p.2 (publication_keeps_to h d k p.0 p.1))

-- the first pending day whose claim is not out, if there is one
abbrev pub few_days : Option SiteDay → List SiteDay
few_days None = []
few_days (Some d) = d ∷ []

pub after_few : (h : History) (day : Option SiteDay) → after_publication h day ≡ after_publications h (few_days day)
after_few h None = went_nowhere h
after_few h (Some d) = refl

few_published : (events : List Event) (day : Option SiteDay) → IfSome day (λ (d : SiteDay). IsDay d.day) → IfSome day (IsPending events)
    → ArePublished events (few_days day)
few_published events None h k = tt
few_published events (Some d) h k = (h, k, tt)

pub unclaimed_published : (r : Registered) → ArePublished r.history.events (few_days (first_unclaimed r))
unclaimed_published r =
    let events = r.history.events in
    few_published events (first_unclaimed r) (found_of_all (λ (d : SiteDay). IsDay d.day) _ (pending_days events) (days_are events (stations_at events)))
    (found_of_all (IsPending events) _ (pending_days events) (all_pending events))

-- a value is published of a pending day
pub published_pending : (events : List Event) (job : DayJob) → outcome_at events job ≡ Published → IsPending events (day_of job)
published_pending events job e =
    published_awaits (awaited events job.site job.day) job.awaits (same_inputs job.inputs (inputs_at events job.site job.day)) e

-- a job of a day that awaited its edit is published where the day still does
pub job_outcome : (events since : List Event) (d : SiteDay) → awaited events d.site d.day ≡ Some (job_at events d).awaits
    → (outcome_at (events ++ since) (job_at events d) ≡ Published ↔ awaited (events ++ since) d.site d.day ≡ Some (job_at events d).awaits)
    × (outcome_at (events ++ since) (job_at events d) ≢ Foreign)
job_outcome events since d h =
    outcome_where_awaited (awaited (events ++ since) d.site d.day) (job_at events d).awaits
    (same_inputs (inputs_at events d.site d.day) (inputs_at (events ++ since) d.site d.day))
    (λ e. told_true (inputs_at events d.site d.day) (inputs_at (events ++ since) d.site d.day)
    (sym (inputs_stay d.site d.day events since (job_at events d).awaits h e)))
