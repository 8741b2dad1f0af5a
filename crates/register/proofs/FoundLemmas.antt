-- The job of the first waiting day that passes a test is that of the first pending day that does.
use Rattle.std.specs.Prelude.{◌≡◌, ℕ, Bool, true, false, not, ◌&&◌, ◌||◌, cond, List, [], ◌∷◌, filter, find, slice_get, All, Option, Some, None, IfSome, option_map, unwrap_or, ℤ, int_lt}
use Rattle.std.specs.List.{flat_map}
use Rattle.std.specs.Ordering.{int_eq}
use Rattle.std.proofs.Common.{refl, ap, sym, subst, ◌∙◌}
use Rattle.std.proofs.lemmas.Bool.Decides.{Decides-int_eq}
use Rattle.std.proofs.lemmas.List.Elements.{All-nil, All-append, All-head, All-tail, All-map, All-filter, All-weaker}
use Rattle.day_cells.specs.KeptDays.{KeptDays}
use Rattle.day_cells.specs.Sites.{station_rank}
use Rattle.day_cells.specs.declared.waiting.Waiting.{Waiting}
use Rattle.fixed_units.specs.Calendar.{calendar}
use Rattle.fixed_units.specs.Quantities.{SiteNumber, IsDay, IsSite, site_place}
use Rattle.fixed_units.proofs.SiteLemmas.{Decides-same_site}
use Rattle.history.specs.Accepted.{stations_at}
use Rattle.history.specs.Awaited.{SiteDay, awaited, is_pending, pending_of, pending_days}
use Rattle.history.specs.Events.{Event}
use Rattle.history.proofs.PendingLemmas.{calendar_days}
use Rattle.office_inputs.specs.Kept.{AreStations, in_force}
use Rattle.office_inputs.specs.Stations.{place_of, inputs_of_day}
use Rattle.station_inputs.specs.Stations.{StationState}
use Rattle.recompute.specs.Cells.{waiting, is_behind}
use Rattle.recompute.specs.Jobs.{DayJob, job_of}
use Rattle.records.specs.Sheets.{Record}
use Rattle.register.specs.Asked.{job_at, comes_after, next_after}
use Rattle.register.specs.Keeping.{Keeps, Tells}
use Rattle.register.specs.Registered.{Registered, first_unclaimed}
use Rattle.register.proofs.RiseLemmas.{rising_stations, sites_in_range}
use Rattle.register.proofs.WaitingLemmas.{Told, of_waiting, of_day, found_told}
use Rattle.rising.specs.Lists.{IsRising}

-- what holds of each element holds of the one that is found
found_step : {X : Type 0} (P : X → Type 0) (q : X → Bool) (x : X) (xs : List X) (b : Bool) → P x → IfSome (find q xs) P → IfSome (cond b (Some x) (find q xs)) P
found_step P q x xs true h k = h
found_step P q x xs false h k = k

pub found_of_all : {X : Type 0} (P : X → Type 0) (q : X → Bool) (xs : List X) → All P xs → IfSome (find q xs) P
found_of_all P q [] h = tt
found_of_all P q (x ∷ xs) h = found_step P q x xs (q x) (All-head P x xs h) (found_of_all P q xs (All-tail P x xs h))

-- the first element is the one that is found where each passes
pub first_found : {X : Type 0} (xs : List X) → slice_get xs 0 ≡ find (λ x. true) xs
first_found [] = refl
first_found (x ∷ xs) = refl

-- a day of the calendar, of a site in range
pub record InRange (d : SiteDay) : Type 0 where
  pub site : IsSite d.site
  pub day : IsDay d.day

days_in_range : (events : List Event) (stations : List StationState) → All (λ (s : StationState). IsSite s.site) stations
    → All InRange (flat_map (pending_of events) stations)
days_in_range events [] h = All-nil InRange
days_in_range events (s ∷ stations) h =
    let here = All-head (λ (s : StationState). IsSite s.site) s stations h in
    All-append InRange (pending_of events s) (flat_map (pending_of events) stations)
    (All-map InRange (λ day. record { site = s.site; day = day }) (filter (is_pending events s.site) calendar)
    (All-filter (is_pending events s.site) (λ day. InRange (record { site = s.site; day = day })) calendar
    (All-weaker IsDay (λ day. InRange (record { site = s.site; day = day })) (λ day k. record { site = here; day = k }) calendar calendar_days)))
    (days_in_range events stations (All-tail (λ (s : StationState). IsSite s.site) s stations h))

-- each pending day is one of the calendar, of a site in range
pub pending_in_range : (events : List Event) → All (λ (s : StationState). IsSite s.site) (stations_at events) → All InRange (pending_days events)
pending_in_range events h = days_in_range events (stations_at events) h

same_site_number : (a b : SiteNumber) → IsSite a → IsSite b → site_place a ≡ site_place b → a ≡ b
same_site_number a b h k e = (Decides-same_site a b h k).0 ((Decides-int_eq (site_place a) (site_place b)).1 e)

same_job : (a b : SiteNumber) (x y : ℤ) (m n : ℕ) (s t : List StationState) → a ≡ b → x ≡ y → m ≡ n → s ≡ t
    → ◌≡◌ {A = DayJob} (record { site = a; day = x; awaits = m; inputs = inputs_of_day s a x }) (record { site = b; day = y; awaits = n; inputs = inputs_of_day t b y })
same_job a b x y m n s t e f g h = rw (e, f, g, h) refl

module _ (events : List Event) (cells : List KeptDays) (told : Tells events cells) (stations : List StationState) (same : stations ≡ stations_at events) where
  told_job : (w : Waiting) (d : SiteDay) → of_waiting w ≡ of_day events cells d → IsSite w.site → IsSite d.site → job_of stations w ≡ job_at events d
  told_job w d e h k =
      same_job w.site d.site w.day d.day w.awaits (unwrap_or (awaited events d.site d.day) 0) stations (stations_at events)
      (same_site_number w.site d.site h k (ap (λ (t : Told). t.place) e)) (ap (λ (t : Told). t.day) e) (ap (λ (t : Told). t.awaits) e) same

  job_step : (o : Option Waiting) (p : Option SiteDay) → option_map of_waiting o ≡ option_map (of_day events cells) p
      → IfSome (option_map (job_of stations) o) (λ (j : DayJob). IsSite j.site) → IfSome p InRange
      → option_map (job_of stations) o ≡ option_map (job_at events) p
  job_step None None e h k = refl
  job_step None (Some d) e h k = absurd (cc)
  job_step (Some w) None e h k = absurd (cc)
  job_step (Some w) (Some d) e h k =
      let t : of_waiting w ≡ of_day events cells d = cc in
      ap (λ (j : DayJob). Some j) (told_job w d t h k.site)

  found_job : IsRising station_rank cells → IsRising place_of (stations_at events) → All (λ (s : StationState). IsSite s.site) (stations_at events)
      → (q : Told → Bool) (job : Option DayJob) → job ≡ option_map (job_of stations) (find (λ w. q (of_waiting w)) (waiting cells))
      → IfSome job (λ (j : DayJob). IsSite j.site) → job ≡ option_map (job_at events) (find (λ d. q (of_day events cells d)) (pending_days events))
  found_job rising stations_rise sites q job e h =
      e ∙ job_step (find (λ w. q (of_waiting w)) (waiting cells)) (find (λ d. q (of_day events cells d)) (pending_days events))
      (found_told events cells told rising stations_rise q) (subst (λ o. IfSome o (λ (j : DayJob). IsSite j.site)) e h)
      (found_of_all InRange (λ d. q (of_day events cells d)) (pending_days events) (pending_in_range events sites))

module _ (r : Registered) (pieces : List Record) (events bytes : ℕ) (keeps : Keeps r pieces events bytes) (kept : AreStations r.inputs.kept)
    (rising : IsRising station_rank r.cells) (job : Option DayJob) (here : IfSome job (λ (j : DayJob). IsSite j.site)) where
  found : (q : Told → Bool) → job ≡ option_map (job_of (in_force r.inputs)) (find (λ w. q (of_waiting w)) (waiting r.cells))
      → job ≡ option_map (job_at r.history.events) (find (λ d. q (of_day r.history.events r.cells d)) (pending_days r.history.events))
  found q e =
      found_job r.history.events r.cells keeps.cells_tell (in_force r.inputs) keeps.stations rising
      (rising_stations r.inputs.kept (stations_at r.history.events) kept keeps.stations)
      (sites_in_range r.inputs.kept (stations_at r.history.events) kept keeps.stations) q job e here

  pub unclaimed_job : job ≡ option_map (job_of (in_force r.inputs)) (find (λ w. not w.out) (waiting r.cells))
      → job ≡ option_map (job_at r.history.events) (first_unclaimed r)
  unclaimed_job e = found (λ t. not t.out) e

  first_job : job ≡ option_map (job_of (in_force r.inputs)) (slice_get (waiting r.cells) 0)
      → job ≡ option_map (job_at r.history.events) (slice_get (pending_days r.history.events) 0)
  first_job e =
      found (λ t. true) (e ∙ ap (λ o. option_map (job_of (in_force r.inputs)) o) (first_found (waiting r.cells)))
      ∙ ap (λ o. option_map (job_at r.history.events) o) (sym (first_found (pending_days r.history.events)))

  later_job : (site : SiteNumber) (day : ℤ) → job ≡ option_map (job_of (in_force r.inputs)) (find (is_behind site day) (waiting r.cells))
      → job ≡ option_map (job_at r.history.events) (find (comes_after site day) (pending_days r.history.events))
  later_job site day e = found (λ t. int_lt (site_place site) t.place || (int_eq (site_place site) t.place && int_lt day t.day)) e

  pub next_job : (last : Option (SiteNumber × ℤ)) → (last ≡ None → job ≡ option_map (job_of (in_force r.inputs)) (slice_get (waiting r.cells) 0))
      → IfSome last (λ l. job ≡ option_map (job_of (in_force r.inputs)) (find (is_behind l.0 l.1) (waiting r.cells)))
      → job ≡ option_map (job_at r.history.events) (next_after last (pending_days r.history.events))
  next_job None first behind = first_job (first refl)
  next_job (Some l) first behind = later_job l.0 l.1 behind
