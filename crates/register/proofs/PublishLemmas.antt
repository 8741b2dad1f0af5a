-- A publication: what was pending, and what is kept behind it.
use Rattle.std.specs.Prelude.{◌≡◌, ℕ, ◌+◌, ◌<◌, ◌^◌, Bool, true, false, List, [], ◌∷◌, ◌++◌, length, map, Option, Some, None, is_some, cond, ◌==◌}
use Rattle.std.proofs.Common.{arith, refl, ap, sym, subst, ◌∙◌, length-append}
use Rattle.daily_values.specs.DayValue.{day_value}
use Rattle.day_inputs.specs.Equality.{same_inputs}
use Rattle.day_inputs.proofs.EqualityLemmas.{Decides-same_inputs}
use Rattle.daily_values.specs.declared.day_values.DayValue.{DayValue}
use Rattle.approval.specs.Kept.{KeptSite}
use Rattle.day_cells.specs.KeptDays.{KeptDays}
use Rattle.day_cells.specs.Sites.{station_rank}
use Rattle.fixed_units.specs.Quantities.{IsDay}
use Rattle.history.specs.Accepted.{edit_of, stations_at}
use Rattle.history.specs.Awaited.{awaited, is_pending, pending_days, value_at}
use Rattle.history.specs.Events.{Event, Published}
use Rattle.history.proofs.EventLemmas.{accepted_published}
use Rattle.office_inputs.specs.Kept.{InForce, AreStations, in_force}
use Rattle.office_inputs.specs.Stations.{place_of, stations_of, inputs_of_day}
use Rattle.station_inputs.specs.Stations.{StationState}
use Rattle.recompute.specs.Cells.{Publishes, awaited_in, waiting}
use Rattle.recompute.specs.Jobs.{DayJob, outcome_by, outcome_of}
use Rattle.recompute.specs.declared.jobs.Publish.TheVariants as publish
use Rattle.recompute.proofs.OutcomeLemmas.{outcome_where_awaited}
use Rattle.records.specs.Sheets.{Record}
use Rattle.records.specs.declared.formats.Format.{Format}
use Rattle.register.specs.Asked.{outcome_at}
use Rattle.register.specs.Keeping.{Keeps, Tells}
use Rattle.register.specs.References.{Placed}
use Rattle.register.specs.Registered.{registered}
use Rattle.register.proofs.KeepsLemmas.{keeps_published}
use Rattle.register.proofs.RiseLemmas.{rising_stations}
use Rattle.register.proofs.TellsLemmas.{tells_published}
use Rattle.register.proofs.WaitingLemmas.{waiting_count}
use Rattle.rising.specs.Lists.{IsRising}

-- what is published was awaited
pub published_awaits : (o : Option ℕ) (awaits : ℕ) (same : Bool) → outcome_by o awaits same ≡ publish.Published → is_some o ≡ true
published_awaits None awaits same h = absurd (cc)
published_awaits (Some edit) awaits same h = refl

-- what is published is told as nothing else
none_other : (b : Bool) (edit : ℕ) → cond b publish.Foreign (publish.Superseded edit) ≡ publish.Published → ⊥
none_other true edit h = (cc)
none_other false edit h = (cc)

-- what is published is on the inputs in force, and its day awaits the job's edit
published_same : (o : Option ℕ) (awaits : ℕ) (same : Bool) → outcome_by o awaits same ≡ publish.Published → same ≡ true
published_same None awaits same h = absurd (cc)
published_same (Some edit) awaits true h = refl
published_same (Some edit) awaits false h = absurd (none_other (edit == awaits) edit h)

pub due_inputs : (cells : List KeptDays) (stations : List StationState) (job : DayJob) → outcome_of cells stations job ≡ publish.Published
    → job.inputs ≡ inputs_of_day stations job.site job.day
due_inputs cells stations job h =
    let now = inputs_of_day stations job.site job.day in
    (Decides-same_inputs job.inputs now).0 (published_same (awaited_in cells job.site job.day) job.awaits (same_inputs job.inputs now) h)

pub due_awaits : (cells : List KeptDays) (stations : List StationState) (job : DayJob) → outcome_of cells stations job ≡ publish.Published
    → awaited_in cells job.site job.day ≡ Some job.awaits
due_awaits cells stations job h =
    let same = same_inputs job.inputs (inputs_of_day stations job.site job.day) in
    let o = awaited_in cells job.site job.day in
    (outcome_where_awaited o job.awaits same (λ _. published_same o job.awaits same h)).0.0 h

-- the cells and the inputs in force tell what becomes of a publication
pub told_of_cells : (opened : ℕ) (format : Format) (inputs : InForce) (cells : List KeptDays) (places : List Placed) (statuses : List KeptSite) (spare : ℕ) (events : List Event)
    (pieces : List Record) (count bytes : ℕ) → Keeps (registered opened format inputs cells places statuses spare events) pieces count bytes
    → (job : DayJob) → IsDay job.day → outcome_at events job ≡ publish.Published → outcome_of cells (in_force inputs) job ≡ publish.Published
told_of_cells opened format inputs cells places statuses spare events pieces count bytes kept job day due =
    ap (λ (o : Option ℕ). outcome_by o job.awaits (same_inputs job.inputs (inputs_of_day (in_force inputs) job.site job.day)))
    (kept.cells_tell.awaited_told job.site job.day day)
    ∙ ap (λ (s : List StationState). outcome_by (awaited events job.site job.day) job.awaits (same_inputs job.inputs (inputs_of_day s job.site job.day))) kept.stations
    ∙ due

module _ (opened : ℕ) (format : Format) (inputs : InForce) (cells : List KeptDays) (places : List Placed) (statuses : List KeptSite) (spare : ℕ) (events : List Event)
    (pieces : List Record) (count bytes : ℕ) (kept : Keeps (registered opened format inputs cells places statuses spare events) pieces count bytes)
    (stations : AreStations inputs.kept) (rising : IsRising station_rank cells) (new : List KeptDays) (new_rising : IsRising station_rank new)
    (job : DayJob) (value : DayValue) (day : IsDay job.day) (told : outcome_of cells (in_force inputs) job ≡ publish.Published)
    (publishes : Publishes cells new job.site job.day value) (computed : value ≡ day_value (inputs_of_day (in_force inputs) job.site job.day)) where
  abbrev more : List Event
  more = events ++ Published job.site job.day ∷ []

  was_pending : is_pending events job.site job.day ≡ true
  was_pending =
      ap (λ (o : Option ℕ). is_some o) (sym (kept.cells_tell.awaited_told job.site job.day day))
      ∙ published_awaits _ _ _ told

  is_value : value ≡ value_at events job.site job.day
  is_value = computed ∙ ap (λ (s : List StationState). day_value (inputs_of_day s job.site job.day)) kept.stations

  now_told : Tells more new
  now_told = tells_published events cells new kept.cells_tell job.site job.day value is_value publishes

  stations_stay : stations_at events ≡ stations_at more
  stations_stay = ap (λ (ps : List Record). stations_of (map edit_of ps)) (sym (accepted_published events job.site job.day))

  stations_rise : IsRising place_of (stations_at events)
  stations_rise = rising_stations inputs.kept (stations_at events) stations kept.stations

  -- one day less is pending
  pub one_less : length (pending_days more) + 1 ≡ length (pending_days events)
  one_less =
      let before : length (waiting cells) ≡ length (pending_days events) = waiting_count events cells kept.cells_tell rising stations_rise in
      let after : length (waiting new) ≡ length (pending_days more) = waiting_count more new now_told new_rising (subst (IsRising place_of) stations_stay stations_rise) in
      let step = publishes.pending in
      omega (arith, before, after, step)

  -- one event more can be counted
  pub room : count + 1 < 2 ^ 64
  room =
      let counted = kept.events_are in
      let fits = kept.fits in
      let less = one_less in
      omega (arith, counted, fits, less)

  pub kept_published : Keeps (registered opened format inputs new places statuses spare more) pieces (count + 1) bytes
  kept_published =
      let whole : length more ≡ length events + 1 = length-append events (Published job.site job.day ∷ []) in
      let fits = kept.fits in
      let less = one_less in
      keeps_published opened format inputs cells places statuses spare events pieces count bytes kept job.site job.day value new (count + 1) was_pending is_value publishes refl
      (omega (arith, whole, fits, less))
