-- A fault leaves the pending days as they are, so it can be counted where an edit could be accepted.
use Rattle.std.specs.Prelude.{◌≡◌, ℕ, ◌+◌, ◌<◌, ◌^◌, List, [], ◌∷◌, ◌++◌, length, map, is_some, Option, sum_by, ℤ}
use Rattle.std.proofs.Common.{arith, refl, ap, sym, subst, ◌∙◌, length-append, get_or}
use Rattle.approval.specs.Kept.{KeptSite}
use Rattle.day_cells.specs.KeptDays.{KeptDays}
use Rattle.edits.specs.declared.content.Edit.{Edit}
use Rattle.fixed_units.specs.Calendar.{calendar}
use Rattle.fixed_units.specs.Quantities.{SiteNumber}
use Rattle.history.specs.Accepted.{edit_of, stations_at}
use Rattle.history.specs.After.{MayLeaveInDoubt, after_fault}
use Rattle.history.specs.Awaited.{is_pending, pending_days}
use Rattle.history.specs.Events.{Event, Faulted, History}
use Rattle.history.specs.Verdicts.{Accepts, record_of, verdict}
use Rattle.history.proofs.CountLemmas.{filter_same, sums_same}
use Rattle.history.proofs.EventLemmas.{accepted_faulted, awaited_faulted}
use Rattle.history.proofs.LegalLemmas.{left_may_be_kept}
use Rattle.history.proofs.PendingLemmas.{pending_at, pending_sum, pending_more}
use Rattle.history.proofs.VerdictLemmas.{accepted_parts}
use Rattle.office_inputs.specs.Kept.{InForce, AreStations}
use Rattle.office_inputs.specs.Stations.{place_of, stations_of}
use Rattle.station_inputs.specs.Stations.{StationState}
use Rattle.records.specs.Sheets.{Record}
use Rattle.records.specs.declared.formats.Format.{Format}
use Rattle.office_inputs.specs.declared.limits.Limits.{Limits}
use Rattle.register.specs.Keeping.{Keeps, KeepsToTheLimit}
use Rattle.register.specs.References.{Placed}
use Rattle.register.specs.Registered.{Registered, registered, IsReady}
use Rattle.register.proofs.KeepsLemmas.{keeps_faulted}
use Rattle.register.proofs.ReadyLemmas.{ready_kept}
use Rattle.register.proofs.RiseLemmas.{rising_stations}
use Rattle.rising.specs.Lists.{IsRising}

module _ (events : List Event) (doubt : Option Record) where
  abbrev more : List Event
  more = events ++ Faulted doubt ∷ []

  pending_there : (site : SiteNumber) → pending_at more site ≡ pending_at events site
  pending_there site =
      ap (λ (days : List ℤ). length days)
      (filter_same (is_pending more site) (is_pending events site) calendar (λ k d l. ap (λ (o : Option ℕ). is_some o) (awaited_faulted events doubt site (get_or calendar k d))))

  pub pending_faulted : length (pending_days more) ≡ length (pending_days events)
  pending_faulted =
      pending_sum more
      ∙ ap (λ (pieces : List Record). sum_by (λ (s : StationState). pending_at more s.site) (stations_of (map edit_of pieces))) (accepted_faulted events doubt)
      ∙ sums_same (λ (s : StationState). pending_at events s.site) (λ (s : StationState). pending_at more s.site) (stations_at events)
      (λ k d l. pending_there (get_or (stations_at events) k d).site)
      ∙ sym (pending_sum events)

pub fault_keeps_to : (h : History) (edit : Edit) (doubt : Option Record) → IsRising place_of (stations_at h.events) → verdict h edit ≡ Accepts
    → KeepsToTheLimit (after_fault h doubt)
fault_keeps_to h edit doubt rising v =
    let room = (accepted_parts h edit v).events in
    let more = pending_more h.events (record_of h edit) rising in
    let same = pending_faulted h.events doubt in
    let one = length-append h.events (Faulted doubt ∷ []) in
    omega (arith, room, more, same, one)

pub fault_fits : (h : History) (edit : Edit) (doubt : Option Record) → IsRising place_of (stations_at h.events) → verdict h edit ≡ Accepts → h.limits.events < 2 ^ 64
    → length (h.events ++ Faulted doubt ∷ []) + length (pending_days (h.events ++ Faulted doubt ∷ [])) < 2 ^ 64
fault_fits h edit doubt rising v small =
    let room = fault_keeps_to h edit doubt rising v in
    omega (arith, room, small)

-- what is kept in memory after a fault
module _ (opened : ℕ) (format : Format) (inputs : InForce) (cells : List KeptDays) (places : List Placed) (statuses : List KeptSite) (spare : ℕ) (events : List Event)
    (pieces : List Record) (count bytes : ℕ) (kept : Keeps (registered opened format inputs cells places statuses spare events) pieces count bytes)
    (now : Registered) (view : registered opened format inputs cells places statuses spare events ≡ now) (edit : Edit) (accepts : verdict now.history edit ≡ Accepts)
    (stations : AreStations inputs.kept) (limits : Limits) (same : limits ≡ inputs.limits) (small : limits.events < 2 ^ 64) (doubt : Option Record)
    (may : MayLeaveInDoubt now.history edit doubt) where
  fits_here : length (events ++ Faulted doubt ∷ []) + length (pending_days (events ++ Faulted doubt ∷ [])) < 2 ^ 64
  fits_here =
      fault_fits (record { opened = opened; limits = inputs.limits; format = format; events = events }) edit doubt
      (rising_stations inputs.kept (stations_at events) stations kept.stations)
      (subst (λ (r : Registered). verdict r.history edit ≡ Accepts) (sym view) accepts)
      (subst (λ (l : Limits). l.events < 2 ^ 64) same small)

  pub fault_counted : count + 1 < 2 ^ 64
  fault_counted =
      let fits = fits_here in
      let one = length-append events (Faulted doubt ∷ []) in
      let counted = kept.events_are in
      omega (arith, fits, one, counted)

  pub keeps_fault : (since : List Event) → since ≡ events ++ Faulted doubt ∷ [] → Keeps (registered opened format inputs cells places statuses spare since) pieces (count + 1) bytes
  keeps_fault since e =
      subst (λ (x : List Event). Keeps (registered opened format inputs cells places statuses spare x) pieces (count + 1) bytes) (sym e)
      (keeps_faulted opened format inputs cells places statuses spare events pieces count bytes kept doubt (count + 1)
      (left_may_be_kept (record { opened = opened; limits = inputs.limits; format = format; events = events }) edit doubt
      (subst (λ (r : Registered). verdict r.history edit ≡ Accepts) (sym view) accepts) kept.legal
      (subst (λ (r : Registered). MayLeaveInDoubt r.history edit doubt) (sym view) may)) refl fits_here)

  pub ready_after_fault : (since : List Event) → since ≡ events ++ Faulted doubt ∷ [] → (other : Edit) → IsReady now other
      → IsReady (registered opened format inputs cells places statuses spare since) other
  ready_after_fault since e other h =
      subst (λ (x : List Event). IsReady (registered opened format inputs cells places statuses spare x) other) (sym e)
      (ready_kept opened format inputs cells places statuses events spare (events ++ Faulted doubt ∷ []) other (accepted_faulted events doubt)
      (subst (λ (r : Registered). IsReady r other) (sym view) h))
